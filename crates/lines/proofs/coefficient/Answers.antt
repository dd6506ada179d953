-- `coefficient`: digits, and perhaps a comma with digits behind it.
use mathlib.Core.Path.{sym, ◌∙◌}
use native.Mathlib.Omega.{arith}
use Rattle.lines.proofs.Texts.{within}
use Rattle.lines.proofs.DigitRuns.{number_read_small}
use Rattle.lines.proofs.Coefficients.{without_comma, with_fraction, no_number}
use Rattle.lines.proofs.coefficient.Goals as goal

pub returns-in_err-whole : goal.returns-in_err-whole
returns-in_err-whole c = rw c.from_residual.ensures (no_number c.args.s.now c.args.at c.in_err-whole.ensures)

pub fraction-requires : goal.fraction-requires
fraction-requires c = (omega (arith, within c.args.s.now c.in_ok-whole.whole.end (omega (arith, sym c.byte_at.ensures ∙ c.if-byte_at-eq44.true))), number_read_small c.in_ok-whole.ensures (omega arith))

pub quotient_of-requires : goal.quotient_of-requires
quotient_of-requires c = (omega (arith, number_read_small c.in_ok-whole.ensures (omega arith)), omega arith)

pub returns-then-byte_at-eq44 : goal.returns-then-byte_at-eq44
returns-then-byte_at-eq44 c = with_fraction c.args.s.now c.args.at c.in_ok-whole.ensures (sym c.byte_at.ensures ∙ c.if-byte_at-eq44.true) c.fraction.result c.fraction.ensures

pub returns-else-byte_at-eq44 : goal.returns-else-byte_at-eq44
returns-else-byte_at-eq44 c = without_comma c.args.s.now c.args.at c.in_ok-whole.ensures (rw c.byte_at.ensures at c.if-byte_at-eq44.false) c.quotient_of.ensures.0
