-- `angle_line`: degrees, a semicolon, a coefficient and the end, one behind the other.
use borrow.Author.Rules.{rules}
use mathlib.Core.Path.{◌≡◌, sym, ◌∙◌}
use native.Mathlib.Omega.{arith}
use mir.Syntax.{w64}
use mir.Val.{to_z, of_z}
use Rattle.lines.proofs.DigitRuns.{number_read_small}
use Rattle.lines.proofs.FurtherLines.{good_line, needs_degrees, needs_semicolon, needs_coefficient, needs_end}
use Rattle.lines.proofs.angle_line.Goals as goal

pub returns-in_err-turned : goal.returns-in_err-turned
returns-in_err-turned c = rw c.from_residual.ensures (λ a q. needs_degrees c.args.s.now c.args.at q c.in_err-turned.ensures)

pub returns-then-byte_at-ne59 : goal.returns-then-byte_at-ne59
returns-then-byte_at-ne59 c a q = needs_semicolon c.args.s.now c.args.at q c.in_ok-turned.ensures (rw c.byte_at.ensures at c.if-byte_at-ne59.true)

pub returns-in_err-measured : goal.returns-in_err-measured
returns-in_err-measured c = rw c.from_residual-in_err-measured.ensures (λ a q. needs_coefficient c.args.s.now c.args.at q c.in_ok-turned.ensures c.in_err-measured.ensures)

pub returns-in_err-next : goal.returns-in_err-next
returns-in_err-next c = rw c.from_residual-in_err-next.ensures (λ a q. needs_end c.args.s.now c.args.at q c.in_ok-turned.ensures c.in_ok-measured.ensures c.in_err-next.ensures)

pub degrees_of-requires : goal.degrees_of-requires
degrees_of-requires c = number_read_small c.in_ok-turned.ensures (omega arith)

pub returns : goal.returns
returns c =
    let d = c.in_ok-turned.ensures in
    let same : to_z w64 (of_z w64 c.degrees_of.result) ≡ c.degrees_of.result = search rules in
    good_line c.args.s.now c.args.at d (sym c.byte_at.ensures ∙ c.if-byte_at-ne59.false) c.in_ok-measured.ensures c.in_ok-next.ensures (same ∙ c.degrees_of.ensures)
