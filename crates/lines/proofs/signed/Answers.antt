-- `signed`: with a minus, or without one.
use mathlib.Core.Path.{sym, ◌∙◌}
use Rattle.lines.proofs.DigitRuns.{with_minus, without_minus}
use Rattle.lines.proofs.signed.Goals as goal

pub returns-then-byte_at-eq45 : goal.returns-then-byte_at-eq45
returns-then-byte_at-eq45 c = with_minus c.args.s.now c.args.at c.args.most c.unsigned.result (sym c.byte_at.ensures ∙ c.if-byte_at-eq45.true) c.unsigned.ensures

pub returns-else-byte_at-eq45 : goal.returns-else-byte_at-eq45
returns-else-byte_at-eq45 c = without_minus c.args.s.now c.args.at c.args.most c.unsigned-else-byte_at-eq45.result (rw c.byte_at.ensures at c.if-byte_at-eq45.false) c.unsigned-else-byte_at-eq45.ensures
