-- `unsigned`: at least one digit.
use Rattle.lines.proofs.DigitRuns.{no_digits}
use Rattle.lines.proofs.unsigned.Goals as goal

pub returns-then-end-at : goal.returns-then-end-at
returns-then-end-at c = no_digits c.digits-number.ensures c.if-end-at.true
