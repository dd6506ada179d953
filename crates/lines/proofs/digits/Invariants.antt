-- `digits` reads digit after digit.
use Rattle.lines.proofs.DigitRuns.{Going}
use Rattle.lines.proofs.digits.Given as goal

abbrev pub invariant-loop-end : goal.invariant-loop-end
invariant-loop-end l = Going l.s l.at l.most l.from l.number l.end
