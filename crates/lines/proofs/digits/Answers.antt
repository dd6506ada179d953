-- `digits` reads digit after digit.
use native.Mathlib.Omega.{arith}
use Rattle.lines.proofs.DigitRuns.{so_small, next}
use Rattle.lines.proofs.digits.Goals as goal

pub overflow_mul-number : goal.overflow_mul-number
overflow_mul-number c = omega (arith, so_small c.args.s.now c.args.at c.args.most c.args.from c.loop-end.invariant c.requires.2 c.requires.1)

pub overflow_add-number : goal.overflow_add-number
overflow_add-number c =
    omega (arith, so_small c.args.s.now c.args.at c.args.most c.args.from c.loop-end.invariant c.requires.2 c.requires.1, c.in-Some.ensures.0.to, c.in-Some.ensures.1)

pub loop-end-preserved : goal.loop-end-preserved
loop-end-preserved c =
    rw c.in-Some.ensures.1 (next c.args.s.now c.args.at c.args.most c.args.from c.loop-end.invariant c.loop-end-test.true c.in-Some.ensures.0)
