-- `write_joined` tries the counts and the output, and then puts the tables and the trailer.
use native.Mathlib.Omega.{arith}
use Rattle.join.proofs.Ending.{backs_small, back_is, back_small, too_high, too_short, wrote_joined}
use Rattle.join.proofs.Refusing.{told_again}
use Rattle.join.proofs.write_joined.Goals as goal

pub returns-in_err-g : goal.returns-in_err-g
returns-in_err-g c = told_again _ _ _ c.in_err-g.field-0.0 c.from_residual.result (c.in_err-g.ensures c.args.out.now) c.from_residual.ensures.1

pub numbers_of-n-requires : goal.numbers_of-n-requires
numbers_of-n-requires c = backs_small c.in_ok-g.ensures

pub returns-then-not-held : goal.returns-then-not-held
returns-then-not-held c = too_high c.in_ok-g.ensures c.numbers_of-n.ensures c.args.out.now (rw c.ceilings_of-most.ensures at c.if-not-held.ensures)

pub overflow_add-size : goal.overflow_add-size
overflow_add-size c = omega (arith, back_small c.in_ok-g.ensures c.numbers_of-n.ensures c.args.out.now (rw c.ceilings_of-most.ensures at c.if-not-held.ensures))

pub returns-then-out-size : goal.returns-then-out-size
returns-then-out-size c = too_short c.in_ok-g.ensures c.numbers_of-n.ensures c.args.out.now (rw c.ceilings_of-most.ensures at c.if-not-held.ensures) (omega (arith, c.if-out-size.true))

pub put_tables-requires : goal.put_tables-requires
put_tables-requires c = omega (arith, back_is c.in_ok-g.ensures c.numbers_of-n.ensures, c.if-out-size.false)

pub put_trailer-requires : goal.put_trailer-requires
put_trailer-requires c =
    let h = rw c.ceilings_of-most.ensures at c.if-not-held.ensures in
    (h, back_small c.in_ok-g.ensures c.numbers_of-n.ensures c.args.out.now h, omega (arith, c.put_tables.auto.out, c.if-out-size.false))

pub overflow_cast-result : goal.overflow_cast-result
overflow_cast-result c = omega (arith, back_small c.in_ok-g.ensures c.numbers_of-n.ensures c.args.out.now (rw c.ceilings_of-most.ensures at c.if-not-held.ensures))

pub returns : goal.returns
returns c =
    let h = rw c.ceilings_of-most.ensures at c.if-not-held.ensures in
    rw c.trailer_size.ensures.0 (wrote_joined c.in_ok-g.ensures c.numbers_of-n.ensures c.args.out.now h (omega (arith, c.if-out-size.false)) _ _ c.put_tables.ensures c.put_trailer.ensures)
