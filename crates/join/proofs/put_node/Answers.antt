-- `put_node` puts two words: the labels, and the run with its start raised.
use native.Mathlib.Omega.{arith}
use Rattle.join.proofs.Words.{Small, lower_raised, lower_room, two_words}
use Rattle.join.proofs.put_node.Goals as goal

pub overflow_add-u64_at : goal.overflow_add-u64_at
overflow_add-u64_at c =
    let small : Small c.args.row.now = λ i. omega (arith, c.type_inv.row i) in
    omega (arith, c.u64_at-2.ensures, lower_room c.args.row.now small 8 c.args.run c.requires.2)

pub returns : goal.returns
returns c =
    let row = c.args.row.now in
    let small : Small row = λ i. omega (arith, c.type_inv.row i) in
    rw (lower_raised row small 8 c.args.run (omega arith) c.requires.2)
    (two_words row small c.args.out.now _ _ c.args.at c.args.run c.requires.0 (rw c.u64_at.ensures at c.put_u64.ensures) (rw c.u64_at-2.ensures at c.put_u64-2.ensures))
