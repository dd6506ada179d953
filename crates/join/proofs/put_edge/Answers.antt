-- `put_edge` puts three words: the labels, both ends raised, and the run with its start raised.
use Prim.Native.Nat.{◌+◌, ◌*◌}
use native.Mathlib.Omega.{arith}
use Rattle.join.proofs.Words.{Small, word_room, lower_room, three_words, edge_words}
use Rattle.join.proofs.put_edge.Goals as goal

pub overflow_add-u64_at : goal.overflow_add-u64_at
overflow_add-u64_at c = omega (arith, c.u64_at-2.ensures, word_room c.args.row.now 8 c.args.ends c.args.ends c.requires.2.0 c.requires.2.1)

pub overflow_add-u64_at-2 : goal.overflow_add-u64_at-2
overflow_add-u64_at-2 c =
    let small : Small c.args.row.now = λ i. omega (arith, c.type_inv.row i) in
    omega (arith, c.u64_at-3.ensures, lower_room c.args.row.now small 16 c.args.run c.requires.2.2)

pub returns : goal.returns
returns c =
    let row = c.args.row.now in
    let small : Small row = λ i. omega (arith, c.type_inv.row i) in
    rw (edge_words c.args.ends c.args.run row small c.requires.0 c.requires.2.0 c.requires.2.2)
    (three_words row small c.args.out.now _ _ c.args.at (c.args.ends + 4294967296 * c.args.ends) _ c.args.run c.requires.0 (rw c.u64_at.ensures at c.put_u64.ensures) (rw c.u64_at-2.ensures at c.put_u64-2.ensures) (rw c.u64_at-3.ensures at c.put_u64-3.ensures))
