-- `put_property` puts two words: all before the value, and the value with a Text's offset raised.
use native.Mathlib.Omega.{arith}
use Rattle.join.specs.Inner.{offset_by}
use Rattle.join.proofs.Words.{Small, two_words, property_words}
use Rattle.join.proofs.put_property.Goals as goal

pub returns : goal.returns
returns c =
    let row = c.args.row.now in
    let small : Small row = λ i. omega (arith, c.type_inv.row i) in
    rw (property_words c.args.text row small c.requires.0)
    (two_words row small c.args.out.now _ _ c.args.at (offset_by c.args.text row) c.requires.0 (rw c.u64_at.ensures at c.put_u64.ensures) (rw (c.u64_at-2.ensures, c.offset_by-by.ensures) at c.put_u64-2.ensures))
