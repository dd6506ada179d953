-- Five numbers, each written where the one before ended, are one write of the whole answer; and how large the numbers of a file's tables are.
use mathlib.Core.Path.{◌≡◌}
use mathlib.Core.List.{List, ◌++◌}
use Prim.Native.Nat.{ℕ}
use native.Mathlib.Omega.{arith}
use lib.ListN.{drop}
use Rattle.little.specs.Little.{bytes, written}
use Rattle.meaning.specs.Answer.{Answer}
use Rattle.layout.specs.declared.File.TheVariants.{Graph}
use Rattle.layout.specs.declared.Tables.{Tables}
use Rattle.layout.specs.Files.{ceilings, tables_of}
use Rattle.layout.specs.Refusals.{FileAccepted}
use Rattle.layout.specs.Checked.{reply}
use Rattle.layout.proofs.Accepted.{sized, held}
use Rattle.parts.specs.Accepted.{with_tables}
use Rattle.parts.proofs.Laws.{ordered}
use Rattle.writer.proofs.Laws.{then}
use Rattle.havirozan.specs.Inner.{Small}

module _ (a : Answer) (s t u v w z : List ℕ) where
  pub put_five :
      t ≡ written s 0 (bytes 4 a.code) → u ≡ written t 4 (bytes 4 a.place) → v ≡ written u 8 (bytes 4 a.schema_place)
      → w ≡ written v 12 (bytes 4 a.count) → z ≡ written w 16 (bytes 4 a.property) → z ≡ reply a ++ drop 20 s
  put_five e f g h i =
      let one = bytes 4 a.code in
      let two = one ++ bytes 4 a.place in
      let three = two ++ bytes 4 a.schema_place in
      let four = three ++ bytes 4 a.count in
      let p = then s t u 0 one (bytes 4 a.place) e f in
      let q = then s u v 0 two (bytes 4 a.schema_place) p g in
      let r = then s v w 0 three (bytes 4 a.count) q h in
      then s w z 0 four (bytes 4 a.property) r i

-- a file has at most 1,048,576 bytes, and its tables start inside it
pub small_tables : {f : List ℕ} {t : Tables} → FileAccepted Graph (ceilings Graph) f → t ≡ tables_of Graph f → Small t
small_tables {f} {t} p e =
    let o = ordered {F = Graph} {f = f} {t = t} (with_tables p e) in
    let z = (sized Graph f (ceilings Graph) p).most in
    record { starts = omega (arith, o); counts = rw e (held Graph f (ceilings Graph) p) }
