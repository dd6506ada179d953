-- Laws of writing: writes that follow one another are one write, and a copied table is a write of its bytes.
use mathlib.Core.Path.{◌≡◌, refl}
use mathlib.Core.List.{List, ◌++◌, append_assoc}
use Prim.Native.Nat.{ℕ, ◌+◌}
use native.Mathlib.Nat.{zero-add, le_refl}
use lib.ListN.{length, take, drop, length-append}
use lib.Seq.{paste, take_all}
use Rattle.little.specs.Little.{bytes, written}
use Rattle.little.proofs.Laws.{written_add}
use Rattle.layout.specs.declared.File.TheVariants.{Graph}
use Rattle.layout.specs.declared.Trailer.{Trailer}
use Rattle.layout.specs.Files.{mark, body}
use Rattle.writer.specs.GraphFile.{tables, counts, trailer}

-- a second write where the first ended
pub then : (s t u : List ℕ) (at : ℕ) (xs ys : List ℕ) → t ≡ written s at xs → u ≡ written t (at + length xs) ys → u ≡ written s at (xs ++ ys)
then s t u at xs ys e f = cc (e, f, written_add s at xs ys)

-- all elements copied
pub copied : (s : List ℕ) (at : ℕ) (t : List ℕ) → paste s at t (length t) ≡ written s at t
copied s at t = rw (take_all (length t) t (le_refl (length t))) (append_assoc (take at s) t (drop (at + length t) s))

module _ (n : Trailer) (at : ℕ) (s t u v w : List ℕ) where
  pub put_counts :
      t ≡ written s at (bytes 4 n.nodes) → u ≡ written t (at + 4) (bytes 4 n.edges) → v ≡ written u (at + 8) (bytes 4 n.rows)
      → w ≡ written v (at + 12) (bytes 4 n.text) → w ≡ written s at (counts n)
  put_counts e f g h =
      let two = bytes 4 n.nodes ++ bytes 4 n.edges in
      let three = two ++ bytes 4 n.rows in
      then s v w at three (bytes 4 n.text) (then s u v at two (bytes 4 n.rows) (then s t u at (bytes 4 n.nodes) (bytes 4 n.edges) e f) g) h

  pub put_trailer :
      (x : List ℕ) → t ≡ written s at (counts n) → u ≡ written t (at + 16) (bytes 2 n.labels) → v ≡ written u (at + 18) (bytes 2 n.names)
      → w ≡ written v (at + 20) (bytes 4 n.back) → x ≡ written w (at + 24) (bytes 4 0x31485047) → x ≡ written s at (trailer n)
  put_trailer x e f g h i =
      let two = counts n ++ bytes 2 n.labels in
      let three = two ++ bytes 2 n.names in
      let four = three ++ bytes 4 n.back in
      then s w x at four (mark Graph) (then s v w at three (bytes 4 n.back) (then s u v at two (bytes 2 n.names) (then s t u at (counts n) (bytes 2 n.labels) e f) g) h) i

module _ (ns es rs ts s t u v w : List ℕ) where
  -- each table where the one before ended
  pub put_tables :
      t ≡ written s 0 ns → u ≡ written t (length ns) es → v ≡ written u (length ns + length es) rs
      → w ≡ written v (length ns + length es + length rs) ts → w ≡ written s 0 (tables (body ns es rs ts))
  put_tables e f g h =
      let two : length (ns ++ es) ≡ length ns + length es = length-append ns es in
      let three : length (ns ++ es ++ rs) ≡ length ns + length es + length rs = rw (length-append, length-append) refl in
      then s v w 0 (ns ++ es ++ rs) ts (then s u v 0 (ns ++ es) rs (then s t u 0 ns es e (rw zero-add f)) (rw (zero-add, two) g)) (rw (zero-add, three) h)
