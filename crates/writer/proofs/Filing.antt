-- Laws of the file that tables give: how long it is, and what is left in the output.
use mathlib.Core.Path.{◌≡◌, refl, ◌∙◌, ap}
use mathlib.Core.List.{List}
use Prim.Native.Nat.{ℕ, ◌+◌, ◌≤◌, ◌<◌}
use native.Mathlib.Nat.{zero-add}
use native.Mathlib.Omega.{arith}
use lib.ListN.{length, length-append}
use Rattle.little.specs.Little.{written}
use Rattle.layout.specs.declared.Trailer.{Trailer}
use Rattle.layout.specs.Files.{Body}
use Rattle.layout.specs.Refusals.{here, later}
use Rattle.reader.proofs.Laws.{fails}
use Rattle.writer.specs.GraphFile.{tables, numbers_for, trailer, file_of}
use Rattle.writer.specs.Writes.{Writable, Writes}
use Rattle.writer.specs.Outcome.{outcome, refused, wrote}
use Rattle.writer.proofs.Laws.{then}
use Rattle.writer.proofs.LentTables.{size, tables_size}

-- the tables, and the 28 bytes of the trailer
pub file_length : (b : Body) (labels names : ℕ) → length (file_of b labels names) ≡ length (tables b) + 28
file_length b labels names = length-append (tables b) (trailer (numbers_for b labels names))

module _ {b : Body} {labels names : ℕ} where
  pub unwritable : (out : List ℕ) → ¬ Writable b labels names → Writes b labels names out (outcome 41 0) out
  unwritable out bad = refused (here refl (fails bad)) refl refl

  module _ {n : Trailer} (w : Writable b labels names) (e : n ≡ numbers_for b labels names) where
    back_size : n.back ≡ size b
    back_size = rw e (tables_size b)

    module _ (out : List ℕ) where
      pub short_output : length out < n.back + 28 → Writes b labels names out (outcome 42 0) out
      short_output h = refused (later (λ i l. w) (here refl (fails (λ fits. omega (arith, file_length b labels names, tables_size b, back_size))))) refl refl

      pub wrote_file : {t u : List ℕ} → n.back + 28 ≤ length out → t ≡ written out 0 (tables b) → u ≡ written t n.back (trailer n) → Writes b labels names out (outcome 0 (n.back + 28)) u
      wrote_file {t} {u} h f g =
          let l : n.back + 28 ≡ length (file_of b labels names) = omega (arith, file_length b labels names, tables_size b, back_size) in
          let x : u ≡ written t (0 + length (tables b)) (trailer (numbers_for b labels names)) = rw zero-add (rw e at g) in
          wrote (λ i l. w, (λ i m. omega arith, tt)) (ap (outcome 0) l) (then out t u 0 (tables b) (trailer (numbers_for b labels names)) f x ∙ rw zero-add refl)
