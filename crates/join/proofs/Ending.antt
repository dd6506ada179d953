-- What the joiner of two accepted files returns, and what it leaves in the output.
use mathlib.Core.Path.{◌≡◌, refl, sym, ap, ap₂, ◌∙◌}
use mathlib.Core.List.{List, ◌++◌}
use Prim.Native.Nat.{ℕ, ◌+◌, ◌*◌, ◌≤◌, ◌<◌}
use native.Mathlib.Nat.{zero-add}
use native.Mathlib.Omega.{arith}
use lib.ListN.{length, drop}
use Rattle.little.specs.Little.{written}
use Rattle.layout.specs.declared.File.TheVariants.{Graph}
use Rattle.layout.specs.declared.Trailer.{Trailer}
use Rattle.layout.specs.Files.{ceilings, numbers_of, body_of, body_in}
use Rattle.layout.specs.Refusals.{Held}
use Rattle.layout.proofs.Accepted.{sized, located}
use Rattle.writer.specs.GraphFile.{tables, trailer, numbers_for}
use Rattle.writer.specs.Outcome.{outcome}
use Rattle.writer.proofs.Laws.{then}
use Rattle.writer.proofs.Filing.{file_length}
use Rattle.join.specs.declared.graphs.Graphs.{Graphs}
use Rattle.join.specs.Joined.{joined_body, joined_numbers, joined_tables, numbers_of_both, joined_file}
use Rattle.join.specs.Joins.{Joins}
use Rattle.join.specs.Inner.{Both, joined_at}
use Rattle.join.proofs.Owed.{above_ceiling, output_short, joined_owed}
use Rattle.join.proofs.Tied.{both_numbers}

module _ {f g : List ℕ} {x : Graphs} (b : Both f g x) where
  -- the body of an accepted file is not longer than the file
  pub backs_small : x.first.numbers.back + x.second.numbers.back ≤ 2 * (ceilings Graph).file
  backs_small =
      let y = sized Graph f (ceilings Graph) b.first in
      let z = sized Graph g (ceilings Graph) b.second in
      let k = located Graph f (ceilings Graph) b.first in
      let l = located Graph g (ceilings Graph) b.second in
      rw (b.first_tables.numbers, b.second_tables.numbers) (omega (arith, y.most, z.most, k.inside, l.inside))

  same_tables : joined_at x ≡ joined_tables f g
  same_tables =
      ap₂ (λ n a. joined_body n a x.second.numbers (body_in x.second.bytes)) b.first_tables.numbers b.first_tables.bytes
      ∙ ap₂ (joined_body (numbers_of Graph f) (body_of Graph f)) b.second_tables.numbers b.second_tables.bytes

  module _ {n : Trailer} (e : n ≡ joined_numbers x.first.numbers x.second.numbers) where
    same_numbers : n ≡ numbers_of_both f g
    same_numbers = e ∙ ap₂ joined_numbers b.first_tables.numbers b.second_tables.numbers

    counted : n ≡ numbers_for (joined_tables f g) (numbers_of_both f g).labels (numbers_of_both f g).names
    counted = same_numbers ∙ sym (both_numbers f g b.first b.second)

    pub back_is : n.back ≡ length (tables (joined_at x))
    back_is = ap (λ t. t.back) counted ∙ ap (λ t. length (tables t)) (sym same_tables)

    size : length (joined_file f g) ≡ n.back + 28
    size = file_length (joined_tables f g) (numbers_of_both f g).labels (numbers_of_both f g).names ∙ ap (λ t. t.back + 28) (sym counted)

    module _ (out : List ℕ) where
      pub too_high : ¬ Held (ceilings Graph) n → Joins f g out (outcome 44 0) out
      too_high bad = above_ceiling f g out b.first b.second (λ k. bad (rw same_numbers k))

      module _ (k : Held (ceilings Graph) n) where
        held : Held (ceilings Graph) (numbers_of_both f g)
        held = rw same_numbers at k

        pub back_small : n.back ≤ (ceilings Graph).file
        back_small =
            let y = (located Graph f (ceilings Graph) b.first).exact in
            let z = (located Graph g (ceilings Graph) b.second).exact in
            rw same_numbers (omega (arith, held.nodes, held.edges, held.rows, held.text))

        pub too_short : length out < n.back + 28 → Joins f g out (outcome 42 0) out
        too_short short = output_short f g out b.first b.second held (omega (arith, size))

        pub wrote_joined :
            n.back + 28 ≤ length out → (v w : List ℕ) → v ≡ written out 0 (tables (joined_at x)) → w ≡ written v n.back (trailer n) → Joins f g out (outcome 0 (n.back + 28)) w
        wrote_joined fits v w c d =
            let T = joined_tables f g in
            let m = numbers_for T (numbers_of_both f g).labels (numbers_of_both f g).names in
            let at_start : v ≡ written out 0 (tables T) = c ∙ ap (λ B. written out 0 (tables B)) same_tables in
            let behind : w ≡ written v (0 + length (tables T)) (trailer m) = rw zero-add (rw counted at d) in
            let whole : w ≡ joined_file f g ++ drop (length (joined_file f g)) out = then out v w 0 (tables T) (trailer m) at_start behind ∙ rw zero-add refl in
            rw (whole, ← size) (joined_owed f g out b.first b.second held (omega (arith, size)))
