-- What is kept of an edge says where it is placed, and it is one number.
use mathlib.Core.Path.{◌≡◌, refl, sym, ◌∙◌}
use mathlib.Core.Logic.{◌≢◌}
use Prim.Native.Nat.{ℕ, ◌≤◌, ◌<◌}
use native.Mathlib.Omega.{arith}
use lib.ListN.{length}
use Rattle.little.specs.Promise.{Only}
use Rattle.meaning.specs.Places.{Lowest}
use Rattle.meaning.specs.Model.{Graph, Schema}
use Rattle.meaning.specs.Fits.{SameLabels}
use Rattle.layout.specs.Files.{most_schema_edges}
use Rattle.placing.specs.PlacedEdges.{PlacedAt, PlaceOf, alone, several, nowhere, LabelsApart}

module _ (G : Graph) (S : Schema) (e : ℕ) where
  not_both :
      {s j k : ℕ} → ((k : ℕ) → k < length S.edges → PlacedAt G S e k → k ≡ s) → j < k → k < length S.edges → PlacedAt G S e j → PlacedAt G S e k → ⊥
  not_both {s} {j} {k} f h l p q = let x = f j (omega arith) p in let y = f k l q in omega arith

  pub place_one : Only (PlaceOf G S e)
  place_one _ _ (alone {s} h p f) (alone l q g) = g s h p
  place_one _ _ (alone h p f) (several g l q r) = absurd (not_both f g l q r)
  place_one _ _ (alone {s} h p f) (nowhere n) = absurd (n (s, h, p))
  place_one _ _ (several g l q r) (alone h p f) = absurd (not_both f g l q r)
  place_one _ _ (several _ _ _ _) (several _ _ _ _) = refl
  place_one _ _ (several {k} g l q r) (nowhere n) = absurd (n (k, l, r))
  place_one _ _ (nowhere n) (alone {s} h p f) = absurd (n (s, h, p))
  place_one _ _ (nowhere n) (several {k} g l q r) = absurd (n (k, l, r))
  place_one _ _ (nowhere _) (nowhere _) = refl

  -- where no two schema edges have one label set, the lowest place is alone
  pub apart_alone : {s : ℕ} → LabelsApart S → Lowest (length S.edges) (PlacedAt G S e) s → PlaceOf G S e s
  unfolding SameLabels
  apart_alone {s} a l = alone l.below l.holds only
    where
      only : (k : ℕ) → k < length S.edges → PlacedAt G S e k → k ≡ s
      only k h p =
          let x : ¬ (k < s) = λ y. l.before k y p in
          let z : ¬ (s < k) = λ y. a s l.below k h y (sym p.edge.labels ∙ l.holds.edge.labels) in
          omega arith

  module _ (few : length S.edges ≤ most_schema_edges) where
    -- kept, a schema edge is the place; not kept, it is none, unless there are several
    module _ (s : ℕ) (h : s < length S.edges) where
      pub placed_there : {p : ℕ} → PlaceOf G S e p → p ≡ s → PlacedAt G S e s
      placed_there (alone _ p _) x = rw (← x) p
      placed_there (several _ _ _ _) x = absurd (omega arith)
      placed_there (nowhere _) x = absurd (omega arith)

      pub not_placed_there : {p : ℕ} → PlaceOf G S e p → p ≢ s → p ≢ most_schema_edges → ¬ PlacedAt G S e s
      not_placed_there (alone _ _ f) x y q = x (sym (f s h q))
      not_placed_there (several _ _ _ _) x y q = y refl
      not_placed_there (nowhere n) x y q = n (s, h, q)
