-- What `place_nodes` and `place_edges` promise has one answer, and so has the table. The other functions promise what `Says` says, and `says_one`
-- (little) is the theorem of that; or what is kept of an edge, and that is `place_one` (Kept).
use mathlib.Core.Path.{◌≡◌}
use mathlib.Core.List.{List}
use Prim.Native.Nat.{ℕ, ◌+◌, ◌<◌}
use native.Mathlib.Omega.{arith}
use lib.ListN.{length}
use Rattle.little.specs.Promise.{Only}
use Rattle.little.proofs.Promise.{equal_one}
use Rattle.meaning.specs.Model.{Graph, Schema}
use Rattle.meaning.specs.Rules.{NodePlaced, EdgePlaced}
use Rattle.std.specs.Prelude.{Option}
use Rattle.layout.specs.Files.{most_nodes, most_edges}
use Rattle.layout.proofs.Search.{table_one, searches_one, one_kept}
use Rattle.placing.specs.Masks.{MasksTo, PlacesNodes}
use Rattle.placing.specs.PlacedEdges.{PlacesTo, PlacesEdges, no_place, nowhere}
use Rattle.placing.proofs.Masks.{mask_none, mask_one}
use Rattle.placing.proofs.Kept.{place_one}

module _ (G : Graph) (S : Schema) where
  pub masks_to_one : (n : ℕ) → Only (MasksTo G S n)
  masks_to_one n = table_one (λ i. mask_one {G = G} {S = S} {i = i}) (λ i. equal_one 0) n

  pub places_to_one : (n : ℕ) → Only (PlacesTo G S n)
  places_to_one n = table_one (place_one G S) (λ e. equal_one no_place) n

  module _ (from : ℕ) (x y : Option ℕ) (a b : List ℕ) where
    pub nodes_one : PlacesNodes x G S from a → PlacesNodes y G S from b → (x ≡ y) × (a ≡ b)
    nodes_one = searches_one from (length G.nodes) (λ i. ¬ NodePlaced G S i) (MasksTo G S) masks_to_one x y a b

    pub edges_one : PlacesEdges x G S from a → PlacesEdges y G S from b → (x ≡ y) × (a ≡ b)
    edges_one = searches_one from (length G.edges) (λ e. ¬ EdgePlaced G S e) (PlacesTo G S) places_to_one x y a b

  -- behind what was found the search goes on: a node that is not placed has the mask 0, and an edge that is not placed has no place
  module _ {k : ℕ} {l : List ℕ} where
    pub masks_on : k < most_nodes → ¬ NodePlaced G S k → MasksTo G S k l → MasksTo G S (k + 1) l
    masks_on h n f = one_kept h f (rw (f.ahead k (omega arith) h) (mask_none {G = G} {S = S} n))

    pub places_on : k < most_edges → ¬ EdgePlaced G S k → PlacesTo G S k l → PlacesTo G S (k + 1) l
    places_on h n f = one_kept h f (rw (f.ahead k (omega arith) h) (nowhere n))
