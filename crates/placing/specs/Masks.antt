-- Rule 1, and what is kept of it: which schema nodes each node fits.
use Rattle.std.specs.Prelude.{◌≡◌, ◌↔◌, List, ℕ, ◌^◌, ◌<◌, length, Option}
use Rattle.meaning.specs.Model.{Graph, Schema}
use Rattle.meaning.specs.Fits.{HasLabel}
use Rattle.meaning.specs.Rules.{NodeFits, NodePlaced}
use Rattle.layout.specs.Files.{most_nodes}
use Rattle.layout.specs.Search.{UpTo, Searches}
use Rattle.parts.specs.declared.pair.Pair.{Pair}
use Rattle.parts.specs.Accepted.{graph_at, schema_at}

-- the mask of a node: bit j is set exactly if the node fits schema node j, and no bit is set past the schema nodes
pub record MaskOf (G : Graph) (S : Schema) (i m : ℕ) : Type 0 where
  pub bits : (j : ℕ) → j < length S.nodes → HasLabel m j ↔ NodeFits G.nodes S.nodes i j
  pub below : m < 2 ^ length S.nodes

-- the masks of the nodes before n, and 0 behind them
abbrev pub MasksTo : Graph → Schema → ℕ → List ℕ → Type 0
MasksTo G S = UpTo most_nodes (MaskOf G S) (λ i m. m ≡ 0)

-- rule 1 from node `from` on: the lowest node that fits no schema node, and the masks of those before it
abbrev pub PlacesNodes : Option ℕ → Graph → Schema → ℕ → List ℕ → Type 0
PlacesNodes r G S from = Searches r from (length G.nodes) (λ i. ¬ NodePlaced G S i) (MasksTo G S)

-- the masks of all nodes of a check's graph
abbrev pub Masked : Pair → List ℕ → Type 0
Masked p = MasksTo (graph_at p.graph) (schema_at p.schema) (length (graph_at p.graph).nodes)
