-- Rule 2, and what is kept of it: which schema edge places each edge.
use Rattle.std.specs.Prelude.{◌≡◌, ◌≢◌, List, ℕ, ◌<◌, length, Option}
use Rattle.meaning.specs.Places.{Every}
use Rattle.meaning.specs.Model.{Graph, Schema, edge_at, schema_edge_at}
use Rattle.meaning.specs.Rules.{Way, near, NodeFits, Placed, EdgePlaced}
use Rattle.parts.specs.declared.pair.Pair.{Pair}
use Rattle.layout.specs.Files.{most_edges, most_schema_edges}
use Rattle.layout.specs.Search.{UpTo, Searches}
use Rattle.parts.specs.Accepted.{graph_at, schema_at}
use Rattle.placing.specs.Masks.{Masked}

-- the source of edge e fits the source of schema edge s (out), or its target the target (into)
abbrev pub EndFits : Graph → Schema → Way → ℕ → ℕ → Type 0
EndFits G S w e s = NodeFits G.nodes S.nodes (near w (edge_at G e).source (edge_at G e).target) (near w (schema_edge_at S s).source (schema_edge_at S s).target)

-- schema edge s places edge e
abbrev pub PlacedAt : Graph → Schema → ℕ → ℕ → Type 0
PlacedAt G S e s = Placed G.nodes S.nodes (edge_at G e) (schema_edge_at S s)

-- a byte that is no place
abbrev pub no_place : ℕ
no_place = 255

-- what is kept of an edge: the schema edge that places it, if one alone does; one past the last possible schema edge, if several do
pub data PlaceOf (G : Graph) (S : Schema) (e : ℕ) : ℕ → Type 0 where
  alone : {s : ℕ} → s < length S.edges → PlacedAt G S e s → ((k : ℕ) → k < length S.edges → PlacedAt G S e k → k ≡ s) → PlaceOf G S e s
  several : {j k : ℕ} → j < k → k < length S.edges → PlacedAt G S e j → PlacedAt G S e k → PlaceOf G S e most_schema_edges
  nowhere : ¬ EdgePlaced G S e → PlaceOf G S e no_place

-- what is kept of the edges before n, and no place behind them
abbrev pub PlacesTo : Graph → Schema → ℕ → List ℕ → Type 0
PlacesTo G S = UpTo most_edges (PlaceOf G S) (λ e p. p ≡ no_place)

-- rule 2 from edge `from` on: the lowest edge that no schema edge places, and what is kept of those before it
abbrev pub PlacesEdges : Option ℕ → Graph → Schema → ℕ → List ℕ → Type 0
PlacesEdges r G S from = Searches r from (length G.edges) (λ e. ¬ EdgePlaced G S e) (PlacesTo G S)

-- no two schema edges have one label set: then no edge has two places
abbrev pub LabelsApart : Schema → Type 0
LabelsApart S = Every (length S.edges) (λ s. Every (length S.edges) (λ k. s < k → (schema_edge_at S k).shape.labels ≢ (schema_edge_at S s).shape.labels))

-- the masks of all nodes and what is kept of all edges
pub record Kept (p : Pair) (m l : List ℕ) : Type 0 where
  pub masked : Masked p m
  pub places : PlacesTo (graph_at p.graph) (schema_at p.schema) (length (graph_at p.graph).edges) l
