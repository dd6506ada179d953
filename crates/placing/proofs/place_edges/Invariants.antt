-- `place_edges` goes through the edges from one on: each edge passed has a place, and what is kept of it is stored.
use Prim.Native.Nat.{◌-◌, ◌≤◌}
use Rattle.meaning.specs.Places.{Every}
use Rattle.meaning.specs.Rules.{EdgePlaced}
use Rattle.layout.specs.Search.{From}
use Rattle.parts.specs.Accepted.{graph_at, schema_at}
use Rattle.placing.specs.PlacedEdges.{PlacedAt, PlacesTo}
use Rattle.placing.proofs.place_edges.Given as goal

abbrev pub invariant-search : goal.invariant-search
invariant-search l = (l.s ≤ l.p.schema.numbers.edges) × Every l.s (λ k. ¬ PlacedAt (graph_at l.p.graph) (schema_at l.p.schema) l.e k)

abbrev pub decreases-search : goal.decreases-search
decreases-search l = l.p.schema.numbers.edges - l.s

abbrev pub invariant-loop-e : goal.invariant-loop-e
invariant-loop-e l = let G = graph_at l.p.graph in
    let S = schema_at l.p.schema in
    Every l.e (λ k. ¬ From l.from (λ k. ¬ EdgePlaced G S k) k) × PlacesTo G S l.e l.places
