-- `place_of` keeps an edge's lowest place as alone, if no two schema edges have one label set, or if it finds no other behind it.
use mathlib.Core.Path.{◌≡◌}
use Rattle.meaning.specs.Places.{Every}
use Rattle.parts.specs.Accepted.{graph_at, schema_at}
use Rattle.placing.specs.PlacedEdges.{PlacedAt}
use Rattle.placing.proofs.place_of.Given as goal

abbrev pub invariant-loop-k : goal.invariant-loop-k
invariant-loop-k l = Every l.k (λ j. PlacedAt (graph_at l.p.graph) (schema_at l.p.schema) l.e j → j ≡ l.s)
