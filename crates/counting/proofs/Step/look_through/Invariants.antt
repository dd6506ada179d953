-- `look_through` counts, at each node, the edges looked at that are placed there.
use Rattle.layout.specs.Ways.{way_of}
use Rattle.parts.specs.Accepted.{graph_at, schema_at}
use Rattle.counting.specs.Passes.{CountedTo}
use Rattle.counting.proofs.Step.look_through.Given as goal

abbrev pub invariant-loop-e : goal.invariant-loop-e
invariant-loop-e l = CountedTo (graph_at l.self.p.now.graph) (schema_at l.self.p.now.schema) (way_of l.self.way) l.self.edge l.e l.counts
