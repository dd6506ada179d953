-- `count_edges` looks through the edges stretch by stretch, and through the rest.
use Prim.Native.Nat.{◌*◌}
use Rattle.layout.specs.Ways.{way_of}
use Rattle.parts.specs.Accepted.{graph_at, schema_at}
use Rattle.counting.specs.Passes.{CountedTo}
use Rattle.counting.proofs.Step.count_edges.Given as goal

abbrev pub invariant-loop-i : goal.invariant-loop-i
invariant-loop-i l = CountedTo (graph_at l.self.p.now.graph) (schema_at l.self.p.now.schema) (way_of l.self.way) l.self.edge (16 * l.i) l.counts
