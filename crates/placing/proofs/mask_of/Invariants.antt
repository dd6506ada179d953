-- `mask_of` makes the mask of a node: the bits of the schema nodes from j on are right.
use Prim.Native.Nat.{◌≤◌}
use Rattle.meaning.specs.Rules.{NodeFits}
use Rattle.parts.specs.Accepted.{graph_at, schema_at}
use Rattle.placing.proofs.Masks.{Bits}
use Rattle.placing.proofs.mask_of.Given as goal

abbrev pub invariant-loop-j : goal.invariant-loop-j
invariant-loop-j l = (l.j ≤ l.p.schema.numbers.nodes) × Bits (NodeFits (graph_at l.p.graph).nodes (schema_at l.p.schema).nodes l.i) l.p.schema.numbers.nodes l.j l.mask
