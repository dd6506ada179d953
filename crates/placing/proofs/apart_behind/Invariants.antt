-- `apart_behind` goes through the schema edges behind one: none of those passed has its label set.
use mathlib.Core.Logic.{◌≢◌}
use Prim.Native.Nat.{◌<◌}
use Rattle.meaning.specs.Places.{Every}
use Rattle.meaning.specs.Model.{schema_edge_at}
use Rattle.parts.specs.Accepted.{schema_at}
use Rattle.placing.proofs.apart_behind.Given as goal

abbrev pub invariant-loop-j : goal.invariant-loop-j
invariant-loop-j l = Every l.j (λ k. l.s < k → (schema_edge_at (schema_at l.schema) k).shape.labels ≢ (schema_edge_at (schema_at l.schema) l.s).shape.labels)
