-- `next_labels` goes through the schema's label sets stretch by stretch, and through the rest: none of those passed is the one that is looked for.
use mathlib.Core.Path.{◌≡◌}
use Prim.Native.Nat.{◌+◌, ◌*◌}
use Rattle.meaning.specs.Places.{Every}
use Rattle.layout.specs.Search.{From}
use Rattle.parts.specs.Accepted.{schema_at}
use Rattle.fitting.specs.Objects.{shape_in}
use Rattle.fitting.proofs.next_labels.Given as goal

abbrev pub invariant-loop-n : goal.invariant-loop-n
invariant-loop-n l = Every (l.from + 8 * l.n) (λ k. ¬ From l.from (λ k. l.labels ≡ (shape_in (schema_at l.p.schema) l.sort k).labels) k)
