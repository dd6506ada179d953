-- `labels_within` goes through a stretch of label sets: none of those passed is the one that is looked for.
use mathlib.Core.Path.{◌≡◌}
use Rattle.meaning.specs.Places.{Every}
use Rattle.layout.specs.Search.{From}
use Rattle.parts.specs.Accepted.{schema_at}
use Rattle.fitting.specs.Objects.{shape_in}
use Rattle.fitting.proofs.labels_within.Given as goal

abbrev pub invariant-loop-at : goal.invariant-loop-at
invariant-loop-at l = Every l.at (λ k. ¬ From l.from (λ k. l.labels ≡ (shape_in (schema_at l.p.schema) l.sort k).labels) k)
