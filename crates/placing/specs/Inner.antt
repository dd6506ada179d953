-- The words in which the functions that compare label sets promise something to each other. No public promise uses them.
use Rattle.std.specs.Prelude.{◌≢◌, ℕ, ◌<◌, length}
use Rattle.meaning.specs.Places.{Every}
use Rattle.meaning.specs.Model.{Schema, schema_edge_at}

-- no schema edge behind s has its label set
abbrev pub ApartBehind : Schema → ℕ → Type 0
ApartBehind S s = Every (length S.edges) (λ k. s < k → (schema_edge_at S k).shape.labels ≢ (schema_edge_at S s).shape.labels)
