-- What `next_labels` promises has one answer. The other functions promise what `Says` says, and `says_one` (little) is the theorem of that; or what the
-- record test says, and that is `tests_one` (records).
use Prim.Native.Nat.{ℕ}
use Rattle.little.specs.Promise.{Only}
use Rattle.meaning.specs.Model.{Graph, Schema}
use Rattle.meaning.specs.Fits.{SameLabels}
use Rattle.layout.specs.declared.Sort.{Sort}
use Rattle.parts.specs.declared.FileTables.{FileTables}
use Rattle.layout.specs.Search.{Seeks, From}
use Rattle.layout.proofs.Search.{seeks_one}
use Rattle.parts.specs.Accepted.{count_at}
use Rattle.fitting.specs.Objects.{object_in, shape_in}

pub next_labels_one : (G : Graph) (S : Schema) (sort : Sort) (u : FileTables) (i from : ℕ) → Only (λ r. Seeks r (count_at sort u) (From from (λ j. SameLabels (object_in G sort i) (shape_in S sort j))))
next_labels_one G S sort u i from = seeks_one (count_at sort u) (From from (λ j. SameLabels (object_in G sort i) (shape_in S sort j)))
