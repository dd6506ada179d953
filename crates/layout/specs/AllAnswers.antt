-- What two files are owed where all violations are asked for (02, Ask 6), and the lent list afterwards.
use Rattle.std.specs.Prelude.{List, [], ◌++◌, ℕ, length, take, drop}
use Rattle.meaning.specs.Answer.{Answer}
use Rattle.meaning.specs.Listing.{AllTold}
use Rattle.layout.specs.declared.File.TheVariants.{Graph, Schema}
use Rattle.layout.specs.declared.Ceilings.{Ceilings}
use Rattle.layout.specs.Refusals.{FileRefused, FileAccepted}
use Rattle.layout.specs.Checked.{graph_in, schema_in}

-- "Code and place of a refusal, else 0 and 0", and the violations. "Refusals: the old entry's without 1, in the same order, with total 0 .."
pub data AllAnswers (c d : Ceilings) (g s : List ℕ) : ℕ → ℕ → List Answer → Type 0 where
  graph_refused : {x k : ℕ} → FileRefused Graph c g x k → AllAnswers c d g s x k []
  schema_refused : {x k : ℕ} → FileAccepted Graph c g → FileRefused Schema d s x k → AllAnswers c d g s x k []
  listed : {l : List Answer} → FileAccepted Graph c g → FileAccepted Schema d s → AllTold (graph_in g) (schema_in s) l → AllAnswers c d g s 0 0 l

-- "If there are more than fit, the first ones are written .., and records beyond those written keep their values."
abbrev pub filled : {A : Type 0} → List A → List A → List A
filled l before = take (length before) l ++ drop (length l) before
