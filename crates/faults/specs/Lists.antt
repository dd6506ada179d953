-- The list that a caller lends, and what is returned beside it (02, Ask 6).
use Rattle.std.specs.Prelude.{◌≡◌, List, [], ◌∷◌, map, ℕ, length, Result, Ok, Err}
use Rattle.meaning.specs.Answer.{Answer}
use Rattle.layout.specs.declared.Ceilings.{Ceilings}
use Rattle.layout.specs.declared.Tables.{Tables}
use Rattle.layout.specs.declared.Refusal.{Refusal}
use Rattle.layout.specs.Codes.{code_of, place_of}
use Rattle.layout.specs.AllAnswers.{AllAnswers, filled}
use Rattle.faults.specs.declared.Listed.{Listed}

-- "violation records .., each with code, place, schema place, count and property name": as a row of five numbers
abbrev pub row_of : Answer → List ℕ
row_of a = a.code ∷ a.place ∷ a.schema_place ∷ a.count ∷ a.property ∷ []

-- "Code and place of a refusal, else 0 and 0", with the total
abbrev pub listed_by : Result (Tables × Tables) Refusal → ℕ → Listed
listed_by (Ok _) n = record { code = 0; place = 0; total = n }
listed_by (Err r) n = record { code = code_of r.file r.cause; place = place_of r.cause; total = n }

-- What is returned, and the list afterwards, in whatever form it has its records.
-- "Code and place of a refusal, else 0 and 0, are returned with the total number, and records beyond those written keep their values."
pub record ListsAll {A : Type 0} (form : Answer → A) (c d : Ceilings) (g s : List ℕ) (before : List A) (r : Listed) (after : List A) : Type 0 where
  pub answers : List Answer
  pub owed : AllAnswers c d g s r.code r.place answers
  pub total : r.total ≡ length answers
  pub list : after ≡ filled (map form answers) before
