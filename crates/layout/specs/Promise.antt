-- What the answers of reading say, case by case.
use Rattle.std.specs.Prelude.{◌≡◌, List, ℕ, Option, Some, None, Result, Ok, Err}
use Rattle.layout.specs.declared.File.{File}
use Rattle.layout.specs.declared.Ceilings.{Ceilings}
use Rattle.layout.specs.declared.Value.{Value}
use Rattle.layout.specs.declared.Tables.{Tables}
use Rattle.layout.specs.declared.Refused.{Refused}
use Rattle.layout.specs.Files.{tables_of}
use Rattle.layout.specs.Value.{Valued}
use Rattle.layout.specs.Codes.{code_of, place_of}
use Rattle.layout.specs.Refusals.{FileRefused, FileAccepted}

-- the value that kind, length and bits say, or that they say none
abbrev pub Judges : Option Value → ℕ → ℕ → ℕ → ℕ → Type 0
Judges (Some v) T k n b = Valued T k n b v
Judges None T k n b = (v : Value) → ¬ Valued T k n b v

-- what is read of a file: that it is accepted, with its tables, or the refusal that it is owed
abbrev pub Reads : Result Tables Refused → File → Ceilings → List ℕ → Type 0
Reads (Ok t) F c f = FileAccepted F c f × (t ≡ tables_of F f)
Reads (Err r) F c f = FileRefused F c f (code_of F r) (place_of r)
