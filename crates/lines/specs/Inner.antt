-- The words in which the functions that read a line promise something to each other. No public promise uses them.
-- They are: from where on a function reads, which text it found, and what the text says.
use Rattle.std.specs.Prelude.{◌≡◌, ◌≢◌, ◌==◌, Bool, not, ◌||◌, List, ◌∷◌, ◌++◌, ℕ, ◌+◌, ◌^◌, ◌≤◌, ◌<◌, length, drop, Float, Option, Some, None}
use Rattle.lines.specs.declared.Run as run
use Rattle.lines.specs.declared.Numeral.{Numeral}
use Rattle.lines.specs.Digits.{semicolon, comma, LF, CR, Each, Digit, Digits, after, number, Signed}
use Rattle.lines.specs.Line.{quotient, End, DateText, Coefficient}

-- the text stands in s from `at` up to `end`
pub record From (s : List ℕ) (at end : ℕ) (text : List ℕ) : Type 0 where
  pub here : drop at s ≡ text ++ drop end s
  pub ends : end ≡ at + length text
  pub inside : end ≤ length s

-- as many bytes of which P holds as there are before the rest, but not more than m
pub record Run (P : ℕ → Type 0) (m : ℕ) (text rest : List ℕ) : Type 0 where
  pub few : length text ≤ m
  pub each : Each P text
  pub stops : length text < m → (x : ℕ) (r : List ℕ) → rest ≡ x ∷ r → ¬ P x

-- digits, and their number behind that of v
pub record ReadsDigits (s : List ℕ) (at most v : ℕ) (d : run.Run) : Type 0 where
  pub text : List ℕ
  pub from : From s at d.end text
  pub run : Run Digit most text (drop d.end s)
  pub value : d.number ≡ after v text

-- at least one digit; or none
pub record SomeDigits (s : List ℕ) (at most end : ℕ) (text : List ℕ) : Type 0 where
  pub from : From s at end text
  pub few : Digits 1 most text
  pub run : Run Digit most text (drop end s)

abbrev pub NoDigits : List ℕ → ℕ → ℕ → Type 0
NoDigits s at most = (t rest : List ℕ) → Digits 1 most t → drop at s ≢ t ++ rest

-- digits behind a sign that was read already
pub record ReadsUnsigned (s : List ℕ) (at most : ℕ) (n end : ℕ) : Type 0 where
  pub text : List ℕ
  pub digits : SomeDigits s at most end text
  pub value : n ≡ number text

abbrev pub TellsUnsigned : Option Numeral → List ℕ → ℕ → ℕ → Bool → Type 0
TellsUnsigned (Some n) s at most b = (n.negative ≡ b) × ReadsUnsigned s at most n.number n.end
TellsUnsigned None s at most b = NoDigits s at most

-- digits behind the comma, where v is the number of those before it
pub record ReadsFraction (s : List ℕ) (at : ℕ) (negative : Bool) (v : ℕ) (x : Float) (end : ℕ) : Type 0 where
  pub text : List ℕ
  pub digits : SomeDigits s at 6 end text
  pub value : x ≡ quotient negative (after v text) (length text)

abbrev pub TellsFraction : Option (Float × ℕ) → List ℕ → ℕ → Bool → ℕ → Type 0
TellsFraction (Some r) s at negative v = ReadsFraction s at negative v r.0 r.1
TellsFraction None s at negative v = NoDigits s at 6

-- whether a byte may stand in a serial
abbrev pub in_serial : ℕ → Bool
in_serial x = not (x == semicolon || (x == CR || x == LF))

-- "optional minus, 1 to .. digits"
pub record ReadsNumber (s : List ℕ) (at most : ℕ) (negative : Bool) (n end : ℕ) : Type 0 where
  pub text : List ℕ
  pub digits : List ℕ
  pub from : From s at end text
  pub says : Signed most text negative digits
  pub run : Run Digit most digits (drop end s)
  pub value : n ≡ number digits

abbrev pub TellsNumber : Option Numeral → List ℕ → ℕ → ℕ → Type 0
TellsNumber (Some n) s at most = ReadsNumber s at most n.negative n.number n.end
TellsNumber None s at most = (t ds rest : List ℕ) (negative : Bool) → Signed most t negative ds → drop at s ≢ t ++ rest

-- a byte that may stand behind a coefficient
pub record Behind (x : ℕ) : Type 0 where
  pub digit : ¬ Digit x
  pub comma : x ≢ comma

-- a coefficient, and that nothing else there is one
pub record ReadsReal (s : List ℕ) (at : ℕ) (x : Float) (end : ℕ) : Type 0 where
  pub text : List ℕ
  pub from : From s at end text
  pub says : Coefficient text x
  pub alone : (t rest : List ℕ) (y : Float) (z : ℕ) → Coefficient t y → Behind z → drop at s ≡ t ++ (z ∷ rest) → text ≡ t

abbrev pub TellsReal : Option (Float × ℕ) → List ℕ → ℕ → Type 0
TellsReal (Some r) s at = ReadsReal s at r.0 r.1
TellsReal None s at = (t rest : List ℕ) (y : Float) (z : ℕ) → Coefficient t y → Behind z → drop at s ≢ t ++ (z ∷ rest)

-- a part of a date: digits that fill their place, and their number, which has no more of them
pub record ReadsPart (s : List ℕ) (at size n : ℕ) : Type 0 where
  pub text : List ℕ
  pub from : From s at (at + size) text
  pub digits : Digits size size text
  pub value : n ≡ number text
  pub below : n < 10 ^ size

abbrev pub TellsPart : Option ℕ → List ℕ → ℕ → ℕ → Type 0
TellsPart (Some n) s at size = ReadsPart s at size n
TellsPart None s at size = (t rest : List ℕ) → Digits size size t → drop at s ≢ t ++ rest

-- the date's ten bytes
pub record ReadsDate (s : List ℕ) (at n : ℕ) : Type 0 where
  pub text : List ℕ
  pub from : From s at (at + 10) text
  pub says : DateText text n

abbrev pub TellsDate : Option ℕ → List ℕ → ℕ → Type 0
TellsDate (Some n) s at = ReadsDate s at n
TellsDate None s at = (t rest : List ℕ) (n : ℕ) → DateText t n → drop at s ≢ t ++ rest

-- a line's end
pub record ReadsEnd (s : List ℕ) (at next : ℕ) : Type 0 where
  pub text : List ℕ
  pub from : From s at next text
  pub says : End text

abbrev pub TellsEnd : Option ℕ → List ℕ → ℕ → Type 0
TellsEnd (Some next) s at = ReadsEnd s at next
TellsEnd None s at = (t rest : List ℕ) → End t → drop at s ≢ t ++ rest
