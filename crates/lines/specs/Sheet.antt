-- What a whole sheet says, and which of its lines is at fault (02, Ask 4).
use Rattle.std.specs.Prelude.{◌≡◌, cond, List, [], ◌∷◌, ℕ, ◌+◌, ◌-◌, ◌≤◌, eqb, length, get_or}
use Rattle.layout.specs.Refusals.{Refusal, each}
use Rattle.lines.specs.Digits.{LF}
use Rattle.lines.specs.declared.Angle.{Angle}
use Rattle.lines.specs.Line.{FirstLine, AngleLine}

-- a byte put before the first of the lines that follow
abbrev pub on_first : ℕ → List (List ℕ) → List (List ℕ)
on_first x [] = (x ∷ []) ∷ []
on_first x (l ∷ ls) = (x ∷ l) ∷ ls

-- The lines of a sheet: each goes up to its LF, and bytes behind the last LF are a line, too, though without its end.
unfoldable pub lines_of : List ℕ → List (List ℕ)
lines_of [] = []
lines_of (x ∷ s) = cond (eqb x LF) ((x ∷ []) ∷ lines_of s) (on_first x (lines_of s))

-- line k of a sheet, counted from 1 ("a bad or missing first line, which is line 1"); one that is missing has no bytes
abbrev pub line_of : List ℕ → ℕ → List ℕ
line_of s k = get_or (lines_of s) (k - 1) []

-- what a sheet says
pub record Reading : Type 0 where
  pub serial : List ℕ
  pub date : ℕ
  pub angles : List Angle

-- lines that say these angles, one each, in their order
abbrev pub SayAngles : List (List ℕ) → List Angle → Type 0
SayAngles [] [] = Unit {0}
SayAngles [] (a ∷ more) = ⊥
SayAngles (l ∷ ls) [] = ⊥
SayAngles (l ∷ ls) (a ∷ more) = AngleLine l a × SayAngles ls more

-- the sheet s says r: "First line: ..", "Each further line: ..", "Up to 180 angle lines"
pub record SheetSays (s : List ℕ) (r : Reading) : Type 0 where
  pub first : List ℕ
  pub further : List (List ℕ)
  pub lines : lines_of s ≡ first ∷ further
  pub heading : FirstLine first r.serial r.date
  pub angles : SayAngles further r.angles
  pub few : length r.angles ≤ 180

-- ---- "Refusals"

-- the first line is there and good
pub record GoodFirst (s : List ℕ) : Type 0 where
  pub serial : List ℕ
  pub date : ℕ
  pub says : FirstLine (line_of s 1) serial date

-- a further line k is good, and no "181st angle line", which is line 182
pub record GoodFurther (s : List ℕ) (k : ℕ) : Type 0 where
  pub angle : Angle
  pub says : AngleLine (line_of s k) angle
  pub few : k ≤ 181

-- "51 a bad or missing first line, which is line 1; 52 a bad later line or a 181st angle line, returned with the lowest line number at fault". What is
-- tried is every line by its number, so that the place of a refusal is a line's number.
abbrev pub sheet_refusals : List ℕ → List Refusal
sheet_refusals s =
    each 51 2 (λ k. k ≡ 1 → GoodFirst s)
    ∷ each 52 (length (lines_of s) + 1) (λ k. 2 ≤ k → GoodFurther s k)
    ∷ []
