-- What a line of the angle sheet says (02, Ask 4). A line is its bytes, its end among them.
use Rattle.std.specs.Prelude.{◌≡◌, Bool, cond, ◌≢◌, List, [], ◌∷◌, ◌++◌, ℕ, ◌+◌, ◌*◌, ◌^◌, ◌≤◌, length, ℤ, pos, neg_ℤ, Float}
use Rattle.std.specs.Float.{binary64}
use Rattle.std.specs.Float.Ieee.{round}
use Rattle.layout.specs.Date.{IsDate}
use Rattle.lines.specs.declared.Angle.{Angle}
use Rattle.lines.specs.Digits.{Each, semicolon, comma, dash, LF, CR, Digits, number, Signed}

-- "every line, the last too, ends with LF or CR LF, or it is bad"
pub data End : List ℕ → Type 0 where
  by_lf : End (LF ∷ [])
  by_cr_lf : End (CR ∷ LF ∷ [])

-- ---- the first line

-- "no semicolon, CR or LF"
pub record InSerial (x : ℕ) : Type 0 where
  pub semicolon : x ≢ semicolon
  pub cr : x ≢ CR
  pub lf : x ≢ LF

-- "serial (1 to 32 bytes, no semicolon, CR or LF)"
pub record Serial (t : List ℕ) : Type 0 where
  pub from : 1 ≤ length t
  pub to : length t ≤ 32
  pub each : Each InSerial t

-- "the date as YYYY-MM-DD, good for the Date kind": the text, and the date's number ("year x 10,000 + month x 100 + day")
pub record DateText (t : List ℕ) (date : ℕ) : Type 0 where
  pub year : List ℕ
  pub month : List ℕ
  pub day : List ℕ
  pub text : t ≡ year ++ (dash ∷ (month ++ (dash ∷ day)))
  pub year_digits : Digits 4 4 year
  pub month_digits : Digits 2 2 month
  pub day_digits : Digits 2 2 day
  pub value : date ≡ number year * 10000 + number month * 100 + number day
  pub good : IsDate date

-- "First line: serial .., a semicolon, the date .."
pub record FirstLine (line serial : List ℕ) (date : ℕ) : Type 0 where
  pub dated : List ℕ
  pub end : List ℕ
  pub text : line ≡ serial ++ (semicolon ∷ (dated ++ end))
  pub named : Serial serial
  pub says : DateText dated date
  pub ended : End end

-- ---- the further lines

-- "degrees (optional minus, 1 to 3 digits)": the text, and the Integer
pub record Degrees (t : List ℕ) (d : ℤ) : Type 0 where
  pub negative : Bool
  pub digits : List ℕ
  pub says : Signed 3 t negative digits
  pub value : d ≡ cond negative (neg_ℤ (pos (number digits))) (pos (number digits))

-- "The coefficient's value is the whole digits as a float divided once by the power of ten that the fraction's length gives (..); a minus negates the
-- quotient": the fraction whole / 10 ^ decimals, rounded once, to the nearest value of the format, and of two that are equally near to the even one.
abbrev pub quotient : Bool → ℕ → ℕ → Float
quotient negative whole decimals = round binary64 negative whole (10 ^ decimals)

-- what follows the digits before the comma: nothing, or "a comma and 1 to 6 digits"; its text, and its digits
pub data Fraction : List ℕ → List ℕ → Type 0 where
  none : Fraction [] []
  some : {ds : List ℕ} → Digits 1 6 ds → Fraction (comma ∷ ds) ds

-- "coefficient (optional minus, 1 to 6 digits, or those, a comma and 1 to 6 digits)": the text, and the Real: "digits on both sides of the comma as one
-- number; no comma, length 0"
pub record Coefficient (t : List ℕ) (x : Float) : Type 0 where
  pub negative : Bool
  pub whole : List ℕ
  pub fraction : List ℕ
  pub before : List ℕ
  pub behind : List ℕ
  pub text : t ≡ before ++ behind
  pub says : Signed 6 before negative whole
  pub parted : Fraction behind fraction
  pub value : x ≡ quotient negative (number (whole ++ fraction)) (length fraction)

-- "Each further line: degrees .., a semicolon, coefficient .."
pub record AngleLine (line : List ℕ) (a : Angle) : Type 0 where
  pub turned : List ℕ
  pub measured : List ℕ
  pub end : List ℕ
  pub text : line ≡ turned ++ (semicolon ∷ (measured ++ end))
  pub degrees : Degrees turned a.degrees
  pub coefficient : Coefficient measured a.coefficient
  pub ended : End end
