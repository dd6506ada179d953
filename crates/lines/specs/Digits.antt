-- Bytes, digits, their numbers and signs (02, Ask 4).
use Rattle.std.specs.Prelude.{◌≡◌, Bool, true, false, List, [], ◌∷◌, ◌++◌, ℕ, ◌+◌, ◌-◌, ◌*◌, ◌≤◌, length}

-- P holds of every byte
abbrev pub Each : (ℕ → Type 0) → List ℕ → Type 0
Each P [] = Unit {0}
Each P (x ∷ t) = P x × Each P t

-- ---- bytes

abbrev pub semicolon : ℕ
semicolon = 0x3B

abbrev pub comma : ℕ
comma = 0x2C

abbrev pub dash : ℕ
dash = 0x2D

abbrev pub LF : ℕ
LF = 0x0A

abbrev pub CR : ℕ
CR = 0x0D

-- a digit, "0" to "9"
pub record Digit (x : ℕ) : Type 0 where
  pub from : 0x30 ≤ x
  pub to : x ≤ 0x39

-- "1 to 3 digits", "1 to 6 digits": at least so many and at most so many
pub record Digits (least most : ℕ) (t : List ℕ) : Type 0 where
  pub from : least ≤ length t
  pub to : length t ≤ most
  pub each : Each Digit t

-- the number that digits make behind those of v: each digit counts a tenth of the one before it
abbrev pub after : ℕ → List ℕ → ℕ
after v [] = v
after v (x ∷ t) = after (10 * v + (x - 0x30)) t

-- the number of digits by themselves
abbrev pub number : List ℕ → ℕ
number t = after 0 t

-- "optional minus": whether there is one, and its bytes
pub data Sign : Bool → List ℕ → Type 0 where
  unsigned : Sign false []
  negative : Sign true (dash ∷ [])

-- "optional minus, 1 to .. digits": the text, whether it has a minus, and its digits
pub record Signed (most : ℕ) (t : List ℕ) (negative : Bool) (digits : List ℕ) : Type 0 where
  pub sign : List ℕ
  pub text : t ≡ sign ++ digits
  pub minus : Sign negative sign
  pub few : Digits 1 most digits
