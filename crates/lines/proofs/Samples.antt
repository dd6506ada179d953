-- Coefficients as they stand in a sheet, each read and its bits computed: 0,1 and 1,05, 0,07, -0, and the most digits.
use mathlib.Core.Path.{◌≡◌, refl}
use mathlib.Core.Bool.{Bool, true, false}
use mathlib.Core.List.{List, [], ◌∷◌, ◌++◌}
use Prim.Native.Nat.{ℕ, ◌≤◌}
use native.Mathlib.Omega.{arith}
use lib.ListN.{length}
use lib.IntN.{pos}
use lib.Ieee.{Float, binary64, round, div, of_int, to_bits}
use Rattle.lines.specs.Digits.{comma, Digit, Digits, number, Sign, unsigned, negative}
use Rattle.lines.specs.Line.{quotient, Fraction, none, some, Coefficient}

-- a text that is a coefficient, and the bits of its float
pub record Reads (t : List ℕ) (bits : ℕ) : Type 0 where
  pub value : Float
  pub says : Coefficient t value
  pub is : to_bits binary64 value ≡ bits

-- sign, whole digits, and what follows them
coefficient :
    (b : Bool) (sign whole behind fraction : List ℕ) → Sign b sign → Digits 1 6 whole → Fraction behind fraction
    → Coefficient ((sign ++ whole) ++ behind) (quotient b (number (whole ++ fraction)) (length fraction))
coefficient b sign whole behind fraction s d f =
    record {
      negative = b;
      whole = whole;
      fraction = fraction;
      before = sign ++ whole;
      behind = behind;
      text = refl;
      says = record { sign = sign; text = refl; minus = s; few = d };
      parted = f;
      value = refl;
    }

digit : {x : ℕ} → 0x30 ≤ x → x ≤ 0x39 → Digit x
digit a b = record { from = a; to = b }

-- "0", "1", "05", "07" and "999999"
nought : Digits 1 6 (0x30 ∷ [])
nought = record { from = omega arith; to = omega arith; each = (digit (omega arith) (omega arith), tt) }

one : Digits 1 6 (0x31 ∷ [])
one = record { from = omega arith; to = omega arith; each = (digit (omega arith) (omega arith), tt) }

nought_five : Digits 1 6 (0x30 ∷ 0x35 ∷ [])
nought_five = record { from = omega arith; to = omega arith; each = (digit (omega arith) (omega arith), (digit (omega arith) (omega arith), tt)) }

nought_seven : Digits 1 6 (0x30 ∷ 0x37 ∷ [])
nought_seven = record { from = omega arith; to = omega arith; each = (digit (omega arith) (omega arith), (digit (omega arith) (omega arith), tt)) }

abbrev nines : List ℕ
nines = 0x39 ∷ 0x39 ∷ 0x39 ∷ 0x39 ∷ 0x39 ∷ 0x39 ∷ []

nine : Digit 0x39
nine = digit (omega arith) (omega arith)

six_nines : Digits 1 6 nines
six_nines = record { from = omega arith; to = omega arith; each = (nine, (nine, (nine, (nine, (nine, (nine, tt)))))) }

-- "0,1": the digits 0 and 1 are the number 1, and the fraction has one digit
pub tenth : Reads (0x30 ∷ 0x2C ∷ 0x31 ∷ []) 0x3FB999999999999A
unfolding to_bits round
tenth = record { value = quotient false 1 1; says = coefficient false [] (0x30 ∷ []) (comma ∷ 0x31 ∷ []) (0x31 ∷ []) unsigned nought (some one); is = refl }

-- "1,05"
pub one_05 : Reads (0x31 ∷ 0x2C ∷ 0x30 ∷ 0x35 ∷ []) 0x3FF0CCCCCCCCCCCD
unfolding to_bits round
one_05 = record { value = quotient false 105 2; says = coefficient false [] (0x31 ∷ []) (comma ∷ 0x30 ∷ 0x35 ∷ []) (0x30 ∷ 0x35 ∷ []) unsigned one (some nought_five); is = refl }

-- "0,07", which is another float if 7 is divided by 10 twice
pub seven_hundredths : Reads (0x30 ∷ 0x2C ∷ 0x30 ∷ 0x37 ∷ []) 0x3FB1EB851EB851EC
unfolding to_bits round
seven_hundredths = record { value = quotient false 7 2; says = coefficient false [] (0x30 ∷ []) (comma ∷ 0x30 ∷ 0x37 ∷ []) (0x30 ∷ 0x37 ∷ []) unsigned nought (some nought_seven); is = refl }

pub twice_divided : to_bits binary64 (div binary64 (div binary64 (of_int binary64 (pos 7)) (of_int binary64 (pos 10))) (of_int binary64 (pos 10))) ≡ 0x3FB1EB851EB851EB
unfolding to_bits round div of_int
twice_divided = refl

-- "-0": a minus negates the quotient, so that it is negative zero
pub minus_zero : Reads (0x2D ∷ 0x30 ∷ []) 0x8000000000000000
unfolding to_bits round
minus_zero = record { value = quotient true 0 0; says = coefficient true (0x2D ∷ []) (0x30 ∷ []) [] [] negative nought none; is = refl }

-- "999999,999999"
pub most : Reads (nines ++ (comma ∷ nines)) 0x412E847FFFFFDE72
unfolding to_bits round
most = record { value = quotient false 999999999999 6; says = coefficient false [] nines (comma ∷ nines) nines unsigned six_nines (some six_nines); is = refl }
