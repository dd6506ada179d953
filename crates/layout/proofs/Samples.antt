-- Worked facts, each computed: leap years and common ones, numbers that are dates and numbers that are not, bits of floats, and bits of integers.
use mathlib.Core.Path.{◌≡◌, refl}
use mathlib.Core.Bool.{Bool, true, false}
use mathlib.Core.List.{List, [], ◌∷◌, map}
use Prim.Native.Nat.{ℕ, ◌-◌, ◌^◌}
use native.Mathlib.Decide.{ℕ_discrete}
use lib.IntN.{negsuc}
use lib.Ieee.{of_bits, binary64}
use Rattle.little.specs.Promise.{Says}
use Rattle.meaning.proofs.Decide.{dec_iff, dec_not}
use Rattle.layout.specs.Date.{Leap, IsDate}
use Rattle.layout.specs.Value.{Finite, signed}
use Rattle.layout.proofs.Dates.{dec_leap, dec_date}
use Rattle.layout.proofs.Values.{exponent, finite_iff}

-- whether P holds of a number is what stands beside it
abbrev pub Said : (ℕ → Type 0) → List (ℕ × Bool) → Type 0
Said P [] = Unit {0}
Said P (x ∷ xs) = Says x.1 (P x.0) × Said P xs

abbrev is_yes : {P : Type 0} → Dec P → Bool
is_yes (yes p) = true
is_yes (no h) = false

says : {P : Type 0} (d : Dec P) → Says (is_yes d) P
says (yes p) = p
says (no h) = h

said : {P : ℕ → Type 0} (d : (n : ℕ) → Dec (P n)) (xs : List (ℕ × Bool)) → map (λ x. is_yes (d x.0)) xs ≡ map (λ x. x.1) xs → Said P xs
said d [] e = tt
said d (x ∷ xs) e = let h : is_yes (d x.0) ≡ x.1 = cc in (rw h at (says (d x.0)), said d xs (cc))

-- 1900, 2000, 2024 and 2100 are common, leap, leap and common
abbrev pub years : List (ℕ × Bool)
years = (1900, false) ∷ (2000, true) ∷ (2024, true) ∷ (2100, false) ∷ []

pub years_said : Said Leap years
unfolding dec_leap
years_said = said dec_leap years refl

-- 29 February of 2024, 2023, 1900, 2000 and 2100; 31 November; month 13; day 0; the first days of years 1 and 10,000, and one of year 0
abbrev pub dates : List (ℕ × Bool)
dates =
    (20240229, true)
    ∷ (20230229, false)
    ∷ (19000229, false)
    ∷ (20000229, true)
    ∷ (21000229, false)
    ∷ (20261131, false)
    ∷ (20261301, false)
    ∷ (20260100, false)
    ∷ (10101, true)
    ∷ (100000101, false)
    ∷ (101, false)
    ∷ []

pub dates_said : Said IsDate dates
unfolding dec_date
dates_said = said dec_date dates refl

-- negative zero, infinity and a NaN
abbrev pub reals : List (ℕ × Bool)
reals = (0x8000000000000000, true) ∷ (0x7FF0000000000000, false) ∷ (0x7FF8000000000000, false) ∷ []

pub reals_said : Said (λ b. Finite (of_bits binary64 b)) reals
unfolding dec_iff dec_not ℕ_discrete
reals_said = said (λ b. dec_iff (finite_iff b).1 (finite_iff b).0 (dec_not (ℕ_discrete (exponent b) 2047))) reals refl

-- all ones are -1, and the sign bit alone is the least integer
pub minus_one : signed (2 ^ 64 - 1) ≡ negsuc 0
unfolding signed
minus_one = refl

pub least : signed (2 ^ 63) ≡ negsuc (2 ^ 63 - 1)
unfolding signed
least = refl
