-- The coefficient's one division: both whole numbers are cast without loss, and the quotient is rounded once.
use mathlib.Core.Path.{◌≡◌, refl, ap, ◌∙◌, subst}
use mathlib.Core.Bool.{Bool, true, false}
use Prim.Native.Nat.{ℕ, zero, suc, ◌^◌, ◌≤◌, ◌<◌}
use native.Mathlib.Omega.{arith}
use lib.ListN.{get_or}
use lib.Dec.{T, le→leb, lit≤}
use lib.IntN.{pos}
use lib.Ieee.{Float, nan, inf, fin, binary64, div, neg, of_int, in_float}
use lib.Ieee.Scale.{finite}
use Rattle.layout.specs.Value.{Finite}
use Rattle.lines.specs.Line.{quotient}
use Rattle.lines.proofs.Powers.{powers}
use Rattle.lines.proofs.Rounding.{div_round, neg_round, round_finite}

pub power_is : (k : ℕ) → k ≤ 6 → get_or powers k 0 ≡ 10 ^ k
power_is zero h = refl
power_is (suc zero) h = refl
power_is (suc (suc zero)) h = refl
power_is (suc (suc (suc zero))) h = refl
power_is (suc (suc (suc (suc zero)))) h = refl
power_is (suc (suc (suc (suc (suc zero))))) h = refl
power_is (suc (suc (suc (suc (suc (suc zero)))))) h = refl
power_is (suc (suc (suc (suc (suc (suc (suc k))))))) h = absurd (omega arith)

-- each lies from 1 to a million
power_held : (k : ℕ) → k ≤ 6 → (1 ≤ get_or powers k 0) × (get_or powers k 0 ≤ 1000000)
power_held zero h = (lit≤ tt, lit≤ tt)
power_held (suc zero) h = (lit≤ tt, lit≤ tt)
power_held (suc (suc zero)) h = (lit≤ tt, lit≤ tt)
power_held (suc (suc (suc zero))) h = (lit≤ tt, lit≤ tt)
power_held (suc (suc (suc (suc zero)))) h = (lit≤ tt, lit≤ tt)
power_held (suc (suc (suc (suc (suc zero))))) h = (lit≤ tt, lit≤ tt)
power_held (suc (suc (suc (suc (suc (suc zero)))))) h = (lit≤ tt, lit≤ tt)
power_held (suc (suc (suc (suc (suc (suc (suc k))))))) h = absurd (omega arith)

-- the float counts whole numbers up to 2 ^ 53
counted : 1000000000000 ≤ 2 ^ 53
counted = lit≤ tt

up_to : {n : ℕ} → n < 1000000000000 → n ≤ 2 ^ 53
up_to h = let c = counted in omega arith

module _ {k : ℕ} (h : k ≤ 6) where
  -- the cast of a power of ten loses nothing
  pub power_cast : T (in_float binary64 (pos (get_or powers k 0)))
  unfolding in_float
  power_cast = le→leb (get_or powers k 0) (2 ^ 53) (up_to (omega (arith, (power_held k h).1)))

  module _ {whole : ℕ} (w : whole < 1000000000000) where
    -- "integer below 2^53 cast without loss"
    pub whole_cast : T (in_float binary64 (pos whole))
    unfolding in_float
    whole_cast = le→leb whole (2 ^ 53) (up_to w)

    -- "divided once": the quotient of the two floats is the fraction rounded once
    pub divided_once : div binary64 (of_int binary64 (pos whole)) (of_int binary64 (pos (10 ^ k))) ≡ quotient false whole k
    divided_once = div_round binary64 whole (10 ^ k) (up_to w) (up_to (omega (arith, (power_held k h).1, power_is k h))) (omega (arith, (power_held k h).0, power_is k h))

    -- the same with the power as it stands in the table
    pub divided : div binary64 (of_int binary64 (pos whole)) (of_int binary64 (pos (get_or powers k 0))) ≡ quotient false whole k
    divided = ap (λ (p : ℕ). div binary64 (of_int binary64 (pos whole)) (of_int binary64 (pos p))) (power_is k h) ∙ divided_once

    -- "a minus negates the quotient"
    pub negated : neg (div binary64 (of_int binary64 (pos whole)) (of_int binary64 (pos (get_or powers k 0)))) ≡ quotient true whole k
    negated = ap neg divided ∙ neg_round binary64 whole (10 ^ k)

    -- "bits of an f64 that is neither infinite nor NaN"
    pub quotient_finite : (b : Bool) → Finite (quotient b whole k)
    quotient_finite b = is_finite (quotient b whole k) (round_finite binary64 b whole (10 ^ k) (up_to w) (subst (λ (p : ℕ). 0 < p) (power_is k h) (power_held k h).0))
      where
        is_finite : (x : Float) → T (finite x) → Finite x
        is_finite nan t = t
        is_finite (inf s) t = t
        is_finite (fin s m e) t = tt
