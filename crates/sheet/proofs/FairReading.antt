-- Every reading of a sheet is fair: its degrees are far below 2 ^ 63, and its coefficients are rounded to values of the format.
use mathlib.Core.Path.{◌≡◌}
use mathlib.Core.Bool.{Bool, true, false, cond}
use mathlib.Core.List.{List, [], ◌∷◌}
use Prim.Native.Nat.{ℕ, zero, suc, ◌-◌, ◌^◌, ◌≤◌, ◌<◌}
use native.Mathlib.Nat.{not-suc-le-zero, le_of_suc-le-suc}
use native.Mathlib.Omega.{arith}
use borrow.Author.Tests.{lt-ltb, le-ltb}
use lib.ListN.{length, get_or}
use lib.IntN.{ℤ, pos, negsuc, neg_ℤ}
use lib.Ieee.{Float, binary64, of_bits, to_bits}
use lib.Ieee.Fits.{round-fits}
use lib.Ieee.Bits.{of_bits-to_bits, to_bits-lt}
use Rattle.layout.specs.Value.{signed, Finite}
use Rattle.lines.specs.declared.Angle.{Angle}
use Rattle.lines.specs.Digits.{Each, Digit, number}
use Rattle.lines.specs.Line.{Degrees, quotient, Fraction, none, some, Coefficient, AngleLine}
use Rattle.lines.specs.Sheet.{Reading, SayAngles, SheetSays}
use Rattle.lines.proofs.DigitRuns.{after_append, after_small, number_small}
use Rattle.lines.proofs.Quotients.{quotient_finite}
use Rattle.sheet.specs.Tables.{twos}
use Rattle.sheet.proofs.Fair.{FairAngle, no_angle, Fair}

-- ---- degrees

abbrev FairDegrees : ℤ → Type 0
FairDegrees d = (signed (twos d) ≡ d) × (twos d < 2 ^ 64)

module _ {n : ℕ} (h : n < 1000000) where
  without_minus : FairDegrees (pos n)
  unfolding signed
  without_minus = (rw (lt-ltb n (2 ^ 63) (omega arith)), omega arith)

  below_zero : FairDegrees (negsuc n)
  unfolding signed
  below_zero =
      let back : 2 ^ 64 - 1 - (2 ^ 64 - 1 - n) ≡ n = omega arith in
      (rw (le-ltb (2 ^ 64 - 1 - n) (2 ^ 63) (omega arith), back), omega arith)

-- "-0" degrees are 0
with_sign : (negative : Bool) (n : ℕ) → n < 1000000 → FairDegrees (cond negative (neg_ℤ (pos n)) (pos n))
with_sign true zero h = without_minus h
with_sign true (suc n) h = below_zero (omega arith)
with_sign false n h = without_minus h

fair_degrees : {t : List ℕ} {d : ℤ} → Degrees t d → FairDegrees d
fair_degrees g =
    let few = g.says.few in
    rw g.value (with_sign g.negative (number g.digits) (number_small g.digits (omega (arith, few.to)) few.each))

-- ---- coefficients

record FairCoefficient (x : Float) : Type 0 where
  pub finite : Finite x
  pub back : of_bits binary64 (to_bits binary64 x) ≡ x
  pub bits : to_bits binary64 x < 2 ^ 64

fair_quotient : (negative : Bool) {n k : ℕ} → n < 1000000000000 → k ≤ 6 → FairCoefficient (quotient negative n k)
fair_quotient negative {n} {k} h l =
    let held = round-fits binary64 negative n (10 ^ k) in
    record {
      finite = quotient_finite l h negative;
      back = of_bits-to_bits binary64 (quotient negative n k) held;
      bits = to_bits-lt binary64 (quotient negative n k) held;
    }

few_behind : {t ds : List ℕ} → Fraction t ds → (length ds ≤ 6) × Each Digit ds
few_behind none = (omega arith, tt)
few_behind (some d) = (d.to, d.each)

fair_coefficient : {t : List ℕ} {x : Float} → Coefficient t x → FairCoefficient x
fair_coefficient c =
    let few = c.says.few in
    let behind = few_behind c.parted in
    let small = after_small c.fraction (number_small c.whole few.to few.each) behind.0 behind.1 in
    rw c.value (fair_quotient c.negative (rw (after_append 0 c.whole c.fraction) small) behind.0)

-- ---- the reading

pub fair_angle : {l : List ℕ} {a : Angle} → AngleLine l a → FairAngle a
fair_angle g =
    let d = fair_degrees g.degrees in
    let c = fair_coefficient g.coefficient in
    record { degrees = d.0; degrees_bits = d.1; finite = c.finite; coefficient = c.back; coefficient_bits = c.bits }

fair_angles : (ls : List (List ℕ)) (all : List Angle) → SayAngles ls all → (i : ℕ) → i < length all → FairAngle (get_or all i no_angle)
fair_angles ls [] say i h = absurd (not-suc-le-zero h)
fair_angles [] (a ∷ more) say i h = absurd say
fair_angles (l ∷ ls) (a ∷ more) say zero h = fair_angle say.0
fair_angles (l ∷ ls) (a ∷ more) say (suc i) h = fair_angles ls more say.1 i (le_of_suc-le-suc h)

pub fair : {s : List ℕ} {r : Reading} → SheetSays s r → Fair r
fair {r = r} say =
    record {
      serial = say.heading.named.to;
      date = say.heading.says.good;
      few = say.few;
      each = fair_angles say.further r.angles say.angles;
    }
