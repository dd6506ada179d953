-- A label set has no label at or above n exactly if its number is below 2 ^ n.
use mathlib.Core.Path.{◌≡◌}
use mathlib.Core.Logic.{◌↔◌, ◌≢◌}
use Prim.Native.Nat.{ℕ, zero, suc, ◌+◌, ◌*◌, ◌/◌, ◌%◌, ◌^◌, ◌≤◌, ◌<◌}
use native.Mathlib.Decide.{dec_lt}
use native.Mathlib.Nat.{div-eq_of_lt, div-lt_iff_lt-mul, lt_of_lt_of_le}
use native.Mathlib.Omega.{arith}
use lib.Pow.{pow_mono, pow_pos, shr-shr}
use Rattle.meaning.specs.Fits.{HasLabel}
use Rattle.meaning.proofs.Decide.{by_dec}
use Rattle.layout.specs.Runs.{LabelsBelow}

-- a number without a bit that is set is 0
pub no_bits : (m q : ℕ) → q ≤ m → ((j : ℕ) → ¬ HasLabel q j) → q ≡ 0
no_bits zero q h f = omega arith
no_bits (suc m) q h f =
    let e = no_bits m (q / 2) (omega arith) (λ j b. f (1 + j) (rw (shr-shr q 1 j) at b)) in
    let g : q % 2 ≢ 1 = λ e. f 0 (omega arith) in
    omega arith

pub labels_below : (l n : ℕ) → LabelsBelow l n ↔ (l < 2 ^ n)
labels_below l n = (
  λ f.
      let e : l / 2 ^ n ≡ 0 = no_bits (l / 2 ^ n) (l / 2 ^ n) (omega arith) (λ j b. let h = f (n + j) (rw (shr-shr l n j) at b) in omega arith) in
      let h : l < 1 * 2 ^ n = (div-lt_iff_lt-mul (pow_pos n)).0 (omega arith) in
      omega arith,
  λ h k b. by_dec (dec_lt k n) (λ m. let e : l / 2 ^ k ≡ 0 = div-eq_of_lt (lt_of_lt_of_le h (pow_mono (omega arith))) in let g : 0 % 2 ≡ 1 = rw e at b in omega arith),
)
