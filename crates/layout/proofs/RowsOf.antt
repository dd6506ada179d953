-- Laws of tables: what stands in row i of n rows.
use mathlib.Core.Path.{◌≡◌, refl, ap}
use Prim.Native.Nat.{ℕ, zero, suc, ◌+◌, ◌*◌, ◌≤◌, ◌<◌}
use native.Mathlib.Nat.{not-suc-le-zero, le_of_suc-le-suc, mul-suc, mul-le-mul_left}
use lib.ListN.{length, get_or}
use Rattle.layout.specs.Tables.{rows}

module _ {A : Type 0} where
  pub length_rows : (n : ℕ) (at : ℕ → A) → length (rows n at) ≡ n
  unfolding rows
  length_rows zero at = refl
  length_rows (suc n) at = ap suc (length_rows n (λ i. at (suc i)))

  pub get_d_rows : (n : ℕ) (at : ℕ → A) (z : A) (i : ℕ) → i < n → get_or (rows n at) i z ≡ at i
  unfolding rows
  get_d_rows zero at z i h = absurd (not-suc-le-zero h)
  get_d_rows (suc n) at z zero h = refl
  get_d_rows (suc n) at z (suc i) h = get_d_rows n (λ i. at (suc i)) z i (le_of_suc-le-suc h)

-- a row of w bytes ends inside its table
pub row_in_lem : (w i n : ℕ) → i < n → w * i + w ≤ w * n
row_in_lem w i n h = rw (mul-suc w i) at (mul-le-mul_left w h)
