-- A list that is filled from the front: what stands where, and how one record more is written, or not where there is no room.
use mathlib.Core.Path.{◌≡◌, refl, sym, ap, ◌∙◌}
use mathlib.Core.List.{List, [], ◌∷◌, ◌++◌, map}
use Prim.Native.Nat.{ℕ, zero, suc, ◌+◌, ◌≤◌, ◌<◌}
use native.Mathlib.Nat.{not-suc-le-zero, le_of_suc-le-suc}
use native.Mathlib.Omega.{arith}
use lib.ListN.{length, get_or, set, length-append}
use Rattle.layout.specs.AllAnswers.{filled}

pub length_more : {A : Type 0} (l : List A) (x : A) → length (l ++ x ∷ []) ≡ length l + 1
length_more l x = length-append l (x ∷ [])

pub map_more : {A B : Type 0} (f : A → B) (l : List A) (x : A) → map f (l ++ x ∷ []) ≡ map f l ++ f x ∷ []
map_more f [] x = refl
map_more {B = B} f (y ∷ l) x = ap (λ (m : List B). f y ∷ m) (map_more f l x)

module _ {A : Type 0} where
  pub none_filled : (before : List A) → filled [] before ≡ before
  none_filled [] = refl
  none_filled (y ∷ before) = refl

  pub length_filled : (l before : List A) → length (filled l before) ≡ length before
  length_filled [] before = ap length (none_filled before)
  length_filled (x ∷ l) [] = refl
  length_filled (x ∷ l) (y ∷ before) = ap suc (length_filled l before)

  -- one more, where there is room
  pub one_more_in : (l before : List A) (x : A) → length l < length before → set (filled l before) (length l) x ≡ filled (l ++ x ∷ []) before
  one_more_in [] [] x h = absurd (not-suc-le-zero h)
  one_more_in [] (y ∷ before) x h = ap (λ (m : List A). x ∷ m) (sym (none_filled before))
  one_more_in (v ∷ l) [] x h = absurd (not-suc-le-zero h)
  one_more_in (v ∷ l) (y ∷ before) x h = ap (λ (m : List A). v ∷ m) (one_more_in l before x (le_of_suc-le-suc h))

  -- one more, where there is none
  pub one_more_out : (l before : List A) (x : A) → length before ≤ length l → filled l before ≡ filled (l ++ x ∷ []) before
  one_more_out [] [] x h = refl
  one_more_out [] (y ∷ before) x h = absurd (not-suc-le-zero h)
  one_more_out (v ∷ l) [] x h = refl
  one_more_out (v ∷ l) (y ∷ before) x h = ap (λ (m : List A). v ∷ m) (one_more_out l before x (le_of_suc-le-suc h))

  -- "the first ones are written": each record that is written stands where it has its place
  pub filled_at : (l before : List A) (i : ℕ) (z : A) → i < length l → i < length before → get_or (filled l before) i z ≡ get_or l i z
  filled_at [] before i z h k = absurd (not-suc-le-zero h)
  filled_at (v ∷ l) [] i z h k = absurd (not-suc-le-zero k)
  filled_at (v ∷ l) (y ∷ before) zero z h k = refl
  filled_at (v ∷ l) (y ∷ before) (suc i) z h k = filled_at l before i z (le_of_suc-le-suc h) (le_of_suc-le-suc k)

  -- "records beyond those written keep their values"
  pub kept_at : (l before : List A) (i : ℕ) (z : A) → length l ≤ i → get_or (filled l before) i z ≡ get_or before i z
  kept_at [] before i z h = ap (λ m. get_or m i z) (none_filled before)
  kept_at (v ∷ l) [] i z h = refl
  kept_at (v ∷ l) (y ∷ before) zero z h = absurd (not-suc-le-zero h)
  kept_at (v ∷ l) (y ∷ before) (suc i) z h = kept_at l before i z (le_of_suc-le-suc h)

  -- more room gives the same records first
  pub more_room :
      (l before wider : List A) → length before ≤ length wider → (i : ℕ) (z : A) → i < length l → i < length before
      → get_or (filled l before) i z ≡ get_or (filled l wider) i z
  more_room l before wider w i z h k = filled_at l before i z h k ∙ sym (filled_at l wider i z h (omega arith))
