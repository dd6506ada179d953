-- A label set's number says which labels it has, and nothing else: label sets are equal exactly if they have the same labels.
use mathlib.Core.Path.{◌≡◌}
use mathlib.Core.Logic.{◌↔◌}
use Prim.Native.Nat.{ℕ, zero, suc, ◌+◌, ◌/◌, ◌%◌, ◌^◌, ◌≤◌}
use native.Mathlib.Nat.{div-div-eq-div-mul, pow-succ'}
use native.Mathlib.Decide.{ℕ_discrete}
use native.Mathlib.Omega.{arith}
use Rattle.meaning.specs.Model.{Object, Shape}
use Rattle.meaning.specs.Fits.{HasLabel, SameLabels}

abbrev Agree : ℕ → ℕ → Type 0
Agree l m = (k : ℕ) → HasLabel l k ↔ HasLabel m k

-- the labels from 1 on are those of the half
halved : (l k : ℕ) → l / 2 ^ suc k ≡ l / 2 / 2 ^ k
halved l k = rw (pow-succ' 2 k, div-div-eq-div-mul l 2 (2 ^ k))

agree_half : (l m : ℕ) → Agree l m → Agree (l / 2) (m / 2)
agree_half l m a k = rw (halved l k, halved m k) at (a (suc k))

lowest_label : (l m : ℕ) → Agree l m → l % 2 ≡ m % 2
lowest_label l m a = go (ℕ_discrete (l % 2) 1) (ℕ_discrete (m % 2) 1)
  where
    go : Dec (l % 2 ≡ 1) → Dec (m % 2 ≡ 1) → l % 2 ≡ m % 2
    go (yes p) d = let q = (a 0).0 (omega arith) in omega arith
    go (no p) (yes q) = let r = (a 0).1 (omega arith) in omega arith
    go (no p) (no q) = omega arith

equal_below : (n l m : ℕ) → l ≤ n → m ≤ n → Agree l m → l ≡ m
equal_below zero l m h k a = omega arith
equal_below (suc n) l m h k a =
    let half = equal_below n (l / 2) (m / 2) (omega arith) (omega arith) (agree_half l m a) in
    let low = lowest_label l m a in
    omega arith

pub labels_iff : (o : Object) (s : Shape) → SameLabels o s ↔ ((k : ℕ) → HasLabel o.labels k ↔ HasLabel s.labels k)
unfolding SameLabels
labels_iff o s = (λ e k. rw e ((λ h. h), (λ h. h)), λ a. equal_below (o.labels + s.labels) _ _ (omega arith) (omega arith) a)
