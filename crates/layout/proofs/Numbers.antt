-- Counting among numbers in a row: how many of the n numbers from a on are P.
use mathlib.Core.Path.{◌≡◌, refl}
use mathlib.Core.List.{List, [], ◌∷◌}
use Prim.Native.Nat.{ℕ, zero, suc, ◌+◌, ◌*◌, ◌≤◌, ◌<◌}
use native.Mathlib.Nat.{zero-add, suc-add, zero-mul, suc-mul}
use native.Mathlib.Omega.{arith}
use Rattle.meaning.specs.Counted.{Counted, none, counts, counts_not}

-- the n numbers from a on
unfoldable pub numbers : ℕ → ℕ → List ℕ
numbers a zero = []
numbers a (suc n) = a ∷ numbers (suc a) n

-- the sum of f over them
unfoldable pub total : (ℕ → ℕ) → ℕ → ℕ → ℕ
total f a zero = 0
total f a (suc n) = f a + total f (suc a) n

-- P holds of each of them
abbrev pub Each : (ℕ → Type 0) → ℕ → ℕ → Type 0
Each P a n = (k : ℕ) → a ≤ k → k < a + n → P k

module _ {P : ℕ → Type 0} where
  count_none : (a n : ℕ) → Each (λ k. ¬ P k) a n → Counted P (numbers a n) 0
  unfolding numbers
  count_none a zero h = none
  count_none a (suc n) h = counts_not (h a (omega arith) (omega arith)) (count_none (suc a) n (λ k l m. h k (omega arith) (omega arith)))

  pub count_all : (a n : ℕ) → Each P a n → Counted P (numbers a n) n
  unfolding numbers
  count_all a zero h = none
  count_all a (suc n) h = counts (h a (omega arith) (omega arith)) (count_all (suc a) n (λ k l m. h k (omega arith) (omega arith)))

  count_add : (a m n : ℕ) {c d : ℕ} → Counted P (numbers a m) c → Counted P (numbers (a + m) n) d → Counted P (numbers a (m + n)) (c + d)
  unfolding numbers
  count_add a zero n {d = d} none y = let e : a + 0 ≡ a = omega arith in rw (zero-add n, zero-add d) (rw e at y)
  count_add a (suc m) n {d = d} (counts {n = c} p x) y =
      let e : a + suc m ≡ suc a + m = omega arith in rw (suc-add m n, suc-add c d) (counts p (count_add (suc a) m n x (rw e at y)))
  count_add a (suc m) n (counts_not h x) y =
      let e : a + suc m ≡ suc a + m = omega arith in rw (suc-add m n) (counts_not h (count_add (suc a) m n x (rw e at y)))

  -- only among the middle ones
  pub count_within : (a p m q : ℕ) {c : ℕ} → Each (λ k. ¬ P k) a p → Counted P (numbers (a + p) m) c → Each (λ k. ¬ P k) (a + p + m) q → Counted P (numbers a (p + (m + q))) c
  count_within a p m q {c} before x after =
      let e : 0 + (c + 0) ≡ c = omega arith in
      rw e at (count_add a p (m + q) (count_none a p before) (count_add (a + p) m q x (count_none (a + p + m) q after)))

  -- n parts of k numbers each, part i of them with f i
  pub count_parts :
      (f : ℕ → ℕ) (a k b n : ℕ) → Each (λ i. Counted P (numbers (a + i * k) k) (f i)) b n → Counted P (numbers (a + b * k) (n * k)) (total f b n)
  unfolding numbers total
  count_parts f a k b zero h = rw (zero-mul k) none
  count_parts f a k b (suc n) h =
      let e : a + suc b * k ≡ a + b * k + k = rw (suc-mul b k) (omega arith) in
      let s : suc n * k ≡ k + n * k = rw (suc-mul n k) (omega arith) in
      rw s (count_add (a + b * k) k (n * k) (h b (omega arith) (omega arith)) (rw e at (count_parts f a k (suc b) n (λ i l m. h i (omega arith) (omega arith)))))

-- one number on, the last is added and the first is gone
pub total_on : (f : ℕ → ℕ) (a n : ℕ) → total f (suc a) n + f a ≡ total f a n + f (a + n)
unfolding total
total_on f a zero = let e : a + 0 ≡ a = omega arith in rw e refl
total_on f a (suc n) = let e : a + suc n ≡ suc a + n = omega arith in let t = total_on f (suc a) n in rw e (omega arith)
