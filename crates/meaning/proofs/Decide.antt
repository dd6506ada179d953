-- Decisions, and searches below a bound: each carries what it found, so that what is computed is right by its type.
use mathlib.Core.Path.{◌≡◌}
use Prim.Native.Nat.{ℕ, zero, suc, ◌<◌, zero-le, suc-le-suc}
use native.Mathlib.Omega.{arith}
use native.Mathlib.Nat.{not-suc-le-zero, le_of_suc-le-suc}
use Rattle.meaning.specs.Places.{Every, Some, Lowest, Least}

-- ---- decisions

unfoldable pub dec_iff : {A B : Type 0} → (A → B) → (B → A) → Dec A → Dec B
dec_iff f g (yes a) = yes (f a)
dec_iff f g (no h) = no (λ b. h (g b))

unfoldable pub dec_and : {A B : Type 0} → Dec A → Dec B → Dec (A × B)
dec_and (yes a) (yes b) = yes (a, b)
dec_and (yes a) (no h) = no (λ p. h p.1)
dec_and (no h) d = no (λ p. h p.0)

unfoldable pub dec_imp : {A B : Type 0} → Dec A → Dec B → Dec (A → B)
dec_imp (yes a) (yes b) = yes (λ x. b)
dec_imp (yes a) (no h) = no (λ f. h (f a))
dec_imp (no h) d = yes (λ x. absurd (h x))

unfoldable pub dec_not : {A : Type 0} → Dec A → Dec (¬ A)
dec_not (yes a) = no (λ h. h a)
dec_not (no h) = yes h

-- what is decided holds if it is not false
pub by_dec : {A : Type 0} → Dec A → ¬ ¬ A → A
by_dec (yes a) h = a
by_dec (no n) h = absurd (h n)

-- ---- searches

pub data Search (n : ℕ) (P : ℕ → Type 0) : Type 0 where
  found : (k : ℕ) → Lowest n P k → Search n P
  nowhere : Every n (λ i. ¬ P i) → Search n P

pub every_suc : {n : ℕ} (P : ℕ → Type 0) → P zero → Every n (λ i. P (suc i)) → Every (suc n) P
every_suc P p h zero l = p
every_suc P p h (suc i) l = h i (le_of_suc-le-suc l)

lowest_suc : {n : ℕ} {P : ℕ → Type 0} {k : ℕ} → ¬ P zero → Lowest n (λ i. P (suc i)) k → Lowest (suc n) P (suc k)
lowest_suc {P} h l = record { below = suc-le-suc l.below; holds = l.holds; before = every_suc (λ i. ¬ P i) h l.before }

unfoldable pub search_below : {P : ℕ → Type 0} → ((i : ℕ) → Dec (P i)) → (n : ℕ) → Search n P
unfolding lowest_suc every_suc
search_below d zero = nowhere (λ i h. absurd (not-suc-le-zero h))
search_below {P} d (suc n) = go (d zero) (λ (_ : Unit {0}). search_below (λ i. d (suc i)) n)
  where
    next : ¬ P zero → Search n (λ i. P (suc i)) → Search (suc n) P
    next h (found k l) = found (suc k) (lowest_suc h l)
    next h (nowhere f) = nowhere (every_suc (λ i. ¬ P i) h f)

    go : Dec (P zero) → (Unit {0} → Search n (λ i. P (suc i))) → Search (suc n) P
    go (yes p) r = found zero (record { below = suc-le-suc zero-le; holds = p; before = λ i h. absurd (not-suc-le-zero h) })
    go (no h) r = next h (r tt)

unfoldable pub dec_some : {P : ℕ → Type 0} → ((i : ℕ) → Dec (P i)) → (n : ℕ) → Dec (Some n P)
unfolding search_below
dec_some {P} d n = go (search_below d n)
  where
    go : Search n P → Dec (Some n P)
    go (found k l) = yes (k, l.below, l.holds)
    go (nowhere h) = no (λ t. h t.0 t.1 t.2)

unfoldable pub dec_every : {P : ℕ → Type 0} → ((i : ℕ) → Dec (P i)) → (n : ℕ) → Dec (Every n P)
unfolding search_below
dec_every {P} d n = go (search_below (λ i. dec_not (d i)) n)
  where
    go : Search n (λ i. ¬ P i) → Dec (Every n P)
    go (found k l) = no (λ h. l.holds (h k l.below))
    go (nowhere h) = yes (λ i l. by_dec (d i) (h i l))

-- the lowest place is one
pub lowest_one : {n : ℕ} {P : ℕ → Type 0} {j k : ℕ} → Lowest n P j → Lowest n P k → j ≡ k
lowest_one {j} {k} a b =
    let l : ¬ (j < k) = λ h. b.before j h a.holds in
    let r : ¬ (k < j) = λ h. a.before k h b.holds in
    omega arith

-- ---- the lowest number

-- where P holds of a number, it holds of a lowest one
unfoldable pub least_below : {P : ℕ → Type 0} → ((i : ℕ) → Dec (P i)) → (n : ℕ) → P n → (k : ℕ) × Least P k
unfolding search_below
least_below {P} d n p = go (search_below d (suc n))
  where
    go : Search (suc n) P → (k : ℕ) × Least P k
    go (found k l) = (k, record { holds = l.holds; least = λ i q. let h : ¬ (i < k) = λ h. l.before i h q in omega arith })
    go (nowhere f) = absurd (f n (omega arith) p)

pub least_one : {P : ℕ → Type 0} {j k : ℕ} → Least P j → Least P k → j ≡ k
least_one {j = j} {k = k} a b = omega (arith, a.least k b.holds, b.least j a.holds)
