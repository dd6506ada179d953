-- Laws of counting: there is one number, and it goes by what is counted alone.
use mathlib.Core.Path.{◌≡◌, refl, ap}
use mathlib.Core.List.{List, [], ◌∷◌, ◌++◌, map}
use Prim.Native.Nat.{ℕ, zero, suc, ◌+◌, ◌<◌, zero-le, suc-le-suc}
use native.Mathlib.Nat.{zero-add, suc-add}
use lib.ListN.{length, get_or}
use Rattle.meaning.specs.Counted.{Counted, none, counts, counts_not}

-- two numbers counted are one
pub counted_one : {A : Type 0} {P : A → Type 0} {xs : List A} {m n : ℕ} → Counted P xs m → Counted P xs n → m ≡ n
counted_one none none = refl
counted_one (counts p c) (counts q d) = ap suc (counted_one c d)
counted_one (counts p c) (counts_not h d) = absurd (h p)
counted_one (counts_not h c) (counts p d) = absurd (h p)
counted_one (counts_not h c) (counts_not k d) = counted_one c d

-- the number depends on what is counted alone
pub counted_iff :
    {A : Type 0} {P Q : A → Type 0} {xs : List A} {n : ℕ} → ((x : A) → P x → Q x) → ((x : A) → Q x → P x) → Counted P xs n → Counted Q xs n
counted_iff f g none = none
counted_iff f g (counts {x = x} p c) = counts (f x p) (counted_iff f g c)
counted_iff f g (counts_not {x = x} h c) = counts_not (λ q. h (g x q)) (counted_iff f g c)

-- what can be decided of each element can be counted
module _ {A : Type 0} {P : A → Type 0} (d : (x : A) → Dec (P x)) where
  pub counted_next : {x : A} {xs : List A} → Dec (P x) → (n : ℕ) × Counted P xs n → (n : ℕ) × Counted P (x ∷ xs) n
  counted_next (yes p) (n, c) = (suc n, counts p c)
  counted_next (no h) (n, c) = (n, counts_not h c)

  unfoldable pub counted : (xs : List A) → (n : ℕ) × Counted P xs n
  unfolding counted_next
  counted [] = (zero, none)
  counted (x ∷ xs) = counted_next (d x) (counted xs)

-- ---- lists put together

pub counted_append : {A : Type 0} {P : A → Type 0} {xs ys : List A} {m n : ℕ} → Counted P xs m → Counted P ys n → Counted P (xs ++ ys) (m + n)
counted_append none d = rw zero-add d
counted_append (counts p c) d = rw suc-add (counts p (counted_append c d))
counted_append (counts_not h c) d = counts_not h (counted_append c d)

pub counted_map : {A B : Type 0} {P : B → Type 0} (f : A → B) {xs : List A} {n : ℕ} → Counted (λ x. P (f x)) xs n → Counted P (map f xs) n
counted_map f none = none
counted_map f (counts p c) = counts p (counted_map f c)
counted_map f (counts_not h c) = counts_not h (counted_map f c)

-- the same number, where P and Q say the same of what stands at each place
pub counted_at :
    {A : Type 0} {P Q : A → Type 0} (z : A) (xs : List A) {n : ℕ} → ((i : ℕ) → i < length xs → P (get_or xs i z) → Q (get_or xs i z))
    → ((i : ℕ) → i < length xs → Q (get_or xs i z) → P (get_or xs i z)) → Counted P xs n → Counted Q xs n
counted_at z [] f g none = none
counted_at z (x ∷ xs) f g (counts p c) = counts (f zero (suc-le-suc zero-le) p) (counted_at z xs (λ i h. f (suc i) (suc-le-suc h)) (λ i h. g (suc i) (suc-le-suc h)) c)
counted_at z (x ∷ xs) f g (counts_not h c) = counts_not (λ q. h (g zero (suc-le-suc zero-le) q)) (counted_at z xs (λ i h. f (suc i) (suc-le-suc h)) (λ i h. g (suc i) (suc-le-suc h)) c)

pub counted_none : {A : Type 0} {P : A → Type 0} (z : A) (xs : List A) → ((i : ℕ) → i < length xs → ¬ P (get_or xs i z)) → Counted P xs 0
counted_none z [] h = none
counted_none z (x ∷ xs) h = counts_not (h zero (suc-le-suc zero-le)) (counted_none z xs (λ i l. h (suc i) (suc-le-suc l)))
