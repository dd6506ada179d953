-- How a promise is shown to have one answer, and what follows from a Boolean one.
use mathlib.Core.Path.{◌≡◌, refl, sym, ◌∙◌}
use mathlib.Core.Bool.{Bool, true, false}
use Prim.Native.Nat.{ℕ}
use native.Mathlib.Omega.{arith}
use Rattle.std.specs.Prelude.{nat_eq, ◌↔◌}
use Rattle.std.proofs.lemmas.Bool.{eqb-true, eq-eqb, iff_false}
use Rattle.little.specs.Promise.{Only, Says}

-- a promise that says what the answer is has one
pub only : {A : Type 0} (P : A → Type 0) (z : A) → ((x : A) → P x → x ≡ z) → Only P
only P z is x y p q = is x p ∙ sym (is y q)

-- "the result is this value" has one answer
pub equal_one : {A : Type 0} (z : A) → Only (λ r. r ≡ z)
equal_one z = only _ z (λ r is. is)

-- a promise that says more has one answer where its first part has
pub both_one : {A : Type 0} {P : A → Type 0} (Q : A → Type 0) → Only P → Only (λ r. P r × Q r)
both_one Q one x y p q = one x y p.0 q.0

-- an answer of two parts is known by its parts
pub pair : {A B : Type 0} (x : A × B) {a : A} {b : B} → x.0 ≡ a → x.1 ≡ b → x ≡ (a, b)
pair x e f = rw (← e, ← f)

-- whether P holds has one answer
pub says_one : (P : Type 0) → Only (λ r. Says r P)
says_one P true true p q = refl
says_one P true false p q = absurd (q p)
says_one P false true p q = absurd (p q)
says_one P false false p q = refl

-- for `if !f(..)`: what the branch taken and the branch left know
pub said_no : {P : Type 0} (b : Bool) → b ≡ false → Says b P → ¬ P
said_no true e h = let z : ◌≡◌ {A = ℕ} 0 1 = cc in absurd (omega arith)
said_no false e h = h

pub said_yes : {P : Type 0} (b : Bool) → b ≡ true → Says b P → P
said_yes true e h = h
said_yes false e h = let z : ◌≡◌ {A = ℕ} 0 1 = cc in absurd (omega arith)

-- whether P holds is said by what is true exactly where P holds, as a comparison of numbers is
pub says_iff : (b : Bool) {P : Type 0} → ((b ≡ true) ↔ P) → Says b P
says_iff true h = h.0 refl
says_iff false h = iff_false h refl

pub says_eq : (x y : ℕ) {P : Type 0} → (x ≡ y → P) → (P → x ≡ y) → Says (nat_eq x y) P
says_eq x y from to = says_iff (nat_eq x y) (λ e. from (eqb-true x y e), λ p. eq-eqb x y (to p))

-- what says whether P holds says whether Q does, where one is so exactly if the other is
pub says_as : (b : Bool) {P Q : Type 0} → (P → Q) → (Q → P) → Says b P → Says b Q
says_as true from to h = from h
says_as false from to h = λ q. h (to q)
