-- How many elements of a list are P. It goes by P alone: nothing is said of how P is found out.
use Rattle.std.specs.Prelude.{List, [], ◌∷◌, ℕ, zero, suc}

pub data Counted {A : Type 0} (P : A → Type 0) : List A → ℕ → Type 0 where
  none : Counted P [] zero
  counts : {x : A} {xs : List A} {n : ℕ} → P x → Counted P xs n → Counted P (x ∷ xs) (suc n)
  counts_not : {x : A} {xs : List A} {n : ℕ} → ¬ P x → Counted P xs n → Counted P (x ∷ xs) n
