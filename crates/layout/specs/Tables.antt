-- Tables: a part of a file's bytes, and what stands in n rows.
use Rattle.std.specs.Prelude.{List, [], ◌∷◌, ℕ, zero, suc, ◌-◌, take, drop}

-- the bytes from place a on, up to place b
abbrev pub between : List ℕ → ℕ → ℕ → List ℕ
between f a b = take (b - a) (drop a f)

-- what n rows say, row by row from 0 on
unfoldable pub rows : {A : Type 0} → ℕ → (ℕ → A) → List A
rows zero at = []
rows (suc n) at = at zero ∷ rows n (λ i. at (suc i))
