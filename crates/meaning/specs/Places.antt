-- Statements about places. Rows are counted from 0, so a place in a table of n rows is a number below n.
use Rattle.std.specs.Prelude.{ℕ, ◌≤◌, ◌<◌}

-- P holds at every place
abbrev pub Every : ℕ → (ℕ → Type 0) → Type 0
Every n P = (i : ℕ) → i < n → P i

-- P holds at some place
abbrev pub Some : ℕ → (ℕ → Type 0) → Type 0
Some n P = (i : ℕ) × (i < n) × P i

-- k is the lowest place at which P holds
pub record Lowest (n : ℕ) (P : ℕ → Type 0) (k : ℕ) : Type 0 where
  pub below : k < n
  pub holds : P k
  pub before : (i : ℕ) → i < k → ¬ P i

-- k is the lowest number of which P holds
pub record Least (P : ℕ → Type 0) (k : ℕ) : Type 0 where
  pub holds : P k
  pub least : (n : ℕ) → P n → k ≤ n
