-- Searches through places, and tables that are gone through place by place.
use Rattle.std.specs.Prelude.{◌≡◌, List, ℕ, ◌≤◌, ◌<◌, length, get_or, Option, Some, None}
use Rattle.meaning.specs.Places.{Every, Lowest}

-- the lowest of n places at which P holds, or that there is none
abbrev pub Seeks : Option ℕ → ℕ → (ℕ → Type 0) → Type 0
Seeks (Some k) n P = Lowest n P k
Seeks None n P = Every n (λ i. ¬ P i)

-- P holds at a place that is not before `from`
abbrev pub From : ℕ → (ℕ → Type 0) → ℕ → Type 0
From from P i = (from ≤ i) × P i

-- where a search through n places stopped: at the place that it found, or behind the last one
abbrev pub stopped_at : Option ℕ → ℕ → ℕ
stopped_at (Some k) n = k
stopped_at None n = n

-- a table of `size` numbers that is gone through up to row n: P says what stands in the rows before n, Q what stands in the others
pub record UpTo (size : ℕ) (P Q : ℕ → ℕ → Type 0) (n : ℕ) (l : List ℕ) : Type 0 where
  pub sized : length l ≡ size
  pub passed : Every n (λ i. P i (get_or l i 0))
  pub ahead : (i : ℕ) → n ≤ i → i < size → Q i (get_or l i 0)

-- a search from place `from` on, and the table that it goes through: T says what the table is once it is gone through up to a place
pub record Searches (r : Option ℕ) (from n : ℕ) (P : ℕ → Type 0) (T : ℕ → List ℕ → Type 0) (l : List ℕ) : Type 0 where
  pub found : Seeks r n (From from P)
  pub table : T (stopped_at r n) l
