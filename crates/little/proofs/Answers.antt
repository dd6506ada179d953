-- What the reads and the writes promise has one answer, at every width.
use mathlib.Core.Path.{◌≡◌}
use mathlib.Core.List.{List}
use Prim.Native.Nat.{ℕ}
use Rattle.little.specs.Promise.{Only}
use Rattle.little.specs.Little.{little, bytes, written}
use Rattle.little.proofs.Promise.{equal_one}

-- the reads: one number stands in w bytes from `at` on
pub read_one_answer : (w : ℕ) (s : List ℕ) (at : ℕ) → Only (λ r. r ≡ little w s at)
read_one_answer w s at = equal_one (little w s at)

-- the writes: one slice is left, byte for byte
pub write_one_answer : (w : ℕ) (s : List ℕ) (at v : ℕ) → Only (λ d. d ≡ written s at (bytes w v))
write_one_answer w s at v = equal_one (written s at (bytes w v))
