-- Numbers as bytes, low byte first.
use Rattle.std.specs.Prelude.{ℕ, zero, suc, ◌+◌, ◌*◌, ◌/◌, ◌%◌, List, [], ◌∷◌, ◌++◌, length, get_or, take, drop}

-- the number that stands in w bytes of s from `at` on
unfoldable pub little : ℕ → List ℕ → ℕ → ℕ
little zero s at = 0
little (suc w) s at = get_or s at 0 + 256 * little w s (at + 1)

-- the w bytes of the number v; what is left of v above them is dropped
abbrev pub bytes : ℕ → ℕ → List ℕ
bytes zero v = []
bytes (suc w) v = v % 256 ∷ bytes w (v / 256)

-- s with bs from `at` on, where they fit; every other byte keeps its value
abbrev pub written : List ℕ → ℕ → List ℕ → List ℕ
written s at bs = take at s ++ (bs ++ drop (at + length bs) s)
