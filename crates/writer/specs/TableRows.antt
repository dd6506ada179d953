-- Tables made row by row.
use Rattle.std.specs.Prelude.{List, [], ◌++◌, ℕ, zero, suc}

-- n rows, one after another
abbrev pub rows_up_to : ℕ → (ℕ → List ℕ) → List ℕ
rows_up_to zero row = []
rows_up_to (suc n) row = rows_up_to n row ++ row n
