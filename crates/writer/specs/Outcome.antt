-- Tools with an output (02, Ask 1: "From here on a tool with an output returns code and number").
use Rattle.std.specs.Prelude.{◌≡◌, List, ◌++◌, ℕ, length, drop}
use Rattle.layout.specs.Refusals.{Refusal, RefusedBy, Passed}
use Rattle.writer.specs.declared.Outcome.{Outcome}

abbrev pub outcome : ℕ → ℕ → Outcome
outcome c n = record { code = c; number = n }

-- What is returned, and what the output holds afterwards: ls is the tool's table of refusals, and the file what it owes where none is given.
module _ (ls : List Refusal) (file before : List ℕ) where
  pub data Leaves (o : Outcome) (after : List ℕ) : Type 0 where
    -- "a refusal and 0 unless its ask says more"; "a refusal writes nothing"
    refused : {x k : ℕ} → RefusedBy ls x k → o ≡ outcome x k → after ≡ before → Leaves o after
    -- "0 and the length written"; "Output after the file keeps its values"
    wrote : Passed ls → o ≡ outcome 0 (length file) → after ≡ file ++ drop (length file) before → Leaves o after
