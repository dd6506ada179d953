-- What `judge` and `judge_small` promise has one answer: the five numbers are known, and what is told is nothing else.
use mathlib.Core.Path.{ap}
use mathlib.Core.List.{List}
use Prim.Native.Nat.{ℕ}
use Rattle.little.specs.Promise.{Only}
use Rattle.layout.specs.declared.File.TheVariants.{Graph, Schema}
use Rattle.layout.specs.declared.Ceilings.{Ceilings}
use Rattle.layout.specs.Files.{ceilings, small_ceilings}
use Rattle.layout.specs.Checked.{Answers}
use Rattle.layout.proofs.Whole.{answers_one}
use Rattle.telling.specs.Told.{finding_of, answer_in}

answers_told_one : (c d : Ceilings) (g s : List ℕ) → Only (λ r. Answers c d g s (answer_in r))
answers_told_one c d g s x y p q = ap finding_of (answers_one c d g s _ _ p q)

pub judge_one : (g s : List ℕ) → Only (λ r. Answers (ceilings Graph) (ceilings Schema) g s (answer_in r))
judge_one = answers_told_one (ceilings Graph) (ceilings Schema)

pub judge_small_one : (g s : List ℕ) → Only (λ r. Answers (small_ceilings Graph) (small_ceilings Schema) g s (answer_in r))
judge_small_one = answers_told_one (small_ceilings Graph) (small_ceilings Schema)
