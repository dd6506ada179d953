-- What any two files and an output are owed, a case of Ask 7 at a time; `joins_one` says that it is all that can come back.
use mathlib.Core.Path.{refl}
use mathlib.Core.List.{List, ◌++◌}
use Prim.Native.Nat.{ℕ, ◌≤◌, ◌<◌}
use native.Mathlib.Omega.{arith}
use lib.ListN.{length, drop}
use Rattle.layout.specs.declared.File.TheVariants.{Graph}
use Rattle.layout.specs.Files.{ceilings}
use Rattle.layout.specs.Refusals.{refusals, here, later, Held, FileRefused, FileAccepted}
use Rattle.reader.proofs.Laws.{fails}
use Rattle.writer.specs.Outcome.{outcome, refused, wrote}
use Rattle.join.specs.Joined.{numbers_of_both, joined_file}
use Rattle.join.specs.Joins.{of_graph, own_refusals, Joins}
use Rattle.join.proofs.Which.{told, past, all_past}

module _ (f g out : List ℕ) where
  -- "2 to 8 for the first graph, .. with 0": whatever the second is
  pub first_refused : {x k : ℕ} → FileRefused Graph (ceilings Graph) f x k → Joins f g out (outcome x 0) out
  first_refused {x} {k} r = refused (told 0 (refusals Graph (ceilings Graph) f) (of_graph 1 g ++ own_refusals f g out) x k r) refl refl

  module _ (p : FileAccepted Graph (ceilings Graph) f) where
    -- "then for the second, .. with .. 1"
    pub second_refused : {x k : ℕ} → FileRefused Graph (ceilings Graph) g x k → Joins f g out (outcome x 1) out
    second_refused {x} {k} r =
        refused (past 0 (refusals Graph (ceilings Graph) f) (of_graph 1 g ++ own_refusals f g out) x 1 p (told 1 (refusals Graph (ceilings Graph) g) (own_refusals f g out) x k r)) refl refl

    module _ (q : FileAccepted Graph (ceilings Graph) g) where
      -- "44 if a joined count is above its ceiling": whatever the output's length is
      pub above_ceiling : ¬ Held (ceilings Graph) (numbers_of_both f g) → Joins f g out (outcome 44 0) out
      above_ceiling bad =
          refused
          (past 0 (refusals Graph (ceilings Graph) f) (of_graph 1 g ++ own_refusals f g out) 44 0 p
          (past 1 (refusals Graph (ceilings Graph) g) (own_refusals f g out) 44 0 q (here refl (fails bad)))) refl refl

      -- "42"
      pub output_short : Held (ceilings Graph) (numbers_of_both f g) → length out < length (joined_file f g) → Joins f g out (outcome 42 0) out
      output_short held short =
          refused
          (past 0 (refusals Graph (ceilings Graph) f) (of_graph 1 g ++ own_refusals f g out) 42 0 p
          (past 1 (refusals Graph (ceilings Graph) g) (own_refusals f g out) 42 0 q (later (λ _ _. held) (here refl (fails (λ (fits : length (joined_file f g) ≤ length out). omega arith)))))) refl refl

      -- in every other case the joined file is written
      pub joined_owed :
          Held (ceilings Graph) (numbers_of_both f g) → length (joined_file f g) ≤ length out
          → Joins f g out (outcome 0 (length (joined_file f g))) (joined_file f g ++ drop (length (joined_file f g)) out)
      joined_owed held fits =
          wrote (all_past 0 (refusals Graph (ceilings Graph) f) (of_graph 1 g ++ own_refusals f g out) p (all_past 1 (refusals Graph (ceilings Graph) g) (own_refusals f g out) q (λ _ _. held, (λ _ _. fits, tt)))) refl refl
