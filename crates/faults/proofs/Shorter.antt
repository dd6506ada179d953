-- A lower longest length: of a longer graph no violation is listed, and of a graph within it those that were listed before.
use mathlib.Core.Path.{refl, sym}
use mathlib.Core.List.{List, []}
use Prim.Native.Nat.{ℕ, ◌≤◌, ◌<◌}
use lib.ListN.{length}
use Rattle.meaning.specs.Answer.{Answer}
use Rattle.layout.specs.declared.Ceilings.{Ceilings}
use Rattle.layout.specs.Files.{files_up_to}
use Rattle.layout.proofs.Filled.{none_filled}
use Rattle.layout.proofs.Shorter.{all_too_long, all_within}
use Rattle.faults.specs.declared.Listed.{Listed}
use Rattle.faults.specs.Lists.{ListsAll}

module _ {A : Type 0} (form : Answer → A) (m : ℕ) (c d : Ceilings) (g s : List ℕ) (before : List A) where
  pub too_long : m < length g → ListsAll form (files_up_to m c) d g s before (record { code = 2; place = 0; total = 0 }) before
  too_long h = record { answers = []; owed = all_too_long m c d g s h; total = refl; list = sym (none_filled before) }

  pub within : {r : Listed} {after : List A} → m ≤ c.file → length g ≤ m → ListsAll form c d g s before r after → ListsAll form (files_up_to m c) d g s before r after
  within l h x = record { answers = x.answers; owed = all_within m c d g s l h x.owed; total = x.total; list = x.list }
