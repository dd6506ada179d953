-- What `find_tables` and `check_all` promise has one answer, and so has the list that is lent.
use mathlib.Core.Path.{◌≡◌, refl}
use mathlib.Core.List.{List}
use Prim.Native.Nat.{ℕ}
use Rattle.little.specs.Promise.{Only}
use Rattle.layout.specs.declared.File.TheVariants.{Graph, Schema}
use Rattle.layout.specs.Files.{ceilings}
use Rattle.layout.specs.Refusals.{refusals}
use Rattle.layout.proofs.Refusing.{not_both, refused_one}
use Rattle.telling.specs.declared.Finding.{Finding}
use Rattle.telling.specs.Told.{finding_of}
use Rattle.faults.specs.declared.Listed.{Listed}
use Rattle.faults.specs.Lists.{ListsAll}
use Rattle.faults.proofs.Answers.{lists_all_one}
use Rattle.havirozan.specs.TablePlaces.{TablesLie, refused, found}

pub places_one : (f : List ℕ) → Only (TablesLie f)
places_one f _ _ (refused p) (refused q) = let e = refused_one (refusals Graph (ceilings Graph) f) _ _ _ _ p q in cc
places_one f _ _ (refused p) (found q) = absurd (not_both (refusals Graph (ceilings Graph) f) _ _ q p)
places_one f _ _ (found q) (refused p) = absurd (not_both (refusals Graph (ceilings Graph) f) _ _ q p)
places_one f _ _ (found p) (found q) = refl

pub check_all_one :
    (g s : List ℕ) (before : List Finding) (r p : Listed) (after last : List Finding) → ListsAll finding_of (ceilings Graph) (ceilings Schema) g s before r after
    → ListsAll finding_of (ceilings Graph) (ceilings Schema) g s before p last → (r ≡ p) × (after ≡ last)
check_all_one g s = lists_all_one finding_of (ceilings Graph) (ceilings Schema) g s
