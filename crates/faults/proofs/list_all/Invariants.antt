-- `list_all`: as far as the search is, the list is filled.
use Rattle.faults.specs.Finders.{FinderStands}
use Rattle.faults.proofs.Laws.{left, Reached}
use Rattle.faults.proofs.list_all.Given as goal

abbrev pub invariant-loop-f : goal.invariant-loop-f
invariant-loop-f g l =
    goal.F-IsAlwaysCallable g l.form × FinderStands l.graph l.schema l.notes.masks l.notes.places l.notes.counts l.f
    × Reached g.form_of l.graph l.schema l.initial.list l.f l.list l.total

abbrev pub decreases-loop-f : goal.decreases-loop-f
decreases-loop-f g l = left l.total
