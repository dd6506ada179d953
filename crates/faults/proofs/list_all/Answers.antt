-- `list_all`: as far as the search is, the list is filled.
use mathlib.Core.Path.{refl}
use Prim.Native.Nat.{◌<◌}
use native.Mathlib.Omega.{arith}
use lib.ListN.{length}
use Rattle.std.proofs.Common.{rules}
use Rattle.faults.proofs.Laws.{opened, begins, fits, same_length, goes_in, goes_out, less, ends}
use Rattle.faults.proofs.list_all.Goals as goal
use Rattle.faults.proofs.list_all.Goals.{then-total-list, else-total-list}

pub loop-f-init : goal.loop-f-init
loop-f-init g c = (c.requires.1.1.0, opened (record { masks = refl; places = refl; counts = refl }) c.open-f.ensures, begins g.form_of _ _ _ c.open-f.ensures)

pub listed_by-requires : goal.listed_by-requires
listed_by-requires g c = omega (arith, fits g.form_of _ _ _ c.loop-f.invariant.2)

pub returns-in_default : goal.returns-in_default
returns-in_default g c = rw c.listed_by.ensures (ends g.form_of _ _ _ c.next-f.ensures.goes c.loop-f.invariant.2 c.in_default.is)

pub offset_bounds-list-total : goal.offset_bounds-list-total
offset_bounds-list-total g c = let h : c.loop-f.total < length c.args.list.now = omega (arith, same_length g.form_of _ _ _ c.loop-f.invariant.2, c.if-total-list.true) in search rules

pub overflow_add-total : goal.overflow_add-total
overflow_add-total g c = omega (arith, fits g.form_of _ _ _ c.loop-f.invariant.2)

pub loop-f-smaller : goal.loop-f-smaller
loop-f-smaller g c = less g.form_of _ _ _ c.next-f.ensures.goes c.loop-f.invariant.2 c.in-Some.is

pub loop-f-preserved : goal.loop-f-preserved
loop-f-preserved g c =
    let l = c.loop-f in
    let goes = c.next-f.ensures.goes in (
      l.invariant.0,
      c.next-f.ensures.finder_stands,
      elim c.if-total-list.branch [
        | then-total-list w ↦ rw w.list-is (goes_in g.form_of _ _ _ goes l.invariant.2 c.in-Some.is _ (c.requires.1.1.1 _ _ w.form.ensures) w.if-total-list.true)
        | else-total-list w ↦ rw w.list-is (goes_out g.form_of _ _ _ goes l.invariant.2 c.in-Some.is w.if-total-list.false)
      ],
    )
