-- `test` is the record test: it goes down both runs at once.
use mathlib.Core.Path.{◌≡◌, sym, ap, ◌∙◌}
use mathlib.Core.Logic.{◌≢◌}
use mathlib.Core.Bool.{Bool, true, not}
use Prim.Native.Nat.{ℕ, ◌<◌, ◌≤◌}
use native.Mathlib.Omega.{arith}
use borrow.Author.Tests.{ltb-true, eqb-false, not-true, ne_eqb}
use lib.Dec.{eqb, ltb}
use Rattle.records.specs.Walk.{no_name}
use Rattle.records.proofs.RowAhead.{goes_ahead, goes_on}
use Rattle.records.proofs.HeldName.{keeps_as, keeps_other}
use Rattle.records.proofs.Steps.{starts, told_missing, listing_passed, row_passed, both_passed, told}
use Rattle.records.proofs.test.Goals.{then-present-lt-NO_NAME, else-present-lt-NO_NAME}
use Rattle.records.proofs.test.Goals as goal

pub loop-asked-init : goal.loop-asked-init
loop-asked-init c =
    let a = goes_ahead c.new-object.ensures.run c.next-present.ensures in
    let b = goes_ahead c.new-shape.ensures.run c.next-asked.ensures in
    record {
      object = goes_on c.new-object.ensures.run c.next-present.ensures;
      shape = goes_on c.new-shape.ensures.run c.next-asked.ensures;
      walking = (0, 0, starts c.args.s.opens c.requires (rw c.new-object.ensures.read at a) (rw c.new-shape.ensures.read at b));
    }

pub returns-then-asked-ne1 : goal.returns-then-asked-ne1
returns-then-asked-ne1 c = told_missing c.loop-asked.invariant.walking.2 c.if-asked-present.true c.if-asked-ne1.true

pub loop-asked-preserved-then-asked-present : goal.loop-asked-preserved-then-asked-present
loop-asked-preserved-then-asked-present c =
    let v = c.loop-asked.invariant in
    let g = c.next-asked-then-asked-present.ensures in
    record { object = v.object; shape = goes_on v.shape g; walking = (_, _, listing_passed v.walking.2 c.if-asked-present.true c.if-asked-ne1.false (goes_ahead v.shape g)) }

pub loop-asked-preserved-then-present-asked : goal.loop-asked-preserved-then-present-asked
loop-asked-preserved-then-present-asked c =
    let v = c.loop-asked.invariant in
    let g = c.next-present-then-present-asked.ensures in
    record { object = goes_on v.object g; shape = v.shape; walking = (_, _, row_passed v.walking.2 c.if-present-asked.true (keeps_other _ _ c.lowest-unlisted.ensures) (goes_ahead v.object g)) }

pub loop-asked-preserved : goal.loop-asked-preserved
loop-asked-preserved c =
    let v = c.loop-asked.invariant in
    let g = c.next-present-else-present-asked.ensures in
    let k = c.next-asked-else-present-asked.ensures in
    record {
      object = goes_on v.object g;
      shape = goes_on v.shape k;
      walking = (_, _, both_passed v.walking.2 (omega (arith, c.if-asked-present.false, c.if-present-asked.false)) c.loop-asked-test.true (keeps_other _ _ c.lowest-mistyped.ensures) (goes_ahead v.object g) (goes_ahead v.shape k));
    }

-- a name is ahead, and the type is closed
record Rests (rest : Bool) (n o : ℕ) : Type 0 where
  at_fault : rest ≡ true → (n < no_name) × (o ≢ 1)
  if_fault : (n < no_name) × (o ≢ 1) → rest ≡ true

rests_ahead : {rest : Bool} {n o : ℕ} → n < no_name → rest ≡ not (eqb o 1) → Rests rest n o
rests_ahead {o = o} l e = record { at_fault = λ p. (l, eqb-false o 1 (not-true (eqb o 1) (sym e ∙ p))); if_fault = λ q. e ∙ ap not (ne_eqb o 1 q.1) }

rests_none : {rest : Bool} {n o : ℕ} → no_name ≤ n → rest ≡ ltb n no_name → Rests rest n o
rests_none {n = n} l e = record { at_fault = λ p. absurd (omega (arith, l, ltb-true n no_name (sym e ∙ p))); if_fault = λ q. absurd (omega (arith, q.0)) }

pub returns : goal.returns
returns c =
    let f : Rests c.if-present-lt-NO_NAME.rest c.loop-asked.present.name c.args.s.opens =
    elim c.if-present-lt-NO_NAME.branch [
      | then-present-lt-NO_NAME w ↦ rests_ahead w.if-present-lt-NO_NAME.true w.rest-is
      | else-present-lt-NO_NAME w ↦ rests_none w.if-present-lt-NO_NAME.false w.rest-is
    ] in
    told c.loop-asked.invariant.walking.2 (λ l. omega (arith, c.loop-asked-test.false)) (keeps_as c.lowest.ensures f.at_fault f.if_fault) c.first_letter.ensures
