-- `walk_through` goes through the nodes or the edges, and through their runs with them. The objects passed are good, and the walk stands before the next.
use borrow.Author.Count.{below_more}
use Rattle.tables.proofs.Laws.{bad_head, good_object, one_run_more}
use Rattle.tables.proofs.walk_through.Goals as goal
use Rattle.tables.proofs.walk_through.Goals.{then-not-good_head-via-then-not-good_head, then-not-good_head-via-else-not-good_head+then-not-own_object}

pub returns-then-not-good_head : goal.returns-then-not-good_head
returns-then-not-good_head c =
    let l = c.loop-i in
    let there = rw c.count_of-i-end.ensures at c.loop-i-test.true in (
      l.i,
      c.bad_object.ensures,
      record {
        below = there;
        holds =
            elim c.then-not-good_head.branch [
              | then-not-good_head-via-then-not-good_head w ↦ bad_head l.invariant.1 there c.head-h.ensures w.if-not-good_head.ensures
              | then-not-good_head-via-else-not-good_head+then-not-own_object w ↦ λ g. w.if-not-own_object.ensures g.own
            ];
        before = λ k h q. q (l.invariant.0 k h);
      },
    )

pub loop-i-preserved : goal.loop-i-preserved
loop-i-preserved c =
    let l = c.loop-i in
    let there = rw c.count_of-i-end.ensures at c.loop-i-test.true in
    let head = c.if-not-good_head.ensures in
    (below_more _ _ l.invariant.0 (good_object l.invariant.1 there c.head-h.ensures head c.if-not-own_object.ensures), one_run_more l.invariant.1 there c.head-h.ensures head c.bad_up_to.ensures)
