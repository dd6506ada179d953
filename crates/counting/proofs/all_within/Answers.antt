-- `all_within` adds up the bits of the nodes whose numbers are not within the interval: the sum is 0 exactly if there is none.
use native.Mathlib.Omega.{arith}
use lib.ListN.{get_or}
use Rattle.meaning.specs.Rules.{Within}
use Rattle.layout.specs.Schema.{interval_of}
use Rattle.counting.proofs.Judge.{Adds, adds_none, adds_bit, one_judged}
use Rattle.counting.proofs.all_within.Goals as goal
use Rattle.counting.proofs.all_within.Goals.{then-within, else-within}

pub loop-v-preserved : goal.loop-v-preserved
loop-v-preserved c =
    let s = c.args in
    let m = get_or s.masks.now c.loop-v.v 0 in
    let k = get_or s.counts.now c.loop-v.v 0 in
    let p : Adds m s.near (Within k (interval_of s.least s.most)) c.if-within.owes =
    elim c.if-within.branch [
      | then-within w ↦ rw w.owes-is (adds_none m s.near (rw w.if-within.true at c.within.ensures))
      | else-within w ↦ rw w.owes-is (adds_bit m s.near (rw w.if-within.false at c.within.ensures))
    ] in
    (omega arith, one_judged s.near (interval_of s.least s.most) s.masks.now s.counts.now s.from (omega arith) p c.loop-v.invariant.1)
