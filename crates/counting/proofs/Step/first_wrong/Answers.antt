-- `first_wrong` judges the nodes from one on, at the first node all at once and then one by one: the counters of those passed are zero again.
use mathlib.Core.Path.{◌≡◌, refl}
use native.Mathlib.Omega.{arith}
use borrow.Author.Count.{below_more}
use Rattle.little.proofs.Promise.{said_no, said_yes}
use Rattle.layout.specs.Ways.{way_of}
use Rattle.layout.proofs.Search.{one_stored}
use Rattle.fitting.proofs.Laws.{sound}
use Rattle.counting.proofs.Laws.{step_found, step_passed, end_small, counters_small, cleared}
use Rattle.counting.proofs.Step.first_wrong.Goals as goal
use Rattle.counting.proofs.Step.first_wrong.Goals.{else-has-via-then-has+else-not-within, else-has-via-else-has}

pub all_within-requires : goal.all_within-requires
all_within-requires c =
    let r = sound c.args.self.p.now in
    let w = way_of c.args.self.way in
    let few = r.nodes in
    (end_small r w c.requires.ready.0.there c.schema_near-near.ensures, c.requires.ready.1, few, λ v h. counters_small r w c.requires.counters_to v (omega arith))

pub clear-requires : goal.clear-requires
clear-requires c = (c.requires.ready.1, (sound c.args.self.p.now).nodes, cleared _ _ _ _ _ c.requires.counters_to)

pub returns-then-all_within : goal.returns-then-all_within
returns-then-all_within c =
    step_passed (sound c.args.self.p.now) (way_of c.args.self.way) c.requires.ready.0.kept.masked c.requires.ready.0.there c.schema_near-near.ensures c.least-least.ensures
    c.most-most.ensures c.requires.counters_to c.requires.ready.1 (rw c.if-all_within.true at c.all_within.ensures) c.clear.ensures

pub offset_bounds-self-v : goal.offset_bounds-self-v
offset_bounds-self-v c = omega (arith, (sound c.args.self.p.now).nodes)

pub bounds-self-v : goal.bounds-self-v
bounds-self-v c = omega (arith, (sound c.args.self.p.now).nodes)

pub has-requires : goal.has-requires
has-requires c = end_small (sound c.args.self.p.now) (way_of c.args.self.way) c.requires.ready.0.there c.schema_near-near.ensures

pub returns-then-not-within : goal.returns-then-not-within
returns-then-not-within c =
    let few = (sound c.args.self.p.now).nodes in
    let same = c.loop-v.invariant.1.ahead c.loop-v.v (omega arith) (omega arith) in
    step_found (sound c.args.self.p.now) (way_of c.args.self.way) c.requires.ready.0.kept.masked c.requires.ready.0.there c.schema_near-near.ensures c.least-least.ensures
    c.most-most.ensures c.requires.counters_to c.loop-v.v (omega arith) c.loop-v-test.true (rw c.if-has.true at c.has.ensures)
    (rw same at (said_no c.within.result c.if-not-within.true c.within.ensures)) c.loop-v.invariant.0 c.loop-v.invariant.1

pub offset_bounds-counts-v-in-loop-v : goal.offset_bounds-counts-v-in-loop-v
offset_bounds-counts-v-in-loop-v c = omega (arith, (sound c.args.self.p.now).nodes)

pub bounds-counts-v-in-loop-v : goal.bounds-counts-v-in-loop-v
bounds-counts-v-in-loop-v c = omega (arith, (sound c.args.self.p.now).nodes)

pub loop-v-preserved : goal.loop-v-preserved
loop-v-preserved c =
    let l = c.loop-v in
    let few = (sound c.args.self.p.now).nodes in
    let same = l.invariant.1.ahead l.v (omega arith) (omega arith) in (
      below_more _ _ l.invariant.0
          (elim c.else-has.branch [
            | else-has-via-then-has+else-not-within x ↦ λ _ _. rw same at (said_yes x.within.result x.if-not-within.false x.within.ensures)
            | else-has-via-else-has x ↦ λ _ p. absurd ((rw x.if-has.false at c.has.ensures) p)
          ]),
      one_stored (omega arith) l.invariant.1 0 refl,
    )

pub returns : goal.returns
returns c =
    let e : c.loop-v.v ≡ c.args.self.p.now.graph.numbers.nodes = omega arith in
    step_passed (sound c.args.self.p.now) (way_of c.args.self.way) c.requires.ready.0.kept.masked c.requires.ready.0.there c.schema_near-near.ensures c.least-least.ensures
    c.most-most.ensures c.requires.counters_to c.requires.ready.1 (rw e at c.loop-v.invariant.0) (rw e at c.loop-v.invariant.1)
