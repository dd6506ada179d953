-- `first_wrong` judges the nodes from one on, at the first node all at once and then one by one: the counters of those passed are zero again.
use Rattle.layout.specs.Schema.{interval_of}
use Rattle.counting.specs.Passes.{AllWithin, ClearedTo}
use Rattle.counting.proofs.Step.first_wrong.Given as goal

abbrev pub invariant-loop-v : goal.invariant-loop-v
invariant-loop-v l = AllWithin l.near (interval_of l.least l.most) l.self.masks.now l.initial.counts l.from l.v × ClearedTo l.initial.counts l.v l.counts
