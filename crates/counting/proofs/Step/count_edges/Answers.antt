-- `count_edges` looks through the edges stretch by stretch, and through the rest.
use native.Mathlib.Omega.{arith}
use Rattle.layout.proofs.Accepted.{graph_edges}
use Rattle.fitting.proofs.Laws.{sound}
use Rattle.counting.proofs.Count.{none_looked_at, all_looked_at}
use Rattle.counting.proofs.Step.count_edges.Goals as goal

pub loop-i-init : goal.loop-i-init
loop-i-init c = none_looked_at _ _ _ _ c.requires.1

pub overflow_mul-e : goal.overflow_mul-e
overflow_mul-e c = omega (arith, (sound c.args.self.p.now).edges)

pub overflow_add-e : goal.overflow_add-e
overflow_add-e c = omega (arith, (sound c.args.self.p.now).edges)

pub overflow_mul-whole : goal.overflow_mul-whole
overflow_mul-whole c = omega (arith, (sound c.args.self.p.now).edges)

pub returns : goal.returns
returns c = all_looked_at _ _ _ _ (rw graph_edges c.look_through-2.ensures)
