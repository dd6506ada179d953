-- `look_through` counts, at each node, the edges looked at that are placed there.
use native.Mathlib.Omega.{arith}
use Rattle.layout.specs.Ways.{way_of}
use Rattle.fitting.proofs.Laws.{sound}
use Rattle.counting.proofs.Laws.{edge_counts, edge_counts_not, near_small, passed_most}
use Rattle.counting.proofs.Step.look_through.Goals as goal
use Rattle.counting.proofs.Step.look_through.Goals.{then-placed_at, else-placed_at}

pub bounds-counts-near : goal.bounds-counts-near
bounds-counts-near c = near_small (sound c.args.self.p.now) (way_of c.args.self.way) (omega arith) c.near-near.ensures

pub bounds-counts-near-then-placed_at : goal.bounds-counts-near-then-placed_at
bounds-counts-near-then-placed_at c = near_small (sound c.args.self.p.now) (way_of c.args.self.way) (omega arith) c.near-near.ensures

pub overflow_add-counts : goal.overflow_add-counts
overflow_add-counts c =
    let r = sound c.args.self.p.now in
    let w = way_of c.args.self.way in
    omega (arith, passed_most r w c.args.self.edge c.loop-e.e (omega arith) c.loop-e.invariant c.near-near.result (near_small r w (omega arith) c.near-near.ensures), r.edges)

pub loop-e-preserved : goal.loop-e-preserved
loop-e-preserved c =
    let r = sound c.args.self.p.now in
    let w = way_of c.args.self.way in
    let s = c.args.self.edge in
    let h = c.loop-e-test.true in
    elim c.if-placed_at.branch [
      | then-placed_at x ↦ rw x.counts-is
          (edge_counts r w s c.loop-e.e (omega arith) c.loop-e.invariant x.near-near.result x.near-near.ensures (rw x.if-placed_at.true at c.placed_at.ensures))
      | else-placed_at x ↦ rw x.counts-is (edge_counts_not r w s c.loop-e.e (omega arith) c.loop-e.invariant (rw x.if-placed_at.false at c.placed_at.ensures))
    ]
