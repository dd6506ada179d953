-- `rule_numbers` finds the first wrong number from its start on: schema edge by schema edge, and there node by node. Each step finds the counters as
-- they have to be: at zero, or where it goes on behind a violation.
use native.Mathlib.Omega.{arith}
use Rattle.layout.specs.Ways.{way_of}
use Rattle.layout.proofs.Accepted.{graph_nodes, schema_edges}
use Rattle.layout.proofs.Search.{one_stored}
use Rattle.fitting.proofs.Laws.{sound}
use Rattle.counting.proofs.Laws.{found_small, passed_zero, zeros_at, zeros_left, none_here, first_here, none_left}
use Rattle.counting.proofs.rule_numbers.Goals as goal

pub bounds-counts-wrong : goal.bounds-counts-wrong
bounds-counts-wrong c = omega (arith, found_small (sound c.args.p.now) (way_of c.args.from.way) (rw c.in-Some.is at c.first_wrong-found.ensures))

pub bounds-counts-wrong-in-Some : goal.bounds-counts-wrong-in-Some
bounds-counts-wrong-in-Some c = omega (arith, found_small (sound c.args.p.now) (way_of c.args.from.way) (rw c.in-Some.is at c.first_wrong-found.ensures))

pub offset_bounds-counts-wrong : goal.offset_bounds-counts-wrong
offset_bounds-counts-wrong c = omega (arith, found_small (sound c.args.p.now) (way_of c.args.from.way) (rw c.in-Some.is at c.first_wrong-found.ensures))

pub offset_bounds-counts-wrong-in-Some : goal.offset_bounds-counts-wrong-in-Some
offset_bounds-counts-wrong-in-Some c = omega (arith, found_small (sound c.args.p.now) (way_of c.args.from.way) (rw c.in-Some.is at c.first_wrong-found.ensures))

pub overflow_cast-result : goal.overflow_cast-result
overflow_cast-result c = omega (arith, c.loop-s-test.true, (sound c.args.p.now).schema_edges)

pub overflow_cast-result-in-Some : goal.overflow_cast-result-in-Some
overflow_cast-result-in-Some c = omega (arith, found_small (sound c.args.p.now) (way_of c.args.from.way) (rw c.in-Some.is at c.first_wrong-found.ensures))

pub returns-in-Some : goal.returns-in-Some
returns-in-Some c =
    let f = rw c.in-Some.is at c.first_wrong-found.ensures in
    let few = (sound c.args.p.now).nodes in
    record {
      numbers = first_here _ _ _ c.loop-s.invariant.0 _ (rw graph_nodes few) f;
      counters = one_stored (found_small (sound c.args.p.now) (way_of c.args.from.way) f) f.table _ (omega arith);
    }

pub loop-s-preserved : goal.loop-s-preserved
loop-s-preserved c =
    let w = way_of c.args.from.way in
    let i = c.loop-s.invariant in
    let f = rw c.in_default.is at c.first_wrong-found.ensures in
    (none_here _ _ _ i.0 f, zeros_at _ _ w _ (passed_zero (sound c.args.p.now) w c.loop-s.s _ f.table), omega arith)

pub returns : goal.returns
returns c =
    let l = c.loop-s in
    record { numbers = none_left _ _ _ l.invariant.0 (rw schema_edges c.loop-s-test.false); counters = zeros_left _ _ _ _ (rw schema_edges c.loop-s-test.false) l.invariant.1 }
