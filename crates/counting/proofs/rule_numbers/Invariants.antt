-- `rule_numbers` finds the first wrong number from its start on: schema edge by schema edge, and there node by node. Each step finds the counters as
-- they have to be: at zero, or where it goes on behind a violation.
use Prim.Native.Nat.{◌≤◌}
use Rattle.layout.specs.Ways.{way_of}
use Rattle.parts.specs.Accepted.{graph_at, schema_at}
use Rattle.counting.specs.Numbers.{CountersAt}
use Rattle.counting.proofs.Laws.{Reached}
use Rattle.counting.proofs.rule_numbers.Given as goal

abbrev pub invariant-loop-s : goal.invariant-loop-s
invariant-loop-s l = let G = graph_at l.p.graph in
    let S = schema_at l.p.schema in
    Reached l.from G S l.s l.node × CountersAt G S (way_of l.from.way) l.s l.node l.counts × (l.node ≤ l.p.graph.numbers.nodes)
