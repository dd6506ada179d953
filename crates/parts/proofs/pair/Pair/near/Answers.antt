-- `near` reads an end of an edge.
use native.Mathlib.Omega.{arith}
use Rattle.parts.proofs.Laws.{graph_good}
use Rattle.parts.proofs.pair.Pair.near.Goals as goal

pub by_way-requires : goal.by_way-requires
by_way-requires c = (graph_good c.args.self.now, c.requires, omega arith, omega arith)
