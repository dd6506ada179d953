-- `graph_head` reads a head of the graph.
use Rattle.parts.proofs.Laws.{graph_good}
use Rattle.parts.proofs.pair.Pair.graph_head.Goals as goal

pub head-requires : goal.head-requires
head-requires c = (graph_good c.args.self.now, c.requires)
