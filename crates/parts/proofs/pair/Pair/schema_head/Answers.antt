-- `schema_head` reads a head of the schema.
use Rattle.parts.proofs.Laws.{schema_good}
use Rattle.parts.proofs.pair.Pair.schema_head.Goals as goal

pub head-requires : goal.head-requires
head-requires c = (schema_good c.args.self.now, c.requires)
