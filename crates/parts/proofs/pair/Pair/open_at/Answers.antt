-- `open_at` reads whether a type is open.
use Rattle.parts.proofs.Laws.{schema_good}
use Rattle.parts.proofs.pair.Pair.open_at.Goals as goal

pub open_at-requires : goal.open_at-requires
open_at-requires c = (schema_good c.args.self.now, c.requires)
