-- `least` reads a minimum.
use native.Mathlib.Omega.{arith}
use Rattle.parts.proofs.Laws.{schema_good}
use Rattle.parts.proofs.pair.Pair.least.Goals as goal

pub by_way-requires : goal.by_way-requires
by_way-requires c = (schema_good c.args.self.now, c.requires, omega arith, omega arith)
