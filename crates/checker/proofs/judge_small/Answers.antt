-- `judge_small`: a longer graph is refused for its length, and any other is owed what `judge` answers.
use native.Mathlib.Omega.{arith}
use Rattle.layout.specs.declared.File.TheVariants.{Graph, Schema}
use Rattle.layout.specs.Files.{ceilings}
use Rattle.layout.proofs.Shorter.{too_long, within}
use Rattle.checker.proofs.judge_small.Goals as goal

pub returns-then-graph-gt40000 : goal.returns-then-graph-gt40000
returns-then-graph-gt40000 c = rw c.refused.ensures (too_long 40000 (ceilings Graph) (ceilings Schema) _ _ (omega arith))

pub returns : goal.returns
returns c = within 40000 (ceilings Graph) (ceilings Schema) _ _ (omega arith) (omega arith) c.judge.ensures
