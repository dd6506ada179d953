-- `check_rows_small`: a longer graph is refused for its length, and of any other `check_rows` lists the violations.
use native.Mathlib.Omega.{arith}
use Rattle.layout.specs.declared.File.TheVariants.{Graph, Schema}
use Rattle.layout.specs.Files.{ceilings}
use Rattle.faults.specs.Lists.{row_of}
use Rattle.faults.proofs.Shorter.{too_long, within}
use Rattle.faults.proofs.check_rows_small.Goals as goal

pub returns-then-graph-gt40000 : goal.returns-then-graph-gt40000
returns-then-graph-gt40000 c = too_long row_of 40000 (ceilings Graph) (ceilings Schema) _ _ _ (omega arith)

pub returns : goal.returns
returns c = within row_of 40000 (ceilings Graph) (ceilings Schema) _ _ _ (omega arith) (omega arith) c.check_rows.ensures
