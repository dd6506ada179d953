-- `read_sheet`: the first line is bad, or it is the others' turn.
use mathlib.Core.Path.{refl}
use Rattle.sheet.specs.Reads.{refused}
use Rattle.sheet.proofs.Progress.{bad_first}
use Rattle.sheet.proofs.read_sheet.Goals as goal

pub returns-in_default : goal.returns-in_default
returns-in_default c = refused (bad_first c.args.sheet.now (rw c.in_default.is at c.first_line.ensures)) refl refl
