-- `part`: digits that fill their place.
use Rattle.lines.proofs.Dates.{told_part}
use Rattle.lines.proofs.part.Goals as goal

pub returns : goal.returns
returns c = rw c.then_some.ensures (told_part c.digits-number.ensures)
