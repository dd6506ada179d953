-- `open`: one of the files is refused, or both are accepted.
use Rattle.faults.proofs.Laws.{opens}
use Rattle.faults.proofs.open.Goals as goal

pub returns : goal.returns
returns c = rw c.start.ensures (opens c.read_files.ensures)
