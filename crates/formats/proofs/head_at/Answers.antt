-- `head_at` reads the label set and the run of a row.
use Rattle.formats.proofs.head_at.Goals as goal

pub returns : goal.returns
returns c = cc (c.u64_at.ensures, c.u32_at.ensures, c.count_at.ensures)
