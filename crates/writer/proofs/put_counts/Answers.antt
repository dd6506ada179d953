-- `put_counts` writes the four counts, one after the other.
use Rattle.writer.proofs.Laws.{put_counts}
use Rattle.writer.proofs.put_counts.Goals as goal

pub returns : goal.returns
returns c = put_counts c.args.n c.args.at c.args.out.now _ _ _ _ c.put_u32.ensures c.put_u32-2.ensures c.put_u32-3.ensures c.put_u32-4.ensures
