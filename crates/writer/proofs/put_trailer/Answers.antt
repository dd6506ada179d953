-- `put_trailer` writes the counts and what stands behind them.
use Rattle.writer.proofs.Laws.{put_trailer}
use Rattle.writer.proofs.put_trailer.Goals as goal

pub returns : goal.returns
returns c = put_trailer c.args.n c.args.at c.args.out.now _ _ _ _ _ c.put_counts.ensures c.put_u16.ensures c.put_u16-2.ensures c.put_u32.ensures c.put_u32-2.ensures
