-- `put_behind` puts the table where the bytes ended.
use Rattle.writer.proofs.Laws.{then}
use Rattle.join.specs.Inner.{moved_table}
use Rattle.join.proofs.put_behind.Goals as goal

pub returns : goal.returns
returns c = then c.args.out.now _ _ c.args.at c.args.first.now (moved_table c.args.m c.args.n c.args.second.now) c.put_bytes.ensures c.put_rows.ensures
