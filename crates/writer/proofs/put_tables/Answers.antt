-- `put_tables` puts each table where the one before ended.
use Rattle.writer.proofs.Laws.{put_tables}
use Rattle.writer.proofs.put_tables.Goals as goal

pub returns : goal.returns
returns c =
    let t = c.args.t in
    put_tables t.nodes.now t.edges.now t.rows.now t.text.now c.args.out.now _ _ _ _ c.put_bytes.ensures c.put_bytes-2.ensures c.put_bytes-3.ensures c.put_bytes-4.ensures
