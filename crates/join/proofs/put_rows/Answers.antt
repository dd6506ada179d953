-- `put_rows` puts row after row.
use Rattle.writer.proofs.TableRows.{next_put}
use Rattle.join.specs.Inner.{width_of}
use Rattle.join.proofs.TableMoved.{row_in, all_wide, row_put}
use Rattle.join.proofs.put_rows.Goals as goal

pub loop-i-preserved : goal.loop-i-preserved
loop-i-preserved c =
    let l = c.loop-i in
    let m = c.args.m in
    let t = c.args.table.now in
    next_put (width_of m) (row_in m t) c.args.n (all_wide m c.args.n t c.requires.0) c.args.out.now c.args.at l.out _ l.i l.auto.i-end l.invariant (row_put m c.args.n t c.requires.0 c.width_of-width.ensures l.i l.out _ c.args.at c.put_row.ensures)
