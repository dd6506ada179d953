-- `judge` tries whole rows, then the counts, then the rows.
use Rattle.writer.proofs.LentTables.{bad_row, good_tables}
use Rattle.writer.proofs.judge.Goals as goal

pub returns-in-Ok : goal.returns-in-Ok
returns-in-Ok c = good_tables c.if-not-whole.ensures c.ceilings_of-most.ensures c.numbers_of-n.ensures c.if-not-held.ensures c.in-Ok.ensures

pub returns-in-Err : goal.returns-in-Err
returns-in-Err c = bad_row c.if-not-whole.ensures c.ceilings_of-most.ensures c.numbers_of-n.ensures c.if-not-held.ensures c.in-Err.ensures
