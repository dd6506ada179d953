-- `join_graphs` tells what `write_joined` returns.
use Rattle.join.proofs.join_graphs.Goals as goal

pub returns-in-Err : goal.returns-in-Err
returns-in-Err c = rw c.told.ensures c.in-Err.ensures
