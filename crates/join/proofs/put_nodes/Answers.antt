-- `put_nodes` puts the second's table behind the first's.
use native.Mathlib.Omega.{arith}
use Rattle.join.proofs.Rooms.{first_good}
use Rattle.join.proofs.TablesReady.{first_few, nodes_ready}
use Rattle.join.proofs.put_nodes.Goals as goal

pub node_rows-run-requires : goal.node_rows-run-requires
node_rows-run-requires c = first_good c.args.g.now

pub overflow_cast-run : goal.overflow_cast-run
overflow_cast-run c = omega (arith, first_few c.args.g.now c.node_rows-run.ensures)

pub put_behind-requires : goal.put_behind-requires
put_behind-requires c = nodes_ready c.args.g.now (first_few c.args.g.now c.node_rows-run.ensures) c.requires
