-- `put_edges` puts the second's table where the first's ended.
use native.Mathlib.Omega.{arith}
use Rattle.join.proofs.Rooms.{first_sound, second_good}
use Rattle.join.proofs.TablesReady.{second_few, first_edges_ready, second_edges_ready, edges_put}
use Rattle.join.proofs.put_edges.Goals as goal

pub node_rows-nodes-requires : goal.node_rows-nodes-requires
node_rows-nodes-requires c = second_good c.args.g.now

pub overflow_cast-nodes : goal.overflow_cast-nodes
overflow_cast-nodes c = omega (arith, second_few c.args.g.now c.node_rows-nodes.ensures)

pub put_rows-requires : goal.put_rows-requires
put_rows-requires c = first_edges_ready c.args.g.now c.args.at c.args.out.now c.requires c.node_rows-nodes.ensures

pub overflow_cast-ends : goal.overflow_cast-ends
overflow_cast-ends c = omega (arith, (first_sound c.args.g.now).held.nodes)

pub overflow_cast-run : goal.overflow_cast-run
overflow_cast-run c = omega (arith, (first_sound c.args.g.now).held.rows)

pub put_rows-requires-2 : goal.put_rows-requires-2
put_rows-requires-2 c = second_edges_ready c.args.g.now c.args.at _ (omega (arith, c.requires))

pub returns : goal.returns
returns c = edges_put c.args.g.now c.args.at c.node_rows-nodes.ensures c.args.out.now _ _ c.put_rows.ensures c.put_rows-2.ensures
