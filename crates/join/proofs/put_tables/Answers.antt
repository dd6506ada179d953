-- `put_tables` puts each table where the one before it ended.
use native.Mathlib.Omega.{arith}
use Rattle.join.proofs.TablesReady.{edges_fit, properties_fit, text_fits, all_put}
use Rattle.join.proofs.put_tables.Goals as goal

pub put_edges-requires : goal.put_edges-requires
put_edges-requires c = omega (arith, edges_fit c.args.g.now c.args.out.now c.requires)

pub put_properties-requires : goal.put_properties-requires
put_properties-requires c = omega (arith, properties_fit c.args.g.now c.args.out.now c.requires, c.put_nodes.auto.out, c.put_edges.auto.out)

pub put_texts-requires : goal.put_texts-requires
put_texts-requires c = omega (arith, text_fits c.args.g.now c.args.out.now c.requires, c.put_nodes.auto.out, c.put_edges.auto.out, c.put_properties.auto.out)

pub returns : goal.returns
returns c = all_put c.args.g.now c.args.out.now _ _ _ _ c.put_nodes.ensures c.put_edges.ensures c.put_properties.ensures c.put_texts.ensures
