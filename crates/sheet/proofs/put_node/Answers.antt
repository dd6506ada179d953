-- `put_node` writes the three numbers of a node row, one behind the other.
use Prim.Native.Nat.{◌*◌}
use Rattle.sheet.proofs.Puts.{put_node_row}
use Rattle.sheet.proofs.put_node.Goals as goal

pub returns : goal.returns
returns c =
    let a = c.args in
    put_node_row a.nodes.now _ _ _ (16 * a.i) a.labels a.first a.count c.put_u64.ensures c.put_u32.ensures c.put_u32-2.ensures
