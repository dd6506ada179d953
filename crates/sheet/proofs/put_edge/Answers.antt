-- `put_edge` writes the five numbers of an edge row, one behind the other.
use Prim.Native.Nat.{◌*◌}
use Rattle.sheet.proofs.Puts.{put_edge_row}
use Rattle.sheet.proofs.put_edge.Goals as goal

pub returns : goal.returns
returns c =
    let a = c.args in
    put_edge_row a.edges.now _ _ _ (24 * a.i) _ _ a.labels 1 a.target a.first 0 c.put_u64.ensures c.put_u32.ensures c.put_u32-2.ensures c.put_u32-3.ensures c.put_u32-4.ensures
