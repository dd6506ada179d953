-- `put_property` writes the numbers of a property row, one behind the other.
use Prim.Native.Nat.{◌*◌}
use Rattle.sheet.proofs.Puts.{put_property_row}
use Rattle.sheet.proofs.put_property.Goals as goal

pub returns : goal.returns
returns c =
    let a = c.args in
    put_property_row a.rows.now _ _ _ (16 * a.r) _ a.name a.kind a.size a.value c.requires.1 c.put_u16.ensures c.put_u16-2.ensures c.put_u32.ensures c.put_u64.ensures
