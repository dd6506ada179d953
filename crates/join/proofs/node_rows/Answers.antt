-- `node_rows` asks the first edge, if there is one.
use native.Mathlib.Omega.{arith}
use Rattle.join.proofs.Rooms.{sound_of, all_nodes, first_edge}
use Rattle.join.proofs.node_rows.Goals as goal

pub returns-then-x-eq0 : goal.returns-then-x-eq0
returns-then-x-eq0 c = all_nodes _ _ (sound_of c.requires) c.if-x-eq0.true

pub returns-else-x-eq0 : goal.returns-else-x-eq0
returns-else-x-eq0 c = first_edge _ _ (sound_of c.requires) (omega (arith, c.if-x-eq0.false)) c.head.ensures
