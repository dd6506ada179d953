-- `trailer_size` gives the size of each file's trailer.
use mathlib.Core.Path.{refl}
use native.Mathlib.Omega.{arith}
use Rattle.formats.proofs.trailer_size.Goals as goal

pub returns-in-Graph : goal.returns-in-Graph
returns-in-Graph c = (rw c.in-Graph.is refl, omega arith, omega arith)

pub returns-in-Schema : goal.returns-in-Schema
returns-in-Schema c = (rw c.in-Schema.is refl, omega arith, omega arith)
