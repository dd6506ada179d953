-- `row_width` gives the width of each file's property rows.
use mathlib.Core.Path.{refl}
use native.Mathlib.Omega.{arith}
use Rattle.formats.proofs.row_width.Goals as goal

pub returns-in-Graph : goal.returns-in-Graph
returns-in-Graph c = (rw c.in-Graph.is refl, omega arith)

pub returns-in-Schema : goal.returns-in-Schema
returns-in-Schema c = (rw c.in-Schema.is refl, omega arith)
