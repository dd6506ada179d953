-- `code` gives a graph file the first number, a schema file the second.
use mathlib.Core.Path.{refl}
use Rattle.formats.proofs.code.Goals as goal

pub returns-in-Graph : goal.returns-in-Graph
returns-in-Graph c = rw c.in-Graph.is refl

pub returns-in-Schema : goal.returns-in-Schema
returns-in-Schema c = rw c.in-Schema.is refl
