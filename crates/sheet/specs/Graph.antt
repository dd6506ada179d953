-- The graph of an angle sheet (02, Ask 4): "the graph with nodes Sensor, Run, then the angles in line order, edges OF, then one AT for each angle, numbers
-- as in 01's bench examples".
use Rattle.std.specs.Prelude.{[], ◌∷◌, map, ℕ, ◌+◌, length}
use Rattle.meaning.specs.Model.{integer, real, date, text, Node, Edge, Graph}
use Rattle.meaning.specs.Bench as bench
use Rattle.layout.specs.Tables.{rows}
use Rattle.lines.specs.declared.Angle.{Angle}
use Rattle.lines.specs.Sheet.{Reading}

-- "Names: 0 serial, 1 date, 2 remark, 3 degrees, 4 coefficient"; "no remark is made"
abbrev pub sensor : Reading → Node
sensor r = bench.node_of bench.Sensor (bench.property 0 (text r.serial) ∷ [])

abbrev pub run : Reading → Node
run r = bench.node_of bench.Run (bench.property 1 (date r.date) ∷ [])

abbrev pub angle : Angle → Node
angle a = bench.node_of bench.Angle (bench.property 3 (integer a.degrees) ∷ bench.property 4 (real a.coefficient) ∷ [])

-- "edges OF, then one AT for each angle": from the Run, node 1, to the Sensor, node 0, and to each angle, from node 2 on
abbrev pub at : ℕ → Edge
at i = bench.bare bench.AT 1 (2 + i)

abbrev pub sheet_graph : Reading → Graph
sheet_graph r =
    record {
      nodes = sensor r ∷ run r ∷ map angle r.angles;
      edges = bench.bare bench.OF 1 0 ∷ rows (length r.angles) at;
    }
