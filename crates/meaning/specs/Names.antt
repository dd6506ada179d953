-- Which property is told, as examples (02, Ask 2: "the lowest missing mandatory, unlisted or wrongly typed name, by the letter that is answered now").
use Rattle.std.specs.Prelude.{List, [], ◌∷◌, pos, false}
use Rattle.std.specs.Float.{fin}
use Rattle.meaning.specs.Model.{Property, Schema, integer, real, any_number}
use Rattle.meaning.specs.Bench.{property, node_of, edge_of, graph, mandatory, optional, schema_node, schema_edge, Sensor, Run, Angle, AT, serial, remark, degrees, coefficient, run, angle, bare, S, with_node3, Case, case}
use Rattle.meaning.specs.Traps.{opened}

-- a Run's date is optional, its remark mandatory
abbrev pub optional_date : Schema
optional_date = record { nodes = schema_node Run (optional 1 4 ∷ mandatory 2 5 ∷ []) ∷ []; edges = [] }

-- AT edges have degrees and a coefficient of their own
abbrev pub measuring_edges : Schema
measuring_edges =
    record {
      nodes = schema_node Run (mandatory 1 4 ∷ []) ∷ schema_node Angle (mandatory 3 2 ∷ mandatory 4 3 ∷ []) ∷ [];
      edges = schema_edge AT (mandatory 3 2 ∷ mandatory 4 3 ∷ []) 0 1 any_number any_number ∷ [];
    }

-- degrees as a Real, a coefficient as an Integer
abbrev pub real_degrees : Property
real_degrees = property 3 (real (fin false 1 (pos 0)))

abbrev pub whole_coefficient : Property
whole_coefficient = property 4 (integer (pos 1))

abbrev pub named : List Case
named =
    -- (b) degrees and coefficient are missing
    case (with_node3 (node_of Angle [])) S 22 3 2 1 3
    -- the coefficient is missing, and a lower name, the remark, is unlisted: (b) is answered
    ∷ case (with_node3 (node_of Angle (remark ∷ degrees ∷ []))) S 22 3 2 1 4
    -- the date, a lower name, is not there either, but optional
    ∷ case (graph (node_of Run [] ∷ []) []) optional_date 22 0 0 1 2
    -- (c) serial and remark are unlisted: the name is 0
    ∷ case (with_node3 (node_of Angle (serial ∷ remark ∷ degrees ∷ coefficient ∷ []))) S 22 3 2 2 0
    -- the remark is unlisted, and a lower name, the serial, is wrongly typed: (c) is answered
    ∷ case (graph (node_of Sensor (property 0 (integer (pos 1)) ∷ remark ∷ []) ∷ []) []) S 22 0 0 2 2
    -- (d) degrees and coefficient are wrongly typed
    ∷ case (with_node3 (node_of Angle (real_degrees ∷ whole_coefficient ∷ []))) S 22 3 2 3 3
    -- in an open type the remark is no fault
    ∷ case (with_node3 (node_of Angle (remark ∷ degrees ∷ whole_coefficient ∷ []))) (opened S 2) 22 3 2 3 4
    -- the same of edges: (b), (c), (d)
    ∷ case (graph (run ∷ angle ∷ []) (bare AT 0 1 ∷ [])) measuring_edges 24 0 0 1 3
    ∷ case (graph (run ∷ angle ∷ []) (edge_of AT (serial ∷ remark ∷ degrees ∷ coefficient ∷ []) 0 1 ∷ [])) measuring_edges 24 0 0 2 0
    ∷ case (graph (run ∷ angle ∷ []) (edge_of AT (real_degrees ∷ whole_coefficient ∷ []) 0 1 ∷ [])) measuring_edges 24 0 0 3 3 ∷ []
