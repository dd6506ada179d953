-- The traps that the bench examples do not catch, as examples (01, "Traps on the bench").
use Rattle.std.specs.Prelude.{true, List, [], ◌∷◌, ℕ, set}
use Rattle.meaning.specs.Model.{Schema, Graph, any_number, listed_at, schema_node_in}
use Rattle.meaning.specs.Rules.{Conforms}
use Rattle.meaning.specs.Bench.{graph, mandatory, optional, schema_node, schema_edge, from_to, Sensor, Run, Angle, OF, AT, dated, remark, degrees, sensor, run, angle, node_of, edge_of, bare, S, with_edges, Case, case}

-- ---- "Counting by label alone. An edge with a misfit end, or a misfit record, isn't counted in rules 3 and 4."

-- Two schema edges of equal labels: one for AT edges with degrees, exactly one a Run; one for AT edges without.
abbrev pub two_records : Schema
two_records =
    record {
      nodes = schema_node Run (mandatory 1 4 ∷ []) ∷ schema_node Angle (mandatory 3 2 ∷ mandatory 4 3 ∷ []) ∷ [];
      edges = schema_edge AT (mandatory 3 2 ∷ []) 0 1 any_number (from_to 1 1) ∷ schema_edge AT [] 0 1 any_number any_number ∷ [];
    }

-- Two schema edges of equal labels: one ends at a Sensor, at most one a Run; one at an Angle.
abbrev pub two_ends : Schema
two_ends =
    record {
      nodes =
          schema_node Run (mandatory 1 4 ∷ [])
          ∷ schema_node Sensor (mandatory 0 5 ∷ [])
          ∷ schema_node Angle (mandatory 3 2 ∷ mandatory 4 3 ∷ []) ∷ [];
      edges = schema_edge AT [] 0 1 any_number (from_to 0 1) ∷ schema_edge AT [] 0 2 any_number any_number ∷ [];
    }

-- Runs that stand in an AT edge with themselves, exactly one each.
abbrev pub loops : Schema
loops = record { nodes = schema_node Run (mandatory 1 4 ∷ []) ∷ []; edges = schema_edge AT [] 0 0 (from_to 1 1) (from_to 1 1) ∷ [] }

-- Runs with a date owe one AT edge; Runs with or without a date owe one OF edge. A dated Run fits both schema nodes.
abbrev pub several : Schema
several =
    record {
      nodes = schema_node Run (mandatory 1 4 ∷ []) ∷ schema_node Run (optional 1 4 ∷ []) ∷ [];
      edges = schema_edge AT [] 0 0 any_number (from_to 1 1) ∷ schema_edge OF [] 1 1 any_number (from_to 1 1) ∷ [];
    }

abbrev pub traps : List Case
traps =
    -- the second AT has no degrees, and isn't counted at schema edge 0
    case (graph (run ∷ angle ∷ []) (edge_of AT (degrees ∷ []) 0 1 ∷ bare AT 0 1 ∷ [])) two_records 0 0 0 0 0
    -- the two that end at an Angle aren't counted at schema edge 0
    ∷ case (graph (run ∷ sensor ∷ angle ∷ []) (bare AT 0 1 ∷ bare AT 0 2 ∷ bare AT 0 2 ∷ [])) two_ends 0 0 0 0 0
    -- "A loop counts once out and once in."
    ∷ case (graph (run ∷ []) (bare AT 0 0 ∷ [])) loops 0 0 0 0 0
    ∷ case (graph (run ∷ []) (bare AT 0 0 ∷ bare AT 0 0 ∷ [])) loops 32 0 0 2 0
    ∷ case (graph (run ∷ []) []) loops 31 0 0 0 0
    -- "A node may fit several schema nodes and then meets the rules of all."
    ∷ case (graph (run ∷ []) (bare AT 0 0 ∷ bare OF 0 0 ∷ [])) several 0 0 0 0 0
    ∷ case (graph (run ∷ []) (bare AT 0 0 ∷ [])) several 31 0 1 0 0
    ∷ case (graph (run ∷ []) (bare OF 0 0 ∷ [])) several 31 0 0 0 0
    ∷ case (graph (node_of Run [] ∷ []) (bare OF 0 0 ∷ [])) several 0 0 0 0 0
    -- 01 has no example of code 24, and one of 23 to be run: an edge with a property that is not listed, an edge with a label too many
    ∷ case (with_edges (bare OF 1 0 ∷ edge_of AT (remark ∷ []) 1 2 ∷ bare AT 1 3 ∷ [])) S 24 1 1 2 2
    ∷ case (with_edges (bare 24 1 0 ∷ bare AT 1 2 ∷ bare AT 1 3 ∷ [])) S 23 0 0 0 0 ∷ []

-- ---- "Making a property optional as loosening. More nodes then fit, so more nodes owe a minimum. Opening a type does the same."

-- the schema with listed property k of schema node j made optional
abbrev pub made_optional : Schema → ℕ → ℕ → Schema
made_optional S j k =
    let s = (schema_node_in S.nodes j).shape in
    let l = listed_at s k in
    record {
      nodes =
          set S.nodes j
          (record { shape = record { labels = s.labels; listed = set s.listed k (record { name = l.name; type = l.type; optional = true }); open? = s.open? } });
      edges = S.edges;
    }

-- the schema with schema node j made open
abbrev pub opened : Schema → ℕ → Schema
opened S j =
    let s = (schema_node_in S.nodes j).shape in
    record { nodes = set S.nodes j (record { shape = record { labels = s.labels; listed = s.listed; open? = true } }); edges = S.edges }

-- Runs with a date alone owe an AT edge; other Runs owe none.
abbrev pub dated_runs_owe : Schema
dated_runs_owe =
    record {
      nodes =
          schema_node Run (mandatory 1 4 ∷ [])
          ∷ schema_node Run (optional 1 4 ∷ optional 2 5 ∷ [])
          ∷ schema_node Angle (mandatory 3 2 ∷ mandatory 4 3 ∷ []) ∷ [];
      edges = schema_edge AT [] 0 2 any_number (from_to 1 1) ∷ [];
    }

-- a graph that conforms before and not after
pub record Refuted (before after : Schema) (G : Graph) : Type 0 where
  pub conforms : Conforms G before
  pub conforms_no_more : ¬ Conforms G after

-- a Run without a date; a Run with a date and a remark
abbrev pub undated_run : Graph
undated_run = graph (node_of Run [] ∷ []) []

abbrev pub remarked_run : Graph
remarked_run = graph (node_of Run (dated ∷ remark ∷ []) ∷ []) []
