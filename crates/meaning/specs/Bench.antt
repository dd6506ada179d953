-- The lamp bench examples P1 to P12 as one table: a graph, a schema and the answer owed (01, "The lamp bench examples").
use Rattle.std.specs.Prelude.{true, false, List, [], ◌∷◌, ℕ, pos}
use Rattle.std.specs.Float.{fin}
use Rattle.meaning.specs.Model.{Value, integer, real, date, text, Property, Node, Edge, Graph, Listed, Shape, up_to, Interval, SchemaNode, SchemaEdge, Schema, any_number}
use Rattle.meaning.specs.Answer.{Answer, answer, IsAnswer}

-- ---- how examples are written down

abbrev pub property : ℕ → Value → Property
property n v = record { name = n; value = v }

abbrev pub node_of : ℕ → List Property → Node
node_of l ps = record { object = record { labels = l; properties = ps } }

abbrev pub edge_of : ℕ → List Property → ℕ → ℕ → Edge
edge_of l ps a b = record { object = record { labels = l; properties = ps }; source = a; target = b }

abbrev pub graph : List Node → List Edge → Graph
graph ns es = record { nodes = ns; edges = es }

abbrev pub mandatory : ℕ → ℕ → Listed
mandatory n t = record { name = n; type = t; optional = false }

abbrev pub optional : ℕ → ℕ → Listed
optional n t = record { name = n; type = t; optional = true }

-- "all closed"
abbrev pub closed : ℕ → List Listed → Shape
closed l ps = record { labels = l; listed = ps; open? = false }

abbrev pub schema_node : ℕ → List Listed → SchemaNode
schema_node l ps = record { shape = closed l ps }

abbrev pub schema_edge : ℕ → List Listed → ℕ → ℕ → Interval → Interval → SchemaEdge
schema_edge l ps a b i j = record { shape = closed l ps; source = a; target = b; sources = i; targets = j }

abbrev pub from_to : ℕ → ℕ → Interval
from_to a b = record { minimum = a; maximum = up_to b }

-- ---- "Labels: 0 Sensor, 1 Run, 2 Angle, 3 OF, 4 AT." As label sets of one label:

abbrev pub Sensor : ℕ
Sensor = 1

abbrev pub Run : ℕ
Run = 2

abbrev pub Angle : ℕ
Angle = 4

abbrev pub OF : ℕ
OF = 8

abbrev pub AT : ℕ
AT = 16

-- ---- "Names: 0 serial, 1 date, 2 remark, 3 degrees, 4 coefficient", with values that stand for any of their kind

abbrev pub serial : Property
serial = property 0 (text (65 ∷ []))

abbrev pub dated : Property
dated = property 1 (date 20260101)

abbrev pub remark : Property
remark = property 2 (text [])

abbrev pub degrees : Property
degrees = property 3 (integer (pos 10))

abbrev pub coefficient : Property
coefficient = property 4 (real (fin false 1 (pos 0)))

-- "Schema S, all closed: node 0 {Sensor} serial Text; node 1 {Run} date Date, remark Text optional; node 2 {Angle} degrees Integer, coefficient Real.
-- Edge 0 {OF} Run to Sensor, source 0 to any, target 1 to 1. Edge 1 {AT} Run to Angle, source 1 to 1, target 2 to 3."
abbrev pub S : Schema
S =
    record {
      nodes =
          schema_node Sensor (mandatory 0 5 ∷ [])
          ∷ schema_node Run (mandatory 1 4 ∷ optional 2 5 ∷ [])
          ∷ schema_node Angle (mandatory 3 2 ∷ mandatory 4 3 ∷ []) ∷ [];
      edges = schema_edge OF [] 1 0 any_number (from_to 1 1) ∷ schema_edge AT [] 1 2 (from_to 1 1) (from_to 2 3) ∷ [];
    }

abbrev pub sensor : Node
sensor = node_of Sensor (serial ∷ [])

abbrev pub run : Node
run = node_of Run (dated ∷ [])

abbrev pub angle : Node
angle = node_of Angle (degrees ∷ coefficient ∷ [])

-- an edge without properties
abbrev pub bare : ℕ → ℕ → ℕ → Edge
bare l a b = edge_of l [] a b

-- "Graph G: nodes Sensor, Run, Angle, Angle with the mandatory properties; edges 1 to 0 OF, 1 to 2 AT, 1 to 3 AT."
abbrev pub edges_of_g : List Edge
edges_of_g = bare OF 1 0 ∷ bare AT 1 2 ∷ bare AT 1 3 ∷ []

abbrev pub G : Graph
G = graph (sensor ∷ run ∷ angle ∷ angle ∷ []) edges_of_g

-- G with another node 3; G with other edges
abbrev pub with_node3 : Node → Graph
with_node3 n = graph (sensor ∷ run ∷ angle ∷ n ∷ []) edges_of_g

abbrev pub with_edges : List Edge → Graph
with_edges es = graph (sensor ∷ run ∷ angle ∷ angle ∷ []) es

-- ---- the table

pub record Case : Type 0 where
  pub graph : Graph
  pub schema : Schema
  pub answer : Answer

abbrev pub case : Graph → Schema → ℕ → ℕ → ℕ → ℕ → ℕ → Case
case g s c p q n x = record { graph = g; schema = s; answer = answer c p q n x }

abbrev pub table : List Case
table =
    -- P1 G. P2 the empty graph.
    case G S 0 0 0 0 0
    ∷ case (graph [] []) S 0 0 0 0 0
    -- P3 node 2 labelled Sensor and Angle
    ∷ case (graph (sensor ∷ run ∷ node_of 5 (degrees ∷ coefficient ∷ []) ∷ angle ∷ []) edges_of_g) S 21 2 0 0 0
    -- P4 node 3 without coefficient. P5 node 3 with a remark too. P6 its coefficient an Integer.
    ∷ case (with_node3 (node_of Angle (degrees ∷ []))) S 22 3 2 1 4
    ∷ case (with_node3 (node_of Angle (remark ∷ degrees ∷ coefficient ∷ []))) S 22 3 2 2 2
    ∷ case (with_node3 (node_of Angle (degrees ∷ property 4 (integer (pos 1)) ∷ []))) S 22 3 2 3 4
    -- P7 edge 1 turned round. P8 edge 1 ends at node 0.
    ∷ case (with_edges (bare OF 1 0 ∷ bare AT 2 1 ∷ bare AT 1 3 ∷ [])) S 25 1 1 1 0
    ∷ case (with_edges (bare OF 1 0 ∷ bare AT 1 0 ∷ bare AT 1 3 ∷ [])) S 25 1 1 2 0
    -- P9 edge 2 left out: before node 3's rule 4. P10 a second OF from 1 to 0.
    ∷ case (with_edges (bare OF 1 0 ∷ bare AT 1 2 ∷ [])) S 31 1 1 1 0
    ∷ case (with_edges (bare OF 1 0 ∷ bare AT 1 2 ∷ bare AT 1 3 ∷ bare OF 1 0 ∷ [])) S 32 1 0 2 0
    -- P11 a fifth node, an Angle, without edges. P12 a second AT from 1 to 3.
    ∷ case (graph (sensor ∷ run ∷ angle ∷ angle ∷ angle ∷ []) edges_of_g) S 33 4 1 0 0
    ∷ case (with_edges (bare OF 1 0 ∷ bare AT 1 2 ∷ bare AT 1 3 ∷ bare AT 1 3 ∷ [])) S 34 3 1 2 0 ∷ []

-- each graph has the answer that stands beside it, by the rules themselves
abbrev pub Hold : List Case → Type 0
Hold [] = Unit {0}
Hold (c ∷ cs) = IsAnswer c.graph c.schema c.answer × Hold cs
