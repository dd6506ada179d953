-- Two graphs joined (02, Ask 7: "the second's nodes after the first's, its edges likewise, ends renumbered, ..").
use Rattle.std.specs.Prelude.{◌≡◌, [], ◌++◌, map, ℕ, ◌+◌, ◌<◌, length}
use Rattle.meaning.specs.Places.{Every}
use Rattle.meaning.specs.Model.{Graph, Edge, Schema, edge_at}
use Rattle.meaning.specs.Violations.{Violation, node, edge, number, Violates}
use Rattle.meaning.specs.Answer.{Answer, Told}

-- an edge of the second graph: n nodes stand before its ends
abbrev pub moved : ℕ → Edge → Edge
moved n e = record { object = e.object; source = n + e.source; target = n + e.target }

abbrev pub joined : Graph → Graph → Graph
joined G H = record { nodes = G.nodes ++ H.nodes; edges = G.edges ++ map (moved (length G.nodes)) H.edges }

-- no nodes and no edges
abbrev pub empty_graph : Graph
empty_graph = record { nodes = []; edges = [] }

-- every edge's ends are nodes, as in each accepted file's graph
abbrev pub Ended : Graph → Type 0
Ended G = Every (length G.edges) (λ e. ((edge_at G e).source < length G.nodes) × ((edge_at G e).target < length G.nodes))

-- where a violation of the second graph stands in the joined one: the same rule, the same schema edge and number, the object behind the first's
abbrev pub moved_on : Graph → Violation → Violation
moved_on G (node i) = node (length G.nodes + i)
moved_on G (edge e) = edge (length G.edges + e)
moved_on G (number w s v n) = number w s (length G.nodes + v) n

-- a violation of the first graph, or one of the second with its place moved
pub data OfBoth (G H : Graph) (S : Schema) (v : Violation) : Type 0 where
  of_first : Violates G S v → OfBoth G H S v
  of_second : (u : Violation) → v ≡ moved_on G u → Violates H S u → OfBoth G H S v

-- ---- what is told of it

-- how many objects a graph has of the sort that a violation names: nodes in rules 1, 3 and 4, edges in rule 2. So many of the first's stand before the second's.
abbrev pub before : Graph → Violation → ℕ
before G (node i) = length G.nodes
before G (edge e) = length G.edges
before G (number w s v n) = length G.nodes

-- the same code, schema place, count and property; the place behind n others
abbrev pub told_on : ℕ → Answer → Answer
told_on n a = record { code = a.code; place = n + a.place; schema_place = a.schema_place; count = a.count; property = a.property }

-- what is told of a violation of the first graph, or of one of the second with its place moved
pub data ToldOfBoth (G H : Graph) (S : Schema) (b : Answer) : Type 0 where
  told_of_first : (v : Violation) → Violates G S v → Told G S v b → ToldOfBoth G H S b
  told_of_second : (u : Violation) (a : Answer) → b ≡ told_on (before G u) a → Violates H S u → Told H S u a → ToldOfBoth G H S b
