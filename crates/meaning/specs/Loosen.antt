-- Demand 3: "Loosening keeps released runs good" (document 00, and 01, "Traps on the bench").
use Rattle.std.specs.Prelude.{◌≡◌, [], ◌∷◌, ◌++◌, ℕ, ◌≤◌, ◌<◌, length, set}
use Rattle.meaning.specs.Places.{Every}
use Rattle.meaning.specs.Model.{Graph, Schema, SchemaNode, SchemaEdge, Shape, Interval, Maximum, up_to, any, any_number, edge_at, schema_edge_at}
use Rattle.meaning.specs.Rules.{NodeFits, Placed, Right}
use Rattle.meaning.specs.Violations.{Violation, node, edge, number, Violates}

-- "a minimum lowered, a maximum raised"
pub data Widened : Interval → Interval → Type 0 where
  lowered : {a b : ℕ} {m : Maximum} → b ≤ a → Widened (record { minimum = a; maximum = m }) (record { minimum = b; maximum = m })
  raised : {a m k : ℕ} → m ≤ k → Widened (record { minimum = a; maximum = up_to m }) (record { minimum = a; maximum = up_to k })
  raised_to_any : {a : ℕ} {m : Maximum} → Widened (record { minimum = a; maximum = m }) (record { minimum = a; maximum = any })

abbrev pub edge_of : Shape → ℕ → ℕ → Interval → Interval → SchemaEdge
edge_of h a b i j = record { shape = h; source = a; target = b; sources = i; targets = j }

-- the schema with another schema edge at place s
abbrev pub with_edge : Schema → ℕ → SchemaEdge → Schema
with_edge S s e = record { nodes = S.nodes; edges = set S.edges s e }

-- One step. "Its steps are on values: an added row brings its own properties, .."
pub data Step (S : Schema) : Schema → Type 0 where
  source_interval :
      (s : ℕ) {h : Shape} {a b : ℕ} {i k j : Interval} → s < length S.edges → schema_edge_at S s ≡ edge_of h a b i j → Widened i k
      → Step S (with_edge S s (edge_of h a b k j))
  target_interval :
      (s : ℕ) {h : Shape} {a b : ℕ} {i j k : Interval} → s < length S.edges → schema_edge_at S s ≡ edge_of h a b i j → Widened j k
      → Step S (with_edge S s (edge_of h a b i k))
  -- "a schema node added at the end"
  node_added : (n : SchemaNode) → Step S (record { nodes = S.nodes ++ (n ∷ []); edges = S.edges })
  -- "a schema edge added at the end with both intervals 0 to any"
  edge_added : (h : Shape) (a b : ℕ) → Step S (record { nodes = S.nodes; edges = S.edges ++ (edge_of h a b any_number any_number ∷ []) })

-- "any number of these steps". A schema between two steps need not be one that would be accepted.
pub data Steps (S : Schema) : Schema → Type 0 where
  done : Steps S S
  and_then : {T U : Schema} → Steps S T → Step T U → Steps S U

-- every schema edge's ends are schema nodes, as in each accepted schema
abbrev pub Closed : Schema → Type 0
Closed S = Every (length S.edges) (λ s. ((schema_edge_at S s).source < length S.nodes) × ((schema_edge_at S s).target < length S.nodes))

module _ (G : Graph) (S T : Schema) where
  -- "None is lost except by a number that its new interval holds, or by an object that now fits an added schema object, an edge with its ends."
  abbrev pub Excused : Violation → Type 0
  Excused (node i) = (j : ℕ) × (length S.nodes ≤ j) × (j < length T.nodes) × NodeFits G.nodes T.nodes i j
  Excused (edge e) = (s : ℕ) × (length S.edges ≤ s) × (s < length T.edges) × Placed G.nodes T.nodes (edge_at G e) (schema_edge_at T s)
  Excused (number w s v n) = Right G T w s n

  -- "Each violation under the second is one under the first: same rule, same object and, for counts, same schema edge and same number."
  pub record Looser : Type 0 where
    pub none_new : (v : Violation) → Violates G T v → Violates G S v
    pub none_lost : (v : Violation) → Violates G S v → ¬ Violates G T v → Excused v
