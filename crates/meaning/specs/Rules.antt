-- The four rules (01, "The four rules").
use Rattle.std.specs.Prelude.{◌≡◌, List, ℕ, ◌≤◌, length}
use Rattle.meaning.specs.Places.{Every, Some}
use Rattle.meaning.specs.Counted.{Counted}
use Rattle.meaning.specs.Model.{Graph, Node, Edge, Schema, SchemaNode, SchemaEdge, Interval, Maximum, up_to, any, node_in, edge_at, schema_node_in, schema_edge_at}
use Rattle.meaning.specs.Fits.{Fits}

-- ---- a number within an interval

abbrev pub AtMost : ℕ → Maximum → Type 0
AtMost n (up_to m) = n ≤ m
AtMost n any = Unit {0}

pub record Within (n : ℕ) (i : Interval) : Type 0 where
  pub enough : i.minimum ≤ n
  pub not_too_many : AtMost n i.maximum

-- ---- Rules 3 and 4 are one rule, read along the edges (out: rule 3) and against them (into: rule 4).

pub data Way : Type 0 where
  out into : Way

-- Of one thing at the source and one at the target: the one at the node that counts, and the one across. Out, the counting node is the source.
module _ {A : Type 0} where
  abbrev pub near : Way → A → A → A
  near out source target = source
  near into source target = target

  abbrev pub far : Way → A → A → A
  far out source target = target
  far into source target = source

-- What goes by the nodes and the schema nodes alone. "Nodes are compared with schema nodes only, edges with schema edges only."
module _ (ns : List Node) (ts : List SchemaNode) where
  -- node i fits schema node j
  abbrev pub NodeFits : ℕ → ℕ → Type 0
  NodeFits i j = Fits (node_in ns i).object (schema_node_in ts j).shape

  -- Rule 2: an edge fits a "schema edge whose source and target schema nodes its own source and target nodes fit".
  pub record Placed (e : Edge) (s : SchemaEdge) : Type 0 where
    pub edge : Fits e.object s.shape
    pub source : NodeFits e.source s.source
    pub target : NodeFits e.target s.target

  -- Rule 3, out of node v: "counting edges that fit the schema edge and end in a node that fits its target".
  -- Rule 4, into node v: "counting edges that fit it and start in a node that fits its source".
  pub record Counts (w : Way) (s : SchemaEdge) (v : ℕ) (e : Edge) : Type 0 where
    pub here : near w e.source e.target ≡ v
    pub fits : Fits e.object s.shape
    pub far_end : NodeFits (far w e.source e.target) (far w s.source s.target)

module _ (G : Graph) (S : Schema) where
  -- "1. Every node fits some schema node."
  abbrev pub NodePlaced : ℕ → Type 0
  NodePlaced i = Some (length S.nodes) (λ j. NodeFits G.nodes S.nodes i j)

  -- "2. Every edge fits some schema edge whose source and target schema nodes its own source and target nodes fit; .."
  abbrev pub EdgePlaced : ℕ → Type 0
  EdgePlaced e = Some (length S.edges) (λ s. Placed G.nodes S.nodes (edge_at G e) (schema_edge_at S s))

  -- node v owes schema edge s a number of edges: it fits its source (rule 3) or its target (rule 4)
  abbrev pub Owes : Way → ℕ → ℕ → Type 0
  Owes w s v = NodeFits G.nodes S.nodes v (near w (schema_edge_at S s).source (schema_edge_at S s).target)

  -- node v has n such edges. "Parallel edges count one each. A loop counts once out and once in."
  abbrev pub Number : Way → ℕ → ℕ → ℕ → Type 0
  Number w s v n = Counted (Counts G.nodes S.nodes w (schema_edge_at S s) v) G.edges n

  -- Rule 3 bounds what leaves by "the **target** interval", rule 4 what arrives by "the **source** interval": the interval across.
  unfoldable pub across : Way → ℕ → Interval
  across w s = far w (schema_edge_at S s).sources (schema_edge_at S s).targets

  abbrev pub Right : Way → ℕ → ℕ → Type 0
  Right w s n = Within n (across w s)

  -- 3 and 4: "For each schema edge, each node that fits .. has a number of .. edges within the .. interval, .."
  abbrev pub NumbersRight : Way → Type 0
  NumbersRight w = Every (length S.edges) (λ s. Every (length G.nodes) (λ v. Owes w s v → (n : ℕ) × Number w s v n × Right w s n))

  -- "the four rules all hold"
  pub record Conforms : Type 0 where
    pub rule1 : Every (length G.nodes) NodePlaced
    pub rule2 : Every (length G.edges) EdgePlaced
    pub rule3 : NumbersRight out
    pub rule4 : NumbersRight into
