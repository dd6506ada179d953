-- Violations, their order, and the first one (01, "The four rules").
use Rattle.std.specs.Prelude.{◌≡◌, ℕ, ◌≤◌, ◌<◌, length}
use Rattle.meaning.specs.Model.{Graph, Schema}
use Rattle.meaning.specs.Rules.{Way, near, NodePlaced, EdgePlaced, Owes, Number, Right}

-- "A violation is one node against rule 1, one edge against rule 2, or one schema edge with one node against rule 3 or rule 4."
-- The last has the way, the schema edge, the node, and the number of edges counted there.
pub data Violation : Type 0 where
  node : ℕ → Violation
  edge : ℕ → Violation
  number : Way → ℕ → ℕ → ℕ → Violation

-- ---- "First violation: rule 1 by node; rule 2 by edge; rule 3 by schema edge, then node; rule 4 likewise."

-- along the edges rule 3, against them rule 4
unfoldable pub rule_of : Way → ℕ
rule_of w = near w 3 4

abbrev pub rule : Violation → ℕ
rule (node i) = 1
rule (edge e) = 2
rule (number w s v n) = rule_of w

abbrev pub by : Violation → ℕ
by (node i) = i
by (edge e) = e
by (number w s v n) = s

abbrev pub then : Violation → ℕ
then (node i) = 0
then (edge e) = 0
then (number w s v n) = v

-- v does not come after u
infix 20 ◌≼◌
pub record ◌≼◌ (v u : Violation) : Type 0 where
  pub first_rule : rule v ≤ rule u
  pub first_by : rule v ≡ rule u → by v ≤ by u
  pub first_then : rule v ≡ rule u → by v ≡ by u → then v ≤ then u

module _ (G : Graph) (S : Schema) where
  -- the number of edges at this schema edge and node is n, and n is not within the interval
  pub record Misnumbered (w : Way) (s v n : ℕ) : Type 0 where
    pub schema_edge : s < length S.edges
    pub node : v < length G.nodes
    pub owes : Owes G S w s v
    pub counted : Number G S w s v n
    pub wrong : ¬ Right G S w s n

  -- the graph has this violation
  abbrev pub Violates : Violation → Type 0
  Violates (node i) = (i < length G.nodes) × ¬ NodePlaced G S i
  Violates (edge e) = (e < length G.edges) × ¬ EdgePlaced G S e
  Violates (number w s v n) = Misnumbered w s v n

  -- no violation is against a rule before rule r
  abbrev pub Clear : ℕ → Type 0
  Clear r = (u : Violation) → Violates u → r ≤ rule u

  -- the first violation: no violation comes before it
  pub record First (v : Violation) : Type 0 where
    pub violates : Violates v
    pub first : (u : Violation) → Violates u → v ≼ u
