-- A search for violations in 01's order: which of them it has not passed, what it keeps, and what it finds next.
use Rattle.std.specs.Prelude.{◌≡◌, false, Some, None, List, ℕ, ◌+◌, ◌≤◌, length, replicate}
use Rattle.little.specs.Promise.{Says}
use Rattle.meaning.specs.Model.{Graph, Schema}
use Rattle.meaning.specs.Rules.{Way}
use Rattle.meaning.specs.Violations.{Violation, node, edge, number, rule_of, rule, by, then, ◌≼◌, Violates}
use Rattle.meaning.specs.Answer.{Answer, Told}
use Rattle.parts.specs.declared.pair.Pair.{Pair}
use Rattle.parts.specs.Accepted.{graph_at, schema_at}
use Rattle.placing.specs.Masks.{MasksTo}
use Rattle.placing.specs.PlacedEdges.{no_place, PlacesTo, LabelsApart}
use Rattle.layout.specs.Files.{most_nodes, most_edges}
use Rattle.counting.specs.Numbers.{AllZero, SomeSeveral, CountersAt}
use Rattle.telling.specs.Told.{finding_of}
use Rattle.rules.specs.declared.Search.{Search}
use Rattle.rules.specs.declared.Onward.{Onward}

-- ---- where a search stands

-- "rule 1 by node; rule 2 by edge; rule 3 by schema edge, then node; rule 4 likewise"
pub record At (r b n : ℕ) (f : Search) : Type 0 where
  pub rule : f.rule ≡ r
  pub by : f.by ≡ b
  pub then : f.then ≡ n

-- no violation is passed, and nothing is known
abbrev pub at_start : Search
at_start = record { rule = 1; by = 0; then = 0; apart = false; several = false }

-- a violation that the search has not passed: where the search stands does not come after it
pub record Ahead (f : Search) (v : Violation) : Type 0 where
  pub first_rule : f.rule ≤ rule v
  pub first_by : f.rule ≡ rule v → f.by ≤ by v
  pub first_then : f.rule ≡ rule v → f.by ≡ by v → f.then ≤ then v

-- right behind a violation: at the next node, the next edge, or the next node of the same schema edge
abbrev pub Behind : Violation → Search → Type 0
Behind (node i) = At 1 (i + 1) 0
Behind (edge e) = At 2 (e + 1) 0
Behind (number w s v n) = At (rule_of w) s (v + 1)

-- masks, places and counters that nobody has touched
pub record IsFresh (m p c : List ℕ) : Type 0 where
  pub masks : m ≡ replicate most_nodes 0
  pub places : p ≡ replicate most_edges no_place
  pub counts : c ≡ replicate most_nodes 0

-- ---- what a search keeps, in the words of the rules by which it is kept

module _ (G : Graph) (S : Schema) where
  -- of rule 1: the masks of the nodes that are passed
  pub record StandsNodes (masks : List ℕ) (f : Search) : Type 0 where
    pub amid : f.rule ≡ 1 → (f.by ≤ length G.nodes) × (f.then ≡ 0) × MasksTo G S f.by masks
    pub behind : 2 ≤ f.rule → MasksTo G S (length G.nodes) masks

  -- of rule 2: the places of the edges that are passed, and whether the label sets of the schema edges are apart
  pub record StandsEdges (places : List ℕ) (f : Search) : Type 0 where
    pub before : f.rule ≡ 1 → PlacesTo G S 0 places × (f.apart ≡ false)
    pub amid : f.rule ≡ 2 → (f.by ≤ length G.edges) × (f.then ≡ 0) × PlacesTo G S f.by places
    pub behind : 3 ≤ f.rule → PlacesTo G S (length G.edges) places
    pub apart : 2 ≤ f.rule → Says f.apart (LabelsApart S)

  -- of rules 3 and 4: the counters where the next node of a schema edge is judged, and whether some edge has several places
  pub record StandsNumbers (places counts : List ℕ) (f : Search) : Type 0 where
    pub before : f.rule ≤ 2 → AllZero counts × (f.several ≡ false)
    pub amid : (w : Way) → f.rule ≡ rule_of w → (f.by ≤ length S.edges) × (f.then ≤ length G.nodes) × CountersAt G S w f.by f.then counts
    pub behind : f.rule ≡ 5 → AllZero counts × (f.by ≡ 0) × (f.then ≡ 0)
    pub several : 3 ≤ f.rule → Says f.several (SomeSeveral (length G.edges) places)

-- a search in the two files of a check, with its masks, places and counters
pub record Stands (p : Pair) (masks places counts : List ℕ) (f : Search) : Type 0 where
  pub from_to : (1 ≤ f.rule) × (f.rule ≤ 5)
  pub nodes : StandsNodes (graph_at p.graph) (schema_at p.schema) masks f
  pub edges : StandsEdges (graph_at p.graph) (schema_at p.schema) places f
  pub numbers : StandsNumbers (graph_at p.graph) (schema_at p.schema) places counts f

-- ---- what it finds next

module _ (G : Graph) (S : Schema) (from : Search) (r : Onward) where
  -- the first violation that is not passed: it is told as 01 has it, and the search stands right behind it
  pub record Finds (v : Violation) (a : Answer) : Type 0 where
    pub violates : Violates G S v
    pub ahead : Ahead from v
    pub first : (u : Violation) → Violates G S u → Ahead from u → v ≼ u
    pub told : Told G S v a
    pub found : r.found ≡ Some (finding_of a)
    pub behind : Behind v r.search

  -- no violation is left, and the search stands behind all rules
  pub record FindsNone : Type 0 where
    pub none : (u : Violation) → Violates G S u → ¬ Ahead from u
    pub found : r.found ≡ None
    pub at_end : At 5 0 0 r.search

  pub data NextFound : Type 0 where
    found : {v : Violation} {a : Answer} → Finds v a → NextFound
    none_left : FindsNone → NextFound
