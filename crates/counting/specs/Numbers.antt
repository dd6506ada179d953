-- What counting says (01, rules 3 and 4): the counters, and the first wrong number of a rule.
use Rattle.std.specs.Prelude.{◌≡◌, Option, Some as some, None, List, ℕ, ◌+◌, ◌≤◌, ◌<◌, length, get_or}
use Rattle.little.specs.Promise.{Says}
use Rattle.meaning.specs.Places.{Every, Some}
use Rattle.meaning.specs.Counted.{Counted}
use Rattle.meaning.specs.Model.{Graph, Edge, Schema, schema_edge_at}
use Rattle.meaning.specs.Rules.{Way, near, Placed}
use Rattle.meaning.specs.Violations.{Misnumbered}
use Rattle.layout.specs.Files.{most_nodes, most_schema_edges}
use Rattle.layout.specs.Search.{UpTo}
use Rattle.layout.specs.Ways.{way_of}
use Rattle.parts.specs.declared.pair.Pair.{Pair}
use Rattle.parts.specs.Accepted.{graph_at, schema_at}
use Rattle.placing.specs.PlacedEdges.{Kept}
use Rattle.counting.specs.declared.Start.{Start}
use Rattle.counting.specs.declared.Wrong.{Wrong}

-- ---- counters

-- "one counter for each of the 1,024 possible nodes, all zero at first"
pub record AllZero (counts : List ℕ) : Type 0 where
  pub sized : length counts ≡ most_nodes
  pub zero : Every most_nodes (λ v. get_or counts v 0 ≡ 0)

-- an edge that is placed at schema edge s, by its near end v: where v owes s a number, these are the edges that count
pub record PlacedHere (G : Graph) (S : Schema) (w : Way) (s v : ℕ) (e : Edge) : Type 0 where
  pub here : near w e.source e.target ≡ v
  pub placed : Placed G.nodes S.nodes e (schema_edge_at S s)

-- the counters at schema edge s, gone through up to node n: zero again before it, and else each is the number of edges that are placed at s by its node
abbrev pub CountersTo : Graph → Schema → Way → ℕ → ℕ → List ℕ → Type 0
CountersTo G S w s = UpTo most_nodes (λ v k. k ≡ 0) (λ v k. Counted (PlacedHere G S w s v) G.edges k)

-- what is kept of some edge says that several schema edges place it
abbrev pub SomeSeveral : ℕ → List ℕ → Type 0
SomeSeveral n places = Some n (λ e. get_or places e 0 ≡ most_schema_edges)

-- the counters where node v of schema edge s is next: all zero where no node of s is passed yet, else gone through up to v
pub record CountersAt (G : Graph) (S : Schema) (w : Way) (s v : ℕ) (counts : List ℕ) : Type 0 where
  pub none_passed : v ≡ 0 → AllZero counts
  pub some_passed : 0 < v → (s < length S.edges) × CountersTo G S w s v counts

-- ---- a rule

-- "rule 3 by schema edge, then node; rule 4 likewise": schema edge s and node v do not come before where the rule begins
abbrev pub NotBefore : Start → ℕ → ℕ → Type 0
NotBefore x s v = (x.edge ≤ s) × (x.edge ≡ s → x.node ≤ v)

-- what a rule asks for: two files with what is kept of them, and counters as they have to be where it begins
pub record RuleReady (x : Start) (p : Pair) (masks places counts : List ℕ) : Type 0 where
  pub kept : Kept p masks places
  pub there : x.node ≤ p.graph.numbers.nodes
  pub several : Says x.several (SomeSeveral p.graph.numbers.edges places)
  pub counters : CountersAt (graph_at p.graph) (schema_at p.schema) (way_of x.way) x.edge x.node counts

-- the first violation of the rule that does not come before where the rule begins
pub record FirstNumber (x : Start) (G : Graph) (S : Schema) (s v k : ℕ) : Type 0 where
  pub violates : Misnumbered G S (way_of x.way) s v k
  pub not_before : NotBefore x s v
  pub first : (t u j : ℕ) → Misnumbered G S (way_of x.way) t u j → NotBefore x t u → (s ≤ t) × (s ≡ t → v ≤ u)

-- that violation, with its number, or that there is none
abbrev pub Numbers : Option Wrong → Start → Graph → Schema → Type 0
Numbers (some r) x G S = FirstNumber x G S r.edge r.node r.number
Numbers None x G S = (t u j : ℕ) → Misnumbered G S (way_of x.way) t u j → ¬ NotBefore x t u

-- the counters as the rule leaves them: the wrong number is passed, too; or all are zero
abbrev pub CountersLeft : Option Wrong → Start → Graph → Schema → List ℕ → Type 0
CountersLeft (some r) x G S counts = CountersTo G S (way_of x.way) r.edge (r.node + 1) counts
CountersLeft None x G S counts = AllZero counts

pub record RuleTried (r : Option Wrong) (x : Start) (G : Graph) (S : Schema) (counts : List ℕ) : Type 0 where
  pub numbers : Numbers r x G S
  pub counters : CountersLeft r x G S counts
