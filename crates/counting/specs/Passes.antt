-- The words in which the functions of a step promise something to each other, each of one pass over the edges or the nodes. No public promise uses them.
use Rattle.std.specs.Prelude.{◌≡◌, Option, List, ℕ, ◌≤◌, ◌<◌, length, take, get_or}
use Rattle.little.specs.Promise.{Says}
use Rattle.meaning.specs.Places.{Every}
use Rattle.meaning.specs.Counted.{Counted}
use Rattle.meaning.specs.Model.{Graph, Schema, Interval}
use Rattle.meaning.specs.Fits.{HasLabel}
use Rattle.meaning.specs.Rules.{Way, Within}
use Rattle.meaning.specs.Violations.{Misnumbered}
use Rattle.layout.specs.Files.{most_nodes}
use Rattle.layout.specs.Search.{UpTo, Searches}
use Rattle.placing.specs.PlacedEdges.{Kept}
use Rattle.counting.specs.declared.Step.{Step}
use Rattle.counting.specs.Numbers.{PlacedHere, CountersTo, SomeSeveral}

-- each counter is the number of edges before e that are placed at schema edge s by its node
pub record CountedTo (G : Graph) (S : Schema) (w : Way) (s e : ℕ) (counts : List ℕ) : Type 0 where
  pub sized : length counts ≡ most_nodes
  pub counted : Every most_nodes (λ v. Counted (PlacedHere G S w s v) (take e G.edges) (get_or counts v 0))

-- by masks and counters: each node from `from` on, before n, that owes a number at this end has one within the interval
abbrev pub AllWithin : ℕ → Interval → List ℕ → List ℕ → ℕ → ℕ → Type 0
AllWithin end i masks counts from n = Every n (λ v. from ≤ v → HasLabel (get_or masks v 0) end → Within (get_or counts v 0) i)

-- counters that are zero up to node n, and behind it as they were
abbrev pub ClearedTo : List ℕ → ℕ → List ℕ → Type 0
ClearedTo before = UpTo most_nodes (λ v k. k ≡ 0) (λ v k. k ≡ get_or before v 0)

-- ---- a step

-- what a step asks for: two files with what is kept of them, its schema edge is there, and it knows whether some edge has several places
pub record StepReady (x : Step) : Type 0 where
  pub kept : Kept x.p.now x.masks.now x.places.now
  pub there : x.edge < x.p.now.schema.numbers.edges
  pub several : Says x.several (SomeSeveral x.p.now.graph.numbers.edges x.places.now)

-- node v's number at schema edge s is wrong
abbrev pub WrongAt : Graph → Schema → Way → ℕ → ℕ → Type 0
WrongAt G S w s v = (k : ℕ) × Misnumbered G S w s v k

-- schema edge s from node `from` on: the lowest node whose number is wrong, and the counters, zero again before it
abbrev pub StepTried : Option ℕ → Graph → Schema → Way → ℕ → ℕ → List ℕ → Type 0
StepTried r G S w s from = Searches r from (length G.nodes) (WrongAt G S w s) (CountersTo G S w s)
