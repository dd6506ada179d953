-- What is told of a violation, and the answer (01, the table of codes 0 and 21 to 34; 02, Ask 2, for its fifth number).
use Rattle.std.specs.Prelude.{◌≡◌, false, ℕ, ◌<◌, length}
use Rattle.meaning.specs.Places.{Every, Some, Lowest, Least}
use Rattle.meaning.specs.Model.{Graph, Schema, Object, Shape, Interval, property_at, listed_at, node_in, edge_at, schema_node_in, schema_edge_at}
use Rattle.meaning.specs.Fits.{SameLabels, HasType, Mandatory, HasName, ListsName, Fits, AllPresent, AllListed, AllTyped}
use Rattle.meaning.specs.Rules.{AtMost, Way, near, NodeFits, across, Conforms}
use Rattle.meaning.specs.Violations.{Violation, node, edge, number, First}

-- "code, place, schema place, count", and Ask 2's "fifth number": the name of a property
pub record Answer : Type 0 where
  pub code : ℕ
  pub place : ℕ
  pub schema_place : ℕ
  pub count : ℕ
  pub property : ℕ

abbrev pub answer : ℕ → ℕ → ℕ → ℕ → ℕ → Answer
answer c p s n x = record { code = c; place = p; schema_place = s; count = n; property = x }

-- "the first of 1 (b), 2 (c), 3 (d) broken there"
pub data Broken (o : Object) (s : Shape) : ℕ → Type 0 where
  not_present : ¬ AllPresent o s → Broken o s 1
  not_listed : AllPresent o s → ¬ AllListed o s → Broken o s 2
  not_typed : AllPresent o s → AllListed o s → ¬ AllTyped o s → Broken o s 3

-- The names at fault by each letter, in the words of Ask 2.
module _ (o : Object) (s : Shape) where
  -- (b) "missing mandatory": a name that is listed as mandatory, and is not present
  pub record Missing (x : ℕ) : Type 0 where
    pub mandatory : Some (length s.listed) (λ j. ((listed_at s j).name ≡ x) × Mandatory (listed_at s j))
    pub absent : ¬ HasName o x

  -- (c) "unlisted": a present name that is not listed, and the type is not open
  pub record Unlisted (x : ℕ) : Type 0 where
    pub present : HasName o x
    pub closed : s.open? ≡ false
    pub unlisted : ¬ ListsName s x

  -- (d) "wrongly typed": a present name that is listed with another type
  pub record Mistyped (x : ℕ) : Type 0 where
    pub present : HasName o x
    pub listed : ListsName s x
    pub other : ¬ HasType (property_at o present.0).value (listed_at s listed.0).type

  -- "the lowest missing mandatory, unlisted or wrongly typed name, by the letter that is answered now"
  pub data Named : ℕ → ℕ → Type 0 where
    lowest_missing : {x : ℕ} → Least Missing x → Named 1 x
    lowest_unlisted : {x : ℕ} → Least Unlisted x → Named 2 x
    lowest_mistyped : {x : ℕ} → Least Mistyped x → Named 3 x

-- Too few comes first. In an accepted schema no minimum is above its maximum, so that a number is never both.
abbrev pub TooFew : ℕ → Interval → Type 0
TooFew n i = n < i.minimum

abbrev pub TooMany : ℕ → Interval → Type 0
TooMany n i = ¬ AtMost n i.maximum

module _ (G : Graph) (S : Schema) where
  abbrev pub NodeLabelled : ℕ → ℕ → Type 0
  NodeLabelled i j = SameLabels (node_in G.nodes i).object (schema_node_in S.nodes j).shape

  abbrev pub EdgeLabelled : ℕ → ℕ → Type 0
  EdgeLabelled e s = SameLabels (edge_at G e).object (schema_edge_at S s).shape

  abbrev pub EdgeFits : ℕ → ℕ → Type 0
  EdgeFits e s = Fits (edge_at G e).object (schema_edge_at S s).shape

  abbrev pub SourceFits : ℕ → ℕ → Type 0
  SourceFits e s = NodeFits G.nodes S.nodes (edge_at G e).source (schema_edge_at S s).source

  -- What is told of a violation: a line of the table for each constructor. Of a violation it is known already that its rule is broken.
  -- The name at fault "is the answer's fifth number for 22 and 24, 0 for all other codes".
  pub data Told : Violation → Answer → Type 0 where
    -- 21 "node with a label set no schema node has: node, 0, 0"
    code_21 : {i : ℕ} → Every (length S.nodes) (λ j. ¬ NodeLabelled i j) → Told (node i) (answer 21 i 0 0 0)
    -- 22 "another node against rule 1: node, lowest schema node of equal labels, and the first of 1 (b), 2 (c), 3 (d) broken there"
    code_22 :
        {i j k x : ℕ} → Lowest (length S.nodes) (λ j. NodeLabelled i j) j → Broken (node_in G.nodes i).object (schema_node_in S.nodes j).shape k
        → Named (node_in G.nodes i).object (schema_node_in S.nodes j).shape k x → Told (node i) (answer 22 i j k x)
    -- 23 "edge with a label set no schema edge has: edge, 0, 0"
    code_23 : {e : ℕ} → Every (length S.edges) (λ s. ¬ EdgeLabelled e s) → Told (edge e) (answer 23 e 0 0 0)
    -- 24 "another edge that fits no schema edge: as 22 with schema edges"
    code_24 :
        {e s k x : ℕ} → Every (length S.edges) (λ s. ¬ EdgeFits e s) → Lowest (length S.edges) (λ s. EdgeLabelled e s) s
        → Broken (edge_at G e).object (schema_edge_at S s).shape k → Named (edge_at G e).object (schema_edge_at S s).shape k x → Told (edge e) (answer 24 e s k x)
    -- 25 "edge that fits one, but ends never fit: edge, lowest schema edge it fits, 1 if its source misfits there, else 2"
    code_25_source : {e s : ℕ} → Lowest (length S.edges) (λ s. EdgeFits e s) s → ¬ SourceFits e s → Told (edge e) (answer 25 e s 1 0)
    code_25_target : {e s : ℕ} → Lowest (length S.edges) (λ s. EdgeFits e s) s → SourceFits e s → Told (edge e) (answer 25 e s 2 0)
    -- 31 "rule 3, too few / ..: node, schema edge, number counted", 33 "rule 4, too few / ..: the same"
    code_31_33 : {w : Way} {s v n : ℕ} → TooFew n (across G S w s) → Told (number w s v n) (answer (near w 31 33) v s n 0)
    -- 32 "rule 3, .. too many: node, schema edge, number counted", 34 "rule 4, .. too many: the same"
    code_32_34 : {w : Way} {s v n : ℕ} → ¬ TooFew n (across G S w s) → TooMany n (across G S w s) → Told (number w s v n) (answer (near w 32 34) v s n 0)

  -- Demand 2: "'conforms' exactly if the four rules all hold .. Otherwise it is the first violation in 01's order, .."
  pub data IsAnswer : Answer → Type 0 where
    -- 0 "conforms: 0, 0, 0"
    conforming : Conforms G S → IsAnswer (answer 0 0 0 0 0)
    violating : {v : Violation} {a : Answer} → First G S v → Told v a → IsAnswer a
