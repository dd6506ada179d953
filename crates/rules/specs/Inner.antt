-- The words in which the functions of one rule promise something to each other. No public promise uses them.
use Rattle.std.specs.Prelude.{◌≡◌, Bool, false, Option, None, List, ℕ, suc, ◌≤◌, length}
use Rattle.little.specs.Promise.{Says}
use Rattle.meaning.specs.Model.{Graph, Schema}
use Rattle.meaning.specs.Violations.{Violation, rule, Violates}
use Rattle.meaning.specs.Answer.{Answer}
use Rattle.placing.specs.PlacedEdges.{LabelsApart}
use Rattle.counting.specs.Numbers.{SomeSeveral}
use Rattle.telling.specs.declared.Finding.{Finding}
use Rattle.rules.specs.declared.Search.{Search}
use Rattle.rules.specs.declared.Onward.{Onward}
use Rattle.rules.specs.Onward.{At, Ahead, Finds}

-- what is told, and where the search stands then
abbrev pub onward_to : Option Finding → ℕ → ℕ → ℕ → Bool → Bool → Onward
onward_to f r b n x y = record { found = f; search = record { rule = r; by = b; then = n; apart = x; several = y } }

module _ (G : Graph) (S : Schema) (from : Search) (r : Onward) where
  -- the search passed its rule: what was ahead of it is ahead of it still, where the next rule begins
  pub record Passes : Type 0 where
    pub passed : (u : Violation) → Violates G S u → Ahead from u → Ahead r.search u
    pub found : r.found ≡ None
    pub at_next : At (suc from.rule) 0 0 r.search

  -- one rule is tried: a violation against it is found, or it is passed
  pub data Sought : Type 0 where
    found : {v : Violation} {a : Answer} → rule v ≡ from.rule → Finds G S from r v a → Sought
    passed : Passes → Sought

-- what rule 1 finds out for the next: whether the label sets of the schema edges are apart. How many places edges have is not known yet.
pub record KnownOfNodes (S : Schema) (f : Search) : Type 0 where
  pub before : f.rule ≡ 1 → f.apart ≡ false
  pub apart : 2 ≤ f.rule → Says f.apart (LabelsApart S)
  pub several : f.several ≡ false

-- what rule 2 finds out for the next: whether some edge has several places
pub record KnownOfEdges (G : Graph) (places : List ℕ) (f : Search) : Type 0 where
  pub before : f.rule ≡ 2 → f.several ≡ false
  pub several : 3 ≤ f.rule → Says f.several (SomeSeveral (length G.edges) places)
