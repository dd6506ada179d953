-- What is proved of the file that the joiner writes of the files f and g (02, Ask 7).
use Rattle.std.specs.Prelude.{◌≡◌, ◌↔◌, ℕ}
use mathlib.Core.List.{List, Memᴰ}
use Rattle.meaning.specs.Rules.{Conforms}
use Rattle.meaning.specs.Violations.{Violation, Violates}
use Rattle.meaning.specs.Answer.{Answer}
use Rattle.meaning.specs.Listing.{AllTold}
use Rattle.meaning.specs.Join.{joined, OfBoth, ToldOfBoth}
use Rattle.layout.specs.declared.File.TheVariants.{Graph, Schema}
use Rattle.layout.specs.Files.{ceilings, numbers_of}
use Rattle.layout.specs.Refusals.{FileAccepted}
use Rattle.layout.specs.Checked.{graph_in, schema_in}
use Rattle.join.specs.Joined.{numbers_of_both}

module _ (f g : List ℕ) where
  pub record JoinedFile (h : List ℕ) : Type 0 where
    -- the reader accepts all three, and the graph is the joined one
    pub first : FileAccepted Graph (ceilings Graph) f
    pub second : FileAccepted Graph (ceilings Graph) g
    pub accepted : FileAccepted Graph (ceilings Graph) h
    pub graph : graph_in h ≡ joined (graph_in f) (graph_in g)
    -- what is held to the ceilings is what the reader reads in it
    pub numbers : numbers_of Graph h ≡ numbers_of_both f g
    -- its violations are exactly those of the first graph, and those of the second with their places moved
    pub violations :
        (s : List ℕ) → FileAccepted Schema (ceilings Schema) s → (v : Violation) → Violates (graph_in h) (schema_in s) v ↔ OfBoth (graph_in f) (graph_in g) (schema_in s) v
    -- what is told of all of them is what is told of those
    pub told : (s : List ℕ) → FileAccepted Schema (ceilings Schema) s → {m : List Answer} → AllTold (graph_in h) (schema_in s) m → (b : Answer) → Memᴰ b m ↔ ToldOfBoth (graph_in f) (graph_in g) (schema_in s) b
    -- "the joined graph conforms exactly if both did, wherever all three files are accepted under one accepted schema"
    pub conforms : (s : List ℕ) → FileAccepted Schema (ceilings Schema) s → Conforms (graph_in h) (schema_in s) ↔ (Conforms (graph_in f) (schema_in s) × Conforms (graph_in g) (schema_in s))
