-- Demand 3 over files: where an accepted schema file's schema is made looser, no accepted graph file has a new violation, and none is lost without an excuse.
use mathlib.Core.List.{List}
use Prim.Native.Nat.{ℕ}
use Rattle.meaning.specs.Loosen.{Steps, Looser}
use Rattle.meaning.proofs.Loosened.{loosened}
use Rattle.layout.specs.declared.File.TheVariants.{Graph, Schema}
use Rattle.layout.specs.declared.Ceilings.{Ceilings}
use Rattle.layout.specs.Refusals.{FileAccepted}
use Rattle.layout.specs.Checked.{graph_in, schema_in}
use Rattle.layout.proofs.Accepted.{closed, rows_good}

module _ (c d : Ceilings) (g s t : List ℕ) where
  -- "Its steps are on values": the files differ in more than the steps say, since "later run starts move with them, and label and name counts may grow".
  pub loosened_files : FileAccepted Graph c g → FileAccepted Schema d s → FileAccepted Schema d t → Steps (schema_in s) (schema_in t) → Looser (graph_in g) (schema_in s) (schema_in t)
  loosened_files a p q w = loosened (closed _ _ (rows_good Schema s d p)) w (graph_in g)
