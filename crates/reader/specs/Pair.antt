-- What is read of the two files of a check.
use Rattle.std.specs.Prelude.{◌≡◌, List, ℕ, Result, Ok, Err}
use Rattle.layout.specs.declared.File.{File}
use Rattle.layout.specs.declared.File.TheVariants.{Graph, Schema}
use Rattle.layout.specs.declared.Refusal.{Refusal}
use Rattle.layout.specs.Files.{tables_of, ceilings}
use Rattle.layout.specs.Codes.{code_of, place_of}
use Rattle.layout.specs.Refusals.{FileRefused, FileAccepted}
use Rattle.layout.specs.Checked.{graph_in, schema_in}
use Rattle.parts.specs.declared.FileTables.{FileTables}
use Rattle.parts.specs.declared.pair.Pair.{Pair}
use Rattle.parts.specs.Accepted.{TablesOf, graph_at, schema_at}

-- the file is accepted, with its tables, or refused
abbrev pub ReadsTables : Result FileTables Refusal → File → List ℕ → Type 0
ReadsTables (Ok x) F f = FileAccepted F (ceilings F) f × TablesOf F f (tables_of F f) x
ReadsTables (Err r) F f = (r.file ≡ F) × FileRefused F (ceilings F) f (code_of F r.cause) (place_of r.cause)

-- the files are accepted, and their tables are the ones that lie there and say what they say
pub record AcceptedPair (p : Pair) (g s : List ℕ) : Type 0 where
  pub graph : FileAccepted Graph (ceilings Graph) g
  pub schema : FileAccepted Schema (ceilings Schema) s
  pub graph_tables : TablesOf Graph g (tables_of Graph g) p.graph
  pub schema_tables : TablesOf Schema s (tables_of Schema s) p.schema
  pub graph_says : graph_at p.graph ≡ graph_in g
  pub schema_says : schema_at p.schema ≡ schema_in s

-- the graph's refusal, else the schema's
pub data RefusedPair (g s : List ℕ) (r : Refusal) : Type 0 where
  of_graph : r.file ≡ Graph → FileRefused Graph (ceilings Graph) g (code_of r.file r.cause) (place_of r.cause) → RefusedPair g s r
  of_schema : r.file ≡ Schema → FileAccepted Graph (ceilings Graph) g → FileRefused Schema (ceilings Schema) s (code_of r.file r.cause) (place_of r.cause) → RefusedPair g s r

abbrev pub ReadsPair : Result Pair Refusal → List ℕ → List ℕ → Type 0
ReadsPair (Ok p) g s = AcceptedPair p g s
ReadsPair (Err r) g s = RefusedPair g s r
