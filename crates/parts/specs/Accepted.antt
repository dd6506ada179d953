-- An accepted file and where its tables lie; the tables of accepted files, and the graph and the schema that such tables say.
use Rattle.std.specs.Prelude.{◌≡◌, List, ℕ, ◌+◌, ◌*◌}
use Rattle.little.specs.Little.{little}
use Rattle.meaning.specs.Model as meaning
use Rattle.layout.specs.declared.File.{File}
use Rattle.layout.specs.declared.Sort.{Sort}
use Rattle.layout.specs.declared.Sort.TheVariants.{Edges}
use Rattle.layout.specs.declared.Tables.{Tables}
use Rattle.layout.specs.Files.{of, form, ceilings, tables_of, Full, body_at, body_in}
use Rattle.layout.specs.Refusals.{FileAccepted, Held, Passed, row_refusals}
use Rattle.layout.specs.Graph.{graph_of}
use Rattle.layout.specs.Schema.{schema_of}
use Rattle.parts.specs.declared.FileTables.{FileTables}

-- the file is accepted, and these are its tables
pub data Accepted (F : File) (f : List ℕ) (t : Tables) : Type 0 where
  with_tables : FileAccepted F (ceilings F) f → t ≡ tables_of F f → Accepted F f t

-- tables under 01's ceilings, as long as their counts say, whose rows pass
pub record Good (F : File) (x : FileTables) : Type 0 where
  pub held : Held (ceilings F) x.numbers
  pub full : Full F x.numbers (body_in x.bytes)
  pub rows : Passed (row_refusals F x.numbers (body_in x.bytes))

-- the numbers and the bytes of a file's tables, which are good
pub record TablesOf (F : File) (f : List ℕ) (t : Tables) (x : FileTables) : Type 0 where
  pub numbers : x.numbers ≡ t.numbers
  pub bytes : body_in x.bytes ≡ body_at f t.starts
  pub good : Good F x

-- how many nodes or edges there are, and their table's bytes
abbrev pub count_at : Sort → FileTables → ℕ
count_at o x = of o x.numbers.nodes x.numbers.edges

abbrev pub objects_at : Sort → FileTables → List ℕ
objects_at o x = of o (body_in x.bytes).nodes (body_in x.bytes).edges

-- the number of four bytes from place k of edge row e on
abbrev pub edge_number : File → FileTables → ℕ → ℕ → ℕ
edge_number F x e k = little 4 (body_in x.bytes).edges ((form F Edges).width * e + k)

-- what the tables say
abbrev pub graph_at : FileTables → meaning.Graph
graph_at x = graph_of x.numbers (body_in x.bytes)

abbrev pub schema_at : FileTables → meaning.Schema
schema_at x = schema_of x.numbers (body_in x.bytes)
