-- Both files: "an optional preface of any bytes (ignored), a body, and a trailer at the end" (01, "The two files"), and the ceilings.
use Rattle.std.specs.Prelude.{◌≡◌, List, [], ◌∷◌, ℕ, ◌+◌, ◌-◌, ◌*◌, ◌≤◌, length, drop}
use Rattle.little.specs.Little.{little}
use Rattle.layout.specs.declared.File.{File}
use Rattle.layout.specs.declared.File.TheVariants.{Graph, Schema}
use Rattle.layout.specs.declared.Sort.{Sort}
use Rattle.layout.specs.declared.Sort.TheVariants.{Nodes, Edges}
use Rattle.layout.specs.declared.Form.{Form}
use Rattle.layout.specs.declared.Ceilings.{Ceilings}
use Rattle.layout.specs.declared.Trailer.{Trailer}
use Rattle.layout.specs.declared.Starts.{Starts}
use Rattle.layout.specs.declared.Tables.{Tables}
use Rattle.layout.specs.declared.TableBytes.{TableBytes}
use Rattle.layout.specs.Tables.{between}

-- what 01 says for a graph file, and what for a schema file
module _ {A : Type 0} where
  abbrev pub either : File → A → A → A
  either Graph g s = g
  either Schema g s = s

  -- and what for its nodes, and what for its edges
  abbrev pub of : Sort → A → A → A
  of Nodes n e = n
  of Edges n e = e

-- ---- the rows of the tables

-- "Node row, 16 bytes: label set (64 bits, bit k is label k), first property row (32), property count (32)."
-- "Edge row, 24 bytes: label set (64), source node (32), target node (32), first property row (32), property count (32)."
-- "Schema node row, 16 bytes: label set (64), first schema property (32), count (16), open (16)."
-- "Schema edge row, 40 bytes: label set (64), source schema node (32), target schema node (32), first schema property (32), count (16), open (16), .."
abbrev pub form : File → Sort → Form
form Graph Nodes = record { width = 16; run = 8; counted = 4 }
form Graph Edges = record { width = 24; run = 16; counted = 4 }
form Schema Nodes = record { width = 16; run = 8; counted = 2 }
form Schema Edges = record { width = 40; run = 16; counted = 2 }

-- "source node (32), target node (32)", after the label set in both files
module _ (F : File) where
  abbrev pub source_at : List ℕ → ℕ → ℕ
  source_at t e = little 4 t ((form F Edges).width * e + 8)

  abbrev pub target_at : List ℕ → ℕ → ℕ
  target_at t e = little 4 t ((form F Edges).width * e + 12)

-- "Property row, 16 bytes", "Schema property row, 4 bytes"
abbrev pub row_width : File → ℕ
row_width F = either F 16 4

-- ---- the trailer

-- "Graph trailer, 28 bytes", "Schema trailer, 20 bytes"
abbrev pub trailer_size : File → ℕ
trailer_size F = either F 28 20

-- "the bytes 47 50 48 31", "the bytes 53 43 48 31"
abbrev pub mark : File → List ℕ
mark F = either F (0x47 ∷ 0x50 ∷ 0x48 ∷ 0x31 ∷ []) (0x53 ∷ 0x43 ∷ 0x48 ∷ 0x31 ∷ [])

-- "nodes N (32), edges E (32), property rows P (32), text bytes T (32), label count (16), name count (16), back (32)"
-- "schema nodes (16), schema edges (16), schema properties (32), label count (16), name count (16), back (32)"
abbrev pub numbers : File → List ℕ → Trailer
numbers Graph t =
    record {
      nodes = little 4 t 0;
      edges = little 4 t 4;
      rows = little 4 t 8;
      text = little 4 t 12;
      labels = little 2 t 16;
      names = little 2 t 18;
      back = little 4 t 20;
    }
numbers Schema t =
    record {
      nodes = little 2 t 0;
      edges = little 2 t 2;
      rows = little 4 t 4;
      text = 0;
      labels = little 2 t 8;
      names = little 2 t 10;
      back = little 4 t 12;
    }

-- ---- the body

-- the bytes that the counts give
abbrev pub body_size : File → Trailer → ℕ
body_size F n = (form F Nodes).width * n.nodes + (form F Edges).width * n.edges + row_width F * n.rows + n.text

-- The tables follow one another from the body's first byte on: "Graph body, in this order: .. Node row, .. Edge row, .. Property row, .. Text bytes".
abbrev pub starts : File → Trailer → ℕ → Starts
starts F n body =
    let edges = body + (form F Nodes).width * n.nodes in
    let rows = edges + (form F Edges).width * n.edges in
    let text = rows + row_width F * n.rows in
    record { nodes = body; edges = edges; rows = rows; text = text; end = text + n.text }

-- the tables stand one after another inside so many bytes
pub record Ordered (s : Starts) (size : ℕ) : Type 0 where
  pub nodes : s.nodes ≤ s.edges
  pub edges : s.edges ≤ s.rows
  pub rows : s.rows ≤ s.text
  pub text : s.text ≤ s.end
  pub end : s.end ≤ size

-- the tables' bytes
pub record Body : Type 0 where
  pub nodes : List ℕ
  pub edges : List ℕ
  pub rows : List ℕ
  pub text : List ℕ

abbrev pub body : List ℕ → List ℕ → List ℕ → List ℕ → Body
body ns es rs ts = record { nodes = ns; edges = es; rows = rs; text = ts }

abbrev pub body_in : TableBytes → Body
body_in t = body t.nodes.now t.edges.now t.rows.now t.text.now

-- each table has the bytes of as many rows as its count says
pub record Full (F : File) (n : Trailer) (b : Body) : Type 0 where
  pub nodes : length b.nodes ≡ (form F Nodes).width * n.nodes
  pub edges : length b.edges ≡ (form F Edges).width * n.edges
  pub rows : length b.rows ≡ row_width F * n.rows
  pub text : length b.text ≡ n.text

abbrev pub body_at : List ℕ → Starts → Body
body_at f s =
    record {
      nodes = between f s.nodes s.edges;
      edges = between f s.edges s.rows;
      rows = between f s.rows s.text;
      text = between f s.text s.end;
    }

module _ (F : File) (f : List ℕ) where
  -- the bytes before the trailer
  abbrev pub before : ℕ
  before = length f - trailer_size F

  abbrev pub numbers_of : Trailer
  numbers_of = numbers F (drop before f)

  -- "The trailer points back: its field 'back' is the distance from its first byte to the body's first byte."
  abbrev pub tables_of : Tables
  tables_of = record { numbers = numbers_of; starts = starts F numbers_of (before - numbers_of.back) }

  abbrev pub body_of : Body
  body_of = body_at f tables_of.starts

-- ---- the ceilings

-- "Graph: file 28 to 1,048,576 bytes, N up to 1,024, E up to 4,096, P up to 16,384, T up to 262,144, labels up to 64, names up to 256."
-- "Schema: file 20 to 16,384 bytes, up to 32 schema nodes, 64 schema edges, 1,024 schema properties, the same label and name ceilings."
abbrev pub ceilings : File → Ceilings
ceilings Graph = record { file = 1048576; nodes = 1024; edges = 4096; rows = 16384; text = 262144; labels = 64; names = 256 }
ceilings Schema = record { file = 16384; nodes = 32; edges = 64; rows = 1024; text = 0; labels = 64; names = 256 }

-- "one counter for each of the 1,024 possible nodes": as many as may be
abbrev pub most_nodes : ℕ
most_nodes = (ceilings Graph).nodes

abbrev pub most_edges : ℕ
most_edges = (ceilings Graph).edges

abbrev pub most_schema_edges : ℕ
most_schema_edges = (ceilings Schema).edges

-- the same ceilings for files up to m bytes
abbrev pub files_up_to : ℕ → Ceilings → Ceilings
files_up_to m c = record { file = m; nodes = c.nodes; edges = c.edges; rows = c.rows; text = c.text; labels = c.labels; names = c.names }

-- The small program's: "The program takes graphs up to 40,000 bytes and schemas up to 16,384; a longer one is answered as length refusal 2 or 9."
abbrev pub small_ceilings : File → Ceilings
small_ceilings F = files_up_to (either F 40000 16384) (ceilings F)
