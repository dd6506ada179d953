-- Where the tables of a graph file lie: what someone who takes a file apart and writes it anew has to know.
use Rattle.std.specs.Prelude.{List, ℕ, ◌+◌, ◌*◌}
use Rattle.layout.specs.declared.File.TheVariants.{Graph}
use Rattle.layout.specs.declared.Sort.TheVariants.{Nodes, Edges}
use Rattle.layout.specs.declared.Tables.{Tables}
use Rattle.layout.specs.Tables.{between}
use Rattle.layout.specs.Files.{form, row_width, Body, body, ceilings, tables_of}
use Rattle.layout.specs.Refusals.{FileRefused, FileAccepted}
use Rattle.havirozan.specs.declared.TablePlaces.{TablePlaces}

-- a refusal: its code and its place, and no table
abbrev pub no_tables : ℕ → ℕ → TablePlaces
no_tables x k =
    record { code = x; place = k; nodes_at = 0; nodes = 0; edges_at = 0; edges = 0; rows_at = 0; rows = 0; text_at = 0; text = 0; labels = 0; names = 0 }

-- each table: where it starts, from the file's first byte on, and its rows, or its text bytes; and the label count and the name count
abbrev pub places_of : Tables → TablePlaces
places_of t =
    record {
      code = 0;
      place = 0;
      nodes_at = t.starts.nodes;
      nodes = t.numbers.nodes;
      edges_at = t.starts.edges;
      edges = t.numbers.edges;
      rows_at = t.starts.rows;
      rows = t.numbers.rows;
      text_at = t.starts.text;
      text = t.numbers.text;
      labels = t.numbers.labels;
      names = t.numbers.names;
    }

-- what is said of the file: 01's refusal of it, or where its tables lie
pub data TablesLie (f : List ℕ) : TablePlaces → Type 0 where
  refused : {x k : ℕ} → FileRefused Graph (ceilings Graph) f x k → TablesLie f (no_tables x k)
  found : FileAccepted Graph (ceilings Graph) f → TablesLie f (places_of (tables_of Graph f))

-- The parts of the file that a caller lends by these numbers: from each table's place on, the bytes of its rows.
abbrev pub lent : List ℕ → TablePlaces → Body
lent f r =
    body
    (between f r.nodes_at (r.nodes_at + (form Graph Nodes).width * r.nodes))
    (between f r.edges_at (r.edges_at + (form Graph Edges).width * r.edges))
    (between f r.rows_at (r.rows_at + row_width Graph * r.rows))
    (between f r.text_at (r.text_at + r.text))
