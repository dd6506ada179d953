-- The tables and the file of two graph files joined (02, Ask 7: "a joiner that writes one file without preface from two graph files").
use Rattle.std.specs.Prelude.{List, ◌++◌, ℕ, ◌+◌, ◌*◌, max, take, drop}
use Rattle.layout.specs.declared.File.TheVariants.{Graph}
use Rattle.layout.specs.declared.Trailer.{Trailer}
use Rattle.layout.specs.Files.{row_width, Body, body, numbers_of, body_of}
use Rattle.layout.specs.Runs.{start, heads}
use Rattle.writer.specs.GraphFile.{file_of}
use Rattle.join.specs.Moved.{moved_nodes, moved_edges, moved_rows}

-- how many property rows are the nodes': as many as stand before the first edge's run
abbrev pub node_rows : Trailer → Body → ℕ
node_rows n b = start (heads Graph n b) n.nodes

-- the property rows of the nodes, and those of the edges, in a table r of them
module _ (n : Trailer) (b : Body) (r : List ℕ) where
  abbrev pub rows_of_nodes : List ℕ
  rows_of_nodes = take (row_width Graph * node_rows n b) r

  abbrev pub rows_of_edges : List ℕ
  rows_of_edges = drop (row_width Graph * node_rows n b) r

-- n and a are the numbers and the tables of the first file, m and b those of the second
module _ (n : Trailer) (a : Body) (m : Trailer) (b : Body) where
  -- "the second's nodes after the first's": their runs stand behind those of the first's nodes
  abbrev pub joined_nodes : List ℕ
  joined_nodes = a.nodes ++ moved_nodes (node_rows n a) m.nodes b.nodes

  -- "its edges likewise, ends renumbered": the second's ends by as many nodes as the first has. The runs of the first's edges stand behind those of the
  -- second's nodes, the runs of the second's edges behind all of the first's rows
  abbrev pub joined_edges : List ℕ
  joined_edges = moved_edges 0 (node_rows m b) n.edges a.edges ++ moved_edges n.nodes n.rows m.edges b.edges

  -- "text appended and its offsets moved"
  abbrev pub joined_text : List ℕ
  joined_text = a.text ++ b.text

  abbrev pub second_rows : List ℕ
  second_rows = moved_rows n.text m.rows b.rows

  -- "property runs in the order of the new rows": the first's nodes', the second's nodes', the first's edges', the second's edges'
  abbrev pub joined_rows : List ℕ
  joined_rows = rows_of_nodes n a a.rows ++ rows_of_nodes m b second_rows ++ rows_of_edges n a a.rows ++ rows_of_edges m b second_rows

  abbrev pub joined_body : Body
  joined_body = body joined_nodes joined_edges joined_rows joined_text

-- the numbers of the joined file
abbrev pub joined_numbers : Trailer → Trailer → Trailer
joined_numbers n m =
    record {
      nodes = n.nodes + m.nodes;
      edges = n.edges + m.edges;
      rows = n.rows + m.rows;
      text = n.text + m.text;
      -- "the greater of the label counts and of the name counts"
      labels = max n.labels m.labels;
      names = max n.names m.names;
      back = n.back + m.back;
    }

-- of two files
module _ (f g : List ℕ) where
  abbrev pub joined_tables : Body
  joined_tables = joined_body (numbers_of Graph f) (body_of Graph f) (numbers_of Graph g) (body_of Graph g)

  abbrev pub numbers_of_both : Trailer
  numbers_of_both = joined_numbers (numbers_of Graph f) (numbers_of Graph g)

  -- "one file without preface"
  abbrev pub joined_file : List ℕ
  joined_file = file_of joined_tables numbers_of_both.labels numbers_of_both.names
