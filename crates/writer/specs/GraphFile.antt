-- A graph file without preface, made of its tables (01, "The two files").
use Rattle.std.specs.Prelude.{List, ◌++◌, ℕ, ◌-◌, ◌/◌, length, drop}
use Rattle.little.specs.Little.{bytes}
use Rattle.layout.specs.declared.File.TheVariants.{Graph}
use Rattle.layout.specs.declared.Sort.TheVariants.{Nodes, Edges}
use Rattle.layout.specs.declared.Trailer.{Trailer}
use Rattle.layout.specs.Files.{form, row_width, mark, Body, before, numbers_of}

-- "Graph body, in this order: .. Node row, .. Edge row, .. Property row, .. Text bytes"
abbrev pub tables : Body → List ℕ
tables b = b.nodes ++ b.edges ++ b.rows ++ b.text

-- the numbers that tables give with a label count and a name count: as many rows as their bytes are
abbrev pub counted : Body → ℕ → ℕ → ℕ → Trailer
counted b labels names back =
    record {
      nodes = length b.nodes / (form Graph Nodes).width;
      edges = length b.edges / (form Graph Edges).width;
      rows = length b.rows / row_width Graph;
      text = length b.text;
      labels = labels;
      names = names;
      back = back;
    }

-- "its field 'back' is the distance from its first byte to the body's first byte": the trailer follows the tables
abbrev pub numbers_for : Body → ℕ → ℕ → Trailer
numbers_for b labels names = counted b labels names (length (tables b))

-- "nodes N (32), edges E (32), property rows P (32), text bytes T (32)"
abbrev pub counts : Trailer → List ℕ
counts n = bytes 4 n.nodes ++ bytes 4 n.edges ++ bytes 4 n.rows ++ bytes 4 n.text

-- "Graph trailer, 28 bytes: .., label count (16), name count (16), back (32), the bytes 47 50 48 31"
abbrev pub trailer : Trailer → List ℕ
trailer n = counts n ++ bytes 2 n.labels ++ bytes 2 n.names ++ bytes 4 n.back ++ mark Graph

-- "a body, and a trailer at the end", and no preface
abbrev pub file_of : Body → ℕ → ℕ → List ℕ
file_of b labels names = tables b ++ trailer (numbers_for b labels names)

-- "without its preface": from the body's first byte on
abbrev pub without_preface : List ℕ → List ℕ
without_preface f = drop (before Graph f - (numbers_of Graph f).back) f
