-- The graph that a graph file's tables say (01, "Graph body").
use Rattle.std.specs.Prelude.{List, ℕ, ◌+◌, ◌*◌}
use Rattle.little.specs.Little.{little}
use Rattle.meaning.specs.Model.{Property, Object, Node, Edge, Graph}
use Rattle.layout.specs.declared.File.TheVariants as file
use Rattle.layout.specs.declared.Sort.TheVariants.{Nodes, Edges}
use Rattle.layout.specs.declared.Trailer.{Trailer}
use Rattle.layout.specs.declared.Head.{Head}
use Rattle.layout.specs.Tables.{rows}
use Rattle.layout.specs.Files.{Body, form, source_at, target_at, row_width}
use Rattle.layout.specs.Runs.{head_at, name_at}
use Rattle.layout.specs.Value.{value_of, meant}

-- "Property row, 16 bytes: name (16), kind (8), zero (8), length (32), value (64)."
abbrev pub kind_at : List ℕ → ℕ → ℕ
kind_at t r = little 1 t (row_width file.Graph * r + 2)

abbrev pub zero_at : List ℕ → ℕ → ℕ
zero_at t r = little 1 t (row_width file.Graph * r + 3)

abbrev pub length_at : List ℕ → ℕ → ℕ
length_at t r = little 4 t (row_width file.Graph * r + 4)

abbrev pub bits_at : List ℕ → ℕ → ℕ
bits_at t r = little 8 t (row_width file.Graph * r + 8)

module _ (b : Body) where
  abbrev pub property_of : ℕ → Property
  property_of r = record { name = name_at file.Graph b.rows r; value = meant b.text (value_of (kind_at b.rows r) (length_at b.rows r) (bits_at b.rows r)) }

  -- "An object's property rows are a run."
  abbrev pub object_of : Head → Object
  object_of h = record { labels = h.labels; properties = rows h.count (λ k. property_of (h.first + k)) }

  abbrev pub node_of : ℕ → Node
  node_of i = record { object = object_of (head_at (form file.Graph Nodes) b.nodes i) }

  abbrev pub edge_of : ℕ → Edge
  edge_of e =
      record {
        object = object_of (head_at (form file.Graph Edges) b.edges e);
        source = source_at file.Graph b.edges e;
        target = target_at file.Graph b.edges e;
      }

abbrev pub graph_of : Trailer → Body → Graph
graph_of n b = record { nodes = rows n.nodes (node_of b); edges = rows n.edges (edge_of b) }
