-- Nodes and edges by sort.
use Rattle.std.specs.Prelude.{ℕ}
use Rattle.meaning.specs.Model.{Object, Shape, Graph, Schema, node_in, edge_at, schema_node_in, schema_edge_at}
use Rattle.layout.specs.declared.Sort.{Sort}
use Rattle.layout.specs.declared.Sort.TheVariants.{Nodes, Edges}

-- node or edge i of a graph; schema node or schema edge j of a schema
abbrev pub object_in : Graph → Sort → ℕ → Object
object_in G Nodes i = (node_in G.nodes i).object
object_in G Edges e = (edge_at G e).object

abbrev pub shape_in : Schema → Sort → ℕ → Shape
shape_in S Nodes j = (schema_node_in S.nodes j).shape
shape_in S Edges s = (schema_edge_at S s).shape
