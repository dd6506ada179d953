-- The schema that a schema file's tables say (01, "Schema body").
use Rattle.std.specs.Prelude.{Bool, cond, List, ℕ, ◌+◌, ◌*◌, eqb}
use Rattle.little.specs.Little.{little}
use Rattle.meaning.specs.Model.{Listed, Shape, Maximum, up_to, any, Interval, SchemaNode, SchemaEdge, Schema}
use Rattle.layout.specs.declared.File.TheVariants as file
use Rattle.layout.specs.declared.Sort.{Sort}
use Rattle.layout.specs.declared.Sort.TheVariants.{Nodes, Edges}
use Rattle.layout.specs.declared.Trailer.{Trailer}
use Rattle.layout.specs.declared.Head.{Head}
use Rattle.layout.specs.Tables.{rows}
use Rattle.layout.specs.Files.{Body, form, source_at, target_at, row_width}
use Rattle.layout.specs.Runs.{head_at, name_at}

-- "Schema property row, 4 bytes: name (16), type (8), flag (8): 0 mandatory, 1 optional."
abbrev pub type_at : List ℕ → ℕ → ℕ
type_at t r = little 1 t (row_width file.Schema * r + 2)

abbrev pub flag_at : List ℕ → ℕ → ℕ
flag_at t r = little 1 t (row_width file.Schema * r + 3)

-- "count (16), open (16)": after the run
abbrev pub open_at : Sort → List ℕ → ℕ → ℕ
open_at o t i = little 2 t ((form file.Schema o).width * i + (form file.Schema o).run + 6)

-- "source minimum, source maximum, target minimum, target maximum (32 each)": k from 0 to 3
abbrev pub bound_at : List ℕ → ℕ → ℕ → ℕ
bound_at t e k = little 4 t ((form file.Schema Edges).width * e + 24 + 4 * k)

-- a flag that is 1
abbrev pub is_set : ℕ → Bool
is_set n = eqb n 1

-- "4,294,967,295 for 'any'"
abbrev pub maximum_of : ℕ → Maximum
maximum_of m = cond (eqb m 4294967295) any (up_to m)

abbrev pub interval_of : ℕ → ℕ → Interval
interval_of a m = record { minimum = a; maximum = maximum_of m }

module _ (b : Body) where
  abbrev pub listed_of : ℕ → Listed
  listed_of r = record { name = name_at file.Schema b.rows r; type = type_at b.rows r; optional = is_set (flag_at b.rows r) }

  abbrev pub shape_of : Head → ℕ → Shape
  shape_of h o = record { labels = h.labels; listed = rows h.count (λ k. listed_of (h.first + k)); open? = is_set o }

  abbrev pub schema_node_of : ℕ → SchemaNode
  schema_node_of i = record { shape = shape_of (head_at (form file.Schema Nodes) b.nodes i) (open_at Nodes b.nodes i) }

  abbrev pub schema_edge_of : ℕ → SchemaEdge
  schema_edge_of e =
      record {
        shape = shape_of (head_at (form file.Schema Edges) b.edges e) (open_at Edges b.edges e);
        source = source_at file.Schema b.edges e;
        target = target_at file.Schema b.edges e;
        sources = interval_of (bound_at b.edges e 0) (bound_at b.edges e 1);
        targets = interval_of (bound_at b.edges e 2) (bound_at b.edges e 3);
      }

abbrev pub schema_of : Trailer → Body → Schema
schema_of n b = record { nodes = rows n.nodes (schema_node_of b); edges = rows n.edges (schema_edge_of b) }
