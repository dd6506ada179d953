-- Which rows are good (01, the table of refusals, codes 6 to 8 and 13 to 15).
use Rattle.std.specs.Prelude.{◌≡◌, ◌⊎◌, List, ℕ, ◌+◌, ◌≤◌, ◌<◌, length}
use Rattle.layout.specs.declared.File.{File}
use Rattle.layout.specs.declared.File.TheVariants.{Graph, Schema}
use Rattle.layout.specs.declared.Sort.{Sort}
use Rattle.layout.specs.declared.Sort.TheVariants.{Nodes, Edges}
use Rattle.layout.specs.declared.Trailer.{Trailer}
use Rattle.layout.specs.Files.{of, source_at, target_at, Body}
use Rattle.layout.specs.Runs.{head_in, start, heads, GoodHead, GoodRow, name_at}
use Rattle.layout.specs.Value.{HasValue}
use Rattle.layout.specs.Graph.{kind_at, zero_at, length_at, bits_at}
use Rattle.layout.specs.Schema.{type_at, flag_at, open_at, bound_at}

-- "A minimum is at most 65,535; a maximum is at most 65,535, or 4,294,967,295 for 'any'"; "minimum above maximum" is bad
pub record GoodInterval (a m : ℕ) : Type 0 where
  pub minimum : a ≤ 65535
  pub maximum : (m ≤ 65535) ⊎ (m ≡ 4294967295)
  pub ordered : a ≤ m

-- What is asked of a node row or an edge row besides its head. "An end not below the node count" is bad in both files.
pub record GoodEnds (F : File) (nodes : ℕ) (t : List ℕ) (e : ℕ) : Type 0 where
  pub source : source_at F t e < nodes
  pub target : target_at F t e < nodes

-- "schema also: open not 0 or 1", "schema also: minimum or maximum not allowed, or minimum above maximum"
pub record GoodSchemaEdge (nodes : ℕ) (t : List ℕ) (e : ℕ) : Type 0 where
  pub ends : GoodEnds Schema nodes t e
  pub open? : open_at Edges t e ≤ 1
  pub sources : GoodInterval (bound_at t e 0) (bound_at t e 1)
  pub targets : GoodInterval (bound_at t e 2) (bound_at t e 3)

abbrev pub OwnObject : File → Sort → ℕ → List ℕ → ℕ → Type 0
OwnObject Graph Nodes nodes t i = Unit {0}
OwnObject Graph Edges nodes t e = GoodEnds Graph nodes t e
OwnObject Schema Nodes nodes t i = open_at Nodes t i ≤ 1
OwnObject Schema Edges nodes t e = GoodSchemaEdge nodes t e

-- What is asked of a property row alone. "graph also: zero byte, length, value or text part wrong"; T is the number of text bytes
pub record GoodProperty (T : ℕ) (t : List ℕ) (r : ℕ) : Type 0 where
  pub zero : zero_at t r ≡ 0
  pub value : HasValue T (kind_at t r) (length_at t r) (bits_at t r)

-- "kind, type or flag unknown"
pub record GoodListed (t : List ℕ) (r : ℕ) : Type 0 where
  pub least_type : 1 ≤ type_at t r
  pub most_type : type_at t r ≤ 5
  pub flag : flag_at t r ≤ 1

abbrev pub OwnRow : File → ℕ → List ℕ → ℕ → Type 0
OwnRow Graph T t r = GoodProperty T t r
OwnRow Schema T t r = GoodListed t r

module _ (F : File) (n : Trailer) (b : Body) where
  -- how many rows the table has, its bytes, and which of all objects its first row is: the nodes come first
  abbrev pub count_of : Sort → ℕ
  count_of o = of o n.nodes n.edges

  abbrev pub table_of : Sort → List ℕ
  table_of o = of o b.nodes b.edges

  abbrev pub first_of : Sort → ℕ
  first_of o = of o 0 n.nodes

  -- 6 / 13 "node row: label bit at or above the label count, run start wrong or run past the rows; schema also: open not 0 or 1"
  -- 7 / 14 "edge row: the same; or an end not below the node count; schema also: minimum or maximum not allowed, or minimum above maximum"
  pub record GoodObject (o : Sort) (i : ℕ) : Type 0 where
    pub head : GoodHead n (head_in (heads F n b) (first_of o + i)) (start (heads F n b) (first_of o + i))
    pub own : OwnObject F o n.nodes (table_of o) i

  -- 8 / 15 "property row: in no run, name at or above the name count, name not above the one before it in its run, kind, type or flag unknown; graph also: .."
  abbrev pub GoodPropertyRow : ℕ → Type 0
  GoodPropertyRow = GoodRow (heads F n b) n.names (name_at F b.rows) (OwnRow F (length b.text) b.rows)
