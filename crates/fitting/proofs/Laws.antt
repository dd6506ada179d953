-- What stands in accepted tables, for the record test.
use mathlib.Core.Path.{◌≡◌, ap}
use mathlib.Core.Logic.{◌↔◌}
use Prim.Native.Nat.{ℕ, ◌+◌, ◌≤◌, ◌<◌}
use native.Mathlib.Omega.{arith}
use Rattle.meaning.specs.Fits.{SameLabels}
use Rattle.layout.specs.declared.File.TheVariants as file
use Rattle.layout.specs.declared.Sort.{Sort}
use Rattle.layout.specs.declared.Sort.TheVariants.{Nodes, Edges}
use Rattle.layout.specs.declared.Trailer.{Trailer}
use Rattle.layout.specs.Files.{of, form, ceilings, most_nodes, most_edges, most_schema_edges, Body, Full, body_in}
use Rattle.layout.specs.Refusals.{Passed, row_refusals}
use Rattle.layout.specs.Runs.{head_at}
use Rattle.layout.specs.Graph.{object_of, graph_of}
use Rattle.layout.specs.Schema.{open_at, shape_of, schema_of}
use Rattle.layout.proofs.Accepted.{graph_node, graph_edge, schema_node, schema_edge, run_inside, run_rises, good_row}
use Rattle.records.specs.Record.{Runs}
use Rattle.parts.specs.declared.pair.Pair.{Pair}
use Rattle.parts.proofs.Laws.{graph_good, schema_good}
use Rattle.fitting.specs.Objects.{object_in, shape_in}

-- good tables of a graph (n, b) and of a schema (m, d), with counts under 01's ceilings
pub record Sound (n : Trailer) (b : Body) (m : Trailer) (d : Body) : Type 0 where
  pub graph : Passed (row_refusals file.Graph n b)
  pub graph_full : Full file.Graph n b
  pub schema : Passed (row_refusals file.Schema m d)
  pub schema_full : Full file.Schema m d
  pub nodes : n.nodes ≤ most_nodes
  pub edges : n.edges ≤ most_edges
  pub schema_nodes : m.nodes ≤ (ceilings file.Schema).nodes
  pub schema_edges : m.edges ≤ most_schema_edges

-- the two files of a check are such tables
pub sound : (p : Pair) → Sound p.graph.numbers (body_in p.graph.bytes) p.schema.numbers (body_in p.schema.bytes)
sound p =
    let g = graph_good p in
    let s = schema_good p in
    record {
      graph = g.rows;
      graph_full = g.full;
      schema = s.rows;
      schema_full = s.full;
      nodes = g.held.nodes;
      edges = g.held.edges;
      schema_nodes = s.held.nodes;
      schema_edges = s.held.edges;
    }

module _ (n : Trailer) (b : Body) where
  pub object_is : (o : Sort) (i : ℕ) → i < of o n.nodes n.edges → object_in (graph_of n b) o i ≡ object_of b (head_at (form file.Graph o) (of o b.nodes b.edges) i)
  object_is Nodes i h = ap (λ x. x.object) (graph_node n b i h)
  object_is Edges i h = ap (λ x. x.object) (graph_edge n b i h)

  pub shape_is :
      (o : Sort) (j : ℕ) → j < of o n.nodes n.edges
      → shape_in (schema_of n b) o j ≡ shape_of b (head_at (form file.Schema o) (of o b.nodes b.edges) j) (open_at o (of o b.nodes b.edges) j)
  shape_is Nodes j h = ap (λ x. x.shape) (schema_node n b j h)
  shape_is Edges j h = ap (λ x. x.shape) (schema_edge n b j h)

-- the label sets are those of the heads
pub labels_iff :
    (n : Trailer) (b : Body) (m : Trailer) (d : Body) (o : Sort) (i j : ℕ) → i < of o n.nodes n.edges → j < of o m.nodes m.edges
    → ((head_at (form file.Graph o) (of o b.nodes b.edges) i).labels ≡ (head_at (form file.Schema o) (of o d.nodes d.edges) j).labels)
    ↔ SameLabels (object_in (graph_of n b) o i) (shape_in (schema_of m d) o j)
unfolding SameLabels
labels_iff n b m d o i j h k = rw (object_is n b o i h, shape_is m d o j k) ((λ x. x), (λ x. x))

-- the runs of two objects stand in their tables, the names rise in both, and the object's rows have values
pub runs :
    {n : Trailer} {b : Body} {m : Trailer} {d : Body} → Sound n b m d → (o : Sort) (i j : ℕ) → i < of o n.nodes n.edges → j < of o m.nodes m.edges
    → Runs b.rows b.text (head_at (form file.Graph o) (of o b.nodes b.edges) i) d.rows (head_at (form file.Schema o) (of o d.nodes d.edges) j)
runs {n} {b} {m} {d} r o i j k l =
    let inside = run_inside file.Graph n b r.graph o i k in
    let listed = run_inside file.Schema m d r.schema o j l in
    let rows = r.graph_full.rows in
    let lists = r.schema_full.rows in
    record {
      object = omega arith;
      object_rises = run_rises file.Graph n b r.graph o i k;
      values = λ p q. (good_row file.Graph n b r.graph ((head_at (form file.Graph o) (of o b.nodes b.edges) i).first + p) (omega arith)).good.own;
      shape = omega arith;
      shape_rises = run_rises file.Schema m d r.schema o j l;
    }
