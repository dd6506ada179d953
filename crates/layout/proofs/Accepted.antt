-- What acceptance gives the rules: ends that are nodes and names that rise in each record; what stands in each row, and how long each table is.
use mathlib.Core.Path.{◌≡◌, sym, ◌∙◌}
use mathlib.Core.Logic.{◌↔◌}
use mathlib.Core.List.{List}
use Prim.Native.Nat.{ℕ, ◌+◌, ◌-◌, ◌*◌, ◌≤◌, ◌<◌}
use native.Mathlib.Nat.{mul-le-mul_left}
use native.Mathlib.Omega.{arith}
use lib.ListN.{length, get_or, length-take, length-drop}
use Rattle.meaning.specs.Places.{Every}
use Rattle.meaning.specs.Model.{Object, Shape, no_node, no_edge, no_schema_node, no_schema_edge, no_property, no_listed, node_in, edge_at, property_at, listed_at, schema_node_in, schema_edge_at}
use Rattle.meaning.specs.Fits.{HasType}
use Rattle.meaning.specs.Loosen.{Closed}
use Rattle.meaning.specs.Join.{Ended}
use Rattle.layout.specs.declared.File.{File}
use Rattle.layout.specs.declared.File.TheVariants as file
use Rattle.layout.specs.declared.Sort.{Sort}
use Rattle.layout.specs.declared.Sort.TheVariants.{Nodes, Edges}
use Rattle.layout.specs.declared.Ceilings.{Ceilings}
use Rattle.layout.specs.declared.Trailer.{Trailer}
use Rattle.layout.specs.declared.Tables.{Tables}
use Rattle.layout.specs.declared.Head.{Head}
use Rattle.layout.specs.Tables.{rows}
use Rattle.layout.specs.Files.{form, row_width, body_size, starts, Body, Ordered, Full, body_at, before, numbers_of, tables_of, body_of}
use Rattle.layout.specs.Runs.{head_at, head_in, GoodHead, Rises, heads, name_at, start}
use Rattle.layout.specs.Graph.{kind_at, property_of, object_of, node_of, edge_of, graph_of}
use Rattle.layout.specs.Schema.{open_at, listed_of, shape_of, schema_node_of, schema_edge_of, schema_of}
use Rattle.layout.specs.Rows.{GoodProperty, OwnRow, count_of, table_of, GoodObject, GoodPropertyRow}
use Rattle.layout.specs.Refusals.{Passed, Sized, Marked, Held, Located, row_refusals, FileAccepted}
use Rattle.layout.proofs.RowsOf.{length_rows, get_d_rows, row_in_lem}
use Rattle.layout.proofs.Heads.{head_of_lem, object_below}
use Rattle.layout.proofs.Runs.{names_rise}
use Rattle.layout.proofs.Values.{kind_of}

-- the names of an object's properties rise, and those that a schema object lists
abbrev pub Rising : Object → Type 0
Rising o = Rises (length o.properties) (λ k. (property_at o k).name)

abbrev pub RisingShape : Shape → Type 0
RisingShape s = Rises (length s.listed) (λ k. (listed_at s k).name)

-- ---- what stands in the graph and in the schema, row by row

module _ (n : Trailer) (b : Body) where
  pub graph_node : (i : ℕ) → i < n.nodes → node_in (graph_of n b).nodes i ≡ node_of b i
  graph_node i h = get_d_rows n.nodes (node_of b) no_node i h

  pub graph_edge : (e : ℕ) → e < n.edges → edge_at (graph_of n b) e ≡ edge_of b e
  graph_edge e h = get_d_rows n.edges (edge_of b) no_edge e h

  pub schema_node : (i : ℕ) → i < n.nodes → schema_node_in (schema_of n b).nodes i ≡ schema_node_of b i
  schema_node i h = get_d_rows n.nodes (schema_node_of b) no_schema_node i h

  pub schema_edge : (e : ℕ) → e < n.edges → schema_edge_at (schema_of n b) e ≡ schema_edge_of b e
  schema_edge e h = get_d_rows n.edges (schema_edge_of b) no_schema_edge e h

  pub graph_nodes : length (graph_of n b).nodes ≡ n.nodes
  graph_nodes = length_rows _ _

  pub graph_edges : length (graph_of n b).edges ≡ n.edges
  graph_edges = length_rows _ _

  pub schema_nodes : length (schema_of n b).nodes ≡ n.nodes
  schema_nodes = length_rows _ _

  pub schema_edges : length (schema_of n b).edges ≡ n.edges
  schema_edges = length_rows _ _

module _ (b : Body) (h : Head) where
  pub object_row : (k : ℕ) → k < h.count → property_at (object_of b h) k ≡ property_of b (h.first + k)
  object_row k l = get_d_rows h.count (λ k. property_of b (h.first + k)) no_property k l

  pub object_rows : length (object_of b h).properties ≡ h.count
  object_rows = length_rows _ _

  module _ (o : ℕ) where
    pub shape_row : (k : ℕ) → k < h.count → listed_at (shape_of b h o) k ≡ listed_of b (h.first + k)
    shape_row k l = get_d_rows h.count (λ k. listed_of b (h.first + k)) no_listed k l

    pub shape_rows : length (shape_of b h o).listed ≡ h.count
    shape_rows = length_rows _ _

-- a good row has the type that its kind names
pub row_type : (T : ℕ) (b : Body) (r : ℕ) → GoodProperty T b.rows r → (t : ℕ) → HasType (property_of b r).value t ↔ (kind_at b.rows r ≡ t)
unfolding HasType
row_type T b r g t = let e = kind_of b.text g.value.1 in (λ h. sym e ∙ h, λ h. e ∙ h)

-- ---- the runs of good rows

module _ (F : File) (n : Trailer) (b : Body) where
  -- the label set and the run of object i of a sort
  abbrev pub own_head : Sort → ℕ → Head
  own_head o = head_at (form F o) (table_of F n b o)

  module _ (p : Passed (row_refusals F n b)) where
    pub good_object : (o : Sort) → Every (count_of F n b o) (GoodObject F n b o)
    good_object Nodes = p.0
    good_object Edges = p.1.0

    pub good_row : Every n.rows (GoodPropertyRow F n b)
    good_row = p.1.1.0

    -- a run ends inside the rows
    pub run_inside : (o : Sort) → Every (count_of F n b o) (λ i. (own_head o i).first + (own_head o i).count ≤ n.rows)
    run_inside o i h = rw (head_of_lem F n b o i h) at (good_object o i h).head.ends

    rises_at : (j : ℕ) → j < length (heads F n b) → GoodHead n (head_in (heads F n b) j) (start (heads F n b) j) → Rises (head_in (heads F n b) j).count (λ k. name_at F b.rows ((head_in (heads F n b) j).first + k))
    rises_at j h g k l m =
        let e : (head_in (heads F n b) j).first + (k - 1) ≡ (head_in (heads F n b) j).first + k - 1 = omega arith in
        rw e (names_rise (heads F n b) n.names (name_at F b.rows) (OwnRow F (length b.text) b.rows) good_row j h g k m l)

    -- "Within a run the names rise strictly."
    pub run_rises : (o : Sort) → Every (count_of F n b o) (λ i. Rises (own_head o i).count (λ k. name_at F b.rows ((own_head o i).first + k)))
    run_rises o i h = rw (head_of_lem F n b o i h) at (rises_at _ (object_below F n b o i h) (good_object o i h).head)

-- the same of a list that says these rows
pub rises_rows : {A : Type 0} (name : A → ℕ) (z : A) (n : ℕ) (at : ℕ → A) → Rises n (λ k. name (at k)) → Rises (length (rows n at)) (λ k. name (get_or (rows n at) k z))
rises_rows name z n at r k l m = let h : k < n = rw length_rows at l in rw (get_d_rows n at z (k - 1) (omega arith), get_d_rows n at z k h) (r k h m)

-- ---- the graph and the schema of good rows

module _ (n : Trailer) (b : Body) (p : Passed (row_refusals file.Graph n b)) where
  pub ended : Ended (graph_of n b)
  ended e h = let k : e < n.edges = rw length_rows at h in let g = (p.1.0 e k).own in rw (graph_edge n b e k, length_rows) (g.source, g.target)

  pub object_rises : (o : Sort) → Every (count_of file.Graph n b o) (λ i. Rising (object_of b (own_head file.Graph n b o i)))
  object_rises o i h = rises_rows (λ x. x.name) no_property _ (λ k. property_of b ((own_head file.Graph n b o i).first + k)) (run_rises file.Graph n b p o i h)

  pub nodes_rise : Every (length (graph_of n b).nodes) (λ i. Rising (node_in (graph_of n b).nodes i).object)
  nodes_rise i h = let k : i < n.nodes = rw length_rows at h in rw (graph_node n b i k) (object_rises Nodes i k)

  pub edges_rise : Every (length (graph_of n b).edges) (λ e. Rising (edge_at (graph_of n b) e).object)
  edges_rise e h = let k : e < n.edges = rw length_rows at h in rw (graph_edge n b e k) (object_rises Edges e k)

module _ (n : Trailer) (b : Body) (p : Passed (row_refusals file.Schema n b)) where
  pub closed : Closed (schema_of n b)
  closed e h = let k : e < n.edges = rw length_rows at h in let g = (p.1.0 e k).own.ends in rw (schema_edge n b e k, length_rows) (g.source, g.target)

  pub shape_rises : (o : Sort) → Every (count_of file.Schema n b o) (λ i. RisingShape (shape_of b (own_head file.Schema n b o i) (open_at o (table_of file.Schema n b o) i)))
  shape_rises o i h = rises_rows (λ x. x.name) no_listed _ (λ k. listed_of b ((own_head file.Schema n b o i).first + k)) (run_rises file.Schema n b p o i h)

  pub schema_nodes_rise : Every (length (schema_of n b).nodes) (λ i. RisingShape (schema_node_in (schema_of n b).nodes i).shape)
  schema_nodes_rise i h = let k : i < n.nodes = rw length_rows at h in rw (schema_node n b i k) (shape_rises Nodes i k)

  pub schema_edges_rise : Every (length (schema_of n b).edges) (λ e. RisingShape (schema_edge_at (schema_of n b) e).shape)
  schema_edges_rise e h = let k : e < n.edges = rw length_rows at h in rw (schema_edge n b e k) (shape_rises Edges e k)

-- ---- the tables of a file

-- rows of full tables stand in them
module _ {F : File} {n : Trailer} {b : Body} (full : Full F n b) where
  pub object_there : (o : Sort) (i : ℕ) → i < count_of F n b o → (form F o).width * i + (form F o).width ≤ length (table_of F n b o)
  object_there Nodes i h = rw full.nodes (row_in_lem (form F Nodes).width i n.nodes h)
  object_there Edges i h = rw full.edges (row_in_lem (form F Edges).width i n.edges h)

  pub rows_there : (e : ℕ) → e ≤ n.rows → row_width F * e ≤ length b.rows
  rows_there e h = rw full.rows (mul-le-mul_left (row_width F) h)

-- where the body that stands from place s on ends inside the file
pub tables_full : (F : File) (n : Trailer) (f : List ℕ) (s : ℕ) → s + body_size F n ≤ length f → Full F n (body_at f (starts F n s))
tables_full F n f s h =
    record {
      nodes = simp (length-take, length-drop) (omega arith);
      edges = simp (length-take, length-drop) (omega arith);
      rows = simp (length-take, length-drop) (omega arith);
      text = simp (length-take, length-drop) (omega arith);
    }

module _ (F : File) (f : List ℕ) where
  pub tables_ordered : {t : Tables} → t ≡ tables_of F f → Located F (numbers_of F f) (before F f) → Ordered t.starts (length f)
  tables_ordered e l = rw e (omega arith)

  pub body_full : Located F (numbers_of F f) (before F f) → Full F (numbers_of F f) (body_of F f)
  body_full l = tables_full F (numbers_of F f) f _ (omega arith)

  -- what an accepted file is, refusal by refusal
  module _ (c : Ceilings) (p : FileAccepted F c f) where
    pub sized : Sized F c f
    sized = p.0 0 (omega arith)

    pub marked : Marked F f
    marked = p.1.0 0 (omega arith)

    pub held : Held c (numbers_of F f)
    held = p.1.1.0 0 (omega arith)

    pub located : Located F (numbers_of F f) (before F f)
    located = p.1.1.1.0 0 (omega arith)

    pub rows_good : Passed (row_refusals F (numbers_of F f) (body_of F f))
    rows_good = p.1.1.1.1

    pub accepted_full : Full F (numbers_of F f) (body_of F f)
    accepted_full = body_full located
