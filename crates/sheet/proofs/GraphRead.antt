-- The graph that the tables of a fair reading say is the graph of the sheet, and so is that of the file.
use mathlib.Core.Path.{◌≡◌, refl, sym, ap, ◌∙◌}
use mathlib.Core.List.{List, [], ◌∷◌, map}
use Prim.Native.Nat.{ℕ, zero, suc, ◌+◌, ◌-◌, ◌*◌, ◌<◌}
use native.Mathlib.Nat.{add-zero, not-suc-le-zero, le_of_suc-le-suc}
use native.Mathlib.Omega.{arith}
use lib.ListN.{length, get_or, length-map}
use lib.Seq.{ext_get_or, take-length}
use Rattle.meaning.specs.Model.{integer, real, date, text, Node, no_node, no_edge, node_in, edge_at}
use Rattle.meaning.specs.Bench as bench
use Rattle.layout.specs.Tables.{rows}
use Rattle.layout.specs.Files.{Body}
use Rattle.layout.specs.Value.{value_of, meant}
use Rattle.layout.specs.Graph.{property_of, object_of, node_of, edge_of, graph_of}
use Rattle.layout.proofs.RowsOf.{length_rows, get_d_rows}
use Rattle.writer.specs.GraphFile.{numbers_for, tables, file_of}
use Rattle.writer.proofs.ReadAgain.{same_values}
use Rattle.lines.specs.Sheet.{Reading}
use Rattle.sheet.specs.Graph.{angle, at, sheet_graph}
use Rattle.sheet.specs.Tables.{sheet_tables}
use Rattle.sheet.specs.Reads.{SheetFile}
use Rattle.sheet.proofs.Fair.{no_angle, Fair}
use Rattle.sheet.proofs.RowsRead.{PropertyRead}
use Rattle.sheet.proofs.SheetRows.{node_head, edge_labels, edge_target, serial_read, date_read, degrees_read, coefficient_read, sheet_numbers, numbers_are}
use Rattle.sheet.proofs.GoodRuns.{node_read, edge_read}
use Rattle.sheet.proofs.GoodTables.{sheet_writable}

-- ---- the sheet's graph, object by object

-- inside the list the value past its end is never met
get_d_map : {A B : Type 0} (f : A → B) (l : List A) (i : ℕ) (d : A) (z : B) → i < length l → get_or (map f l) i z ≡ f (get_or l i d)
get_d_map f [] i d z h = absurd (not-suc-le-zero h)
get_d_map f (x ∷ l) zero d z h = refl
get_d_map f (x ∷ l) (suc i) d z h = get_d_map f l i d z (le_of_suc-le-suc h)

-- "nodes Sensor, Run, then the angles in line order, edges OF, then one AT for each angle": what stands for angle line i
pub record AngleNode (r : Reading) (i : ℕ) : Type 0 where
  pub node : node_in (sheet_graph r).nodes (2 + i) ≡ angle (get_or r.angles i no_angle)
  pub edge : edge_at (sheet_graph r) (1 + i) ≡ at i

pub angle_node : (r : Reading) (i : ℕ) → i < length r.angles → AngleNode r i
angle_node r i h =
    let two : 2 + i ≡ suc (suc i) = omega arith in
    let one : 1 + i ≡ suc i = omega arith in
    record { node = rw two (get_d_map angle r.angles i no_angle no_node h); edge = rw one (get_d_rows (length r.angles) at no_edge i h) }

-- ---- what is read from the tables

-- rows are a list where they are as many, and each is what stands there
rows_are : {A : Type 0} (z : A) (n : ℕ) (say : ℕ → A) (l : List A) → length l ≡ n → ((i : ℕ) → i < n → say i ≡ get_or l i z) → rows n say ≡ l
rows_are z n say l e each =
    ext_get_or z (rows n say) l (length_rows n say ∙ sym e) (λ i h. let k : i < n = rw length_rows at h in get_d_rows n say z i k ∙ each i k)

-- a property as its row is read
property_is : (b : Body) {i n k l v : ℕ} → PropertyRead b.rows i n k l v → property_of b i ≡ bench.property n (meant b.text (value_of k l v))
property_is b p = rw (p.name, p.kind, p.len, p.bits)

module _ (r : Reading) (f : Fair r) where
  abbrev n : ℕ
  n = length r.angles

  abbrev b : Body
  b = sheet_tables r

  -- the serial is all of the text
  serial_is : property_of b 0 ≡ bench.property 0 (text r.serial)
  serial_is = let e : 0 + length r.serial - 0 ≡ length r.serial = omega arith in property_is b (serial_read r f) ∙ rw (e, take-length r.serial)

  date_is : property_of b 1 ≡ bench.property 1 (date r.date)
  date_is = property_is b (date_read r f)

  degrees_is : (i : ℕ) → i < n → property_of b (2 + 2 * i) ≡ bench.property 3 (integer (get_or r.angles i no_angle).degrees)
  degrees_is i h = property_is b (degrees_read r f i h) ∙ rw (f.each i h).degrees

  coefficient_is : (i : ℕ) → i < n → property_of b (2 + 2 * i + 1) ≡ bench.property 4 (real (get_or r.angles i no_angle).coefficient)
  coefficient_is i h = property_is b (coefficient_read r f i h) ∙ rw (f.each i h).coefficient

  -- each node has its run's properties
  object_is : (i : ℕ) → i < 2 + n → object_of b (node_head i) ≡ (node_in (sheet_graph r).nodes i).object
  unfolding rows
  object_is zero h = rw serial_is
  object_is (suc zero) h = rw date_is
  object_is (suc (suc i)) h =
      let l : i < n = omega arith in
      rw (get_d_map angle r.angles i no_angle no_node l, add-zero (2 + 2 * i), degrees_is i l, coefficient_is i l)

  node_is : (i : ℕ) → i < 2 + n → node_of b i ≡ node_in (sheet_graph r).nodes i
  node_is i h = ap {B = Node} (λ o. record { object = o }) (ap (object_of b) (node_read n i f.few h) ∙ object_is i h)

  edge_as_read : (e : ℕ) → e < 1 + n → edge_of b e ≡ bench.bare (edge_labels e) 1 (edge_target e)
  unfolding rows
  edge_as_read e h = let is = edge_read n e f.few h in cc (ap (object_of b) is.head, is.source, is.target)

  edge_there : (e : ℕ) → e < 1 + n → bench.bare (edge_labels e) 1 (edge_target e) ≡ edge_at (sheet_graph r) e
  edge_there zero h = refl
  edge_there (suc i) h = sym (get_d_rows n at no_edge i (omega arith))

  graph_is : (back : ℕ) → graph_of (sheet_numbers r back) b ≡ sheet_graph r
  graph_is back =
      let nodes = rows_are no_node (2 + n) (node_of b) (sheet_graph r).nodes (rw length-map (omega arith)) node_is in
      let edges = rows_are no_edge (1 + n) (edge_of b) (sheet_graph r).edges (rw length_rows (omega arith)) (λ e h. edge_as_read e h ∙ edge_there e h) in
      rw (nodes, edges)

pub sheet_graph_lem : (r : Reading) → Fair r → graph_of (numbers_for (sheet_tables r) 5 5) (sheet_tables r) ≡ sheet_graph r
sheet_graph_lem r f = let back = length (tables (sheet_tables r)) in ap (λ m. graph_of m (sheet_tables r)) (numbers_are r back) ∙ graph_is r f back

-- "Reading what was written gives the same values back": so the file of a sheet is accepted, and says the sheet's graph
pub sheet_file : (r : Reading) → Fair r → SheetFile r (file_of (sheet_tables r) 5 5)
sheet_file r f =
    let same = same_values (sheet_tables r) 5 5 (sheet_writable r f) in
    record { accepted = same.accepted; graph = same.graph ∙ sheet_graph_lem r f; text = ap (λ d. d.text) same.tables }
