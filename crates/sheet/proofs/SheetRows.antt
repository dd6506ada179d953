-- What stands in each row of a sheet's tables, and how many rows they have.
use mathlib.Core.Path.{◌≡◌, refl}
use mathlib.Core.List.{List, [], ◌∷◌, ◌++◌}
use Prim.Native.Nat.{ℕ, zero, suc, ◌+◌, ◌*◌, ◌/◌, ◌^◌, ◌<◌}
use native.Mathlib.Nat.{not-suc-le-zero, le_of_suc-le-suc}
use native.Mathlib.Omega.{arith}
use lib.ListN.{length, get_or}
use lib.Ieee.{binary64, to_bits}
use Rattle.meaning.specs.Bench as bench
use Rattle.layout.specs.declared.Trailer.{Trailer}
use Rattle.layout.specs.declared.Head.{Head}
use Rattle.layout.specs.Date.{IsDate}
use Rattle.layout.specs.Files.{body}
use Rattle.layout.proofs.Dates.{short_month}
use Rattle.writer.specs.GraphFile.{counted}
use Rattle.lines.specs.declared.Angle.{Angle}
use Rattle.lines.specs.Sheet.{Reading}
use Rattle.sheet.specs.Tables.{node_row, edge_row, property_row, twos, angle_rows, all_angle_rows, node_table, edge_table, row_table, sheet_tables}
use Rattle.sheet.proofs.Fair.{no_angle, Fair}
use Rattle.writer.specs.TableRows.{rows_up_to}
use Rattle.writer.proofs.TableRows.{Row, first_row, rows_before, length_up_to, row_up_to}
use Rattle.sheet.proofs.RowsRead.{head_of, PropertyRead, property_fields}

-- ---- nodes: Sensor, Run, then the angles

abbrev pub node_head : ℕ → Head
node_head zero = head_of bench.Sensor 0 1
node_head (suc zero) = head_of bench.Run 1 1
node_head (suc (suc i)) = head_of bench.Angle (2 + 2 * i) 2

abbrev angle_node : ℕ → List ℕ
angle_node i = node_row bench.Angle (2 + 2 * i) 2

pub node_row_lem : (n i : ℕ) → i < 2 + n → Row 16 (node_table n) i (node_row (node_head i).labels (node_head i).first (node_head i).count)
node_row_lem n zero h = first_row 16 (node_row bench.Sensor 0 1) (node_row bench.Run 1 1 ++ rows_up_to n angle_node)
node_row_lem n (suc zero) h = rows_before (first_row 16 (node_row bench.Run 1 1) (rows_up_to n angle_node)) (node_row bench.Sensor 0 1) 1 refl
node_row_lem n (suc (suc i)) h =
    let e : suc (suc i) ≡ 2 + i = omega arith in
    rw e (rows_before (row_up_to 16 angle_node n (λ i h. refl) i (omega arith)) (node_row bench.Sensor 0 1 ++ node_row bench.Run 1 1) 2 refl)

pub nodes_length : (n : ℕ) → length (node_table n) ≡ 16 * (2 + n)
nodes_length n = omega (arith, length_up_to 16 angle_node n (λ i h. refl))

-- ---- edges: OF, then an AT for each angle

abbrev pub edge_labels : ℕ → ℕ
edge_labels zero = bench.OF
edge_labels (suc i) = bench.AT

abbrev pub edge_target : ℕ → ℕ
edge_target zero = 0
edge_target (suc i) = 2 + i

pub edge_row_lem : (n e : ℕ) → e < 1 + n → Row 24 (edge_table n) e (edge_row (edge_labels e) 1 (edge_target e) (2 + 2 * n) 0)
edge_row_lem n zero h = first_row 24 (edge_row bench.OF 1 0 (2 + 2 * n) 0) (rows_up_to n (λ i. edge_row bench.AT 1 (2 + i) (2 + 2 * n) 0))
edge_row_lem n (suc i) h =
    let e : suc i ≡ 1 + i = omega arith in
    rw e (rows_before (row_up_to 24 (λ i. edge_row bench.AT 1 (2 + i) (2 + 2 * n) 0) n (λ i h. refl) i (omega arith)) (edge_row bench.OF 1 0 (2 + 2 * n) 0) 1 refl)

pub edges_length : (n : ℕ) → length (edge_table n) ≡ 24 * (1 + n)
edges_length n = omega (arith, length_up_to 24 (λ i. edge_row bench.AT 1 (2 + i) (2 + 2 * n) 0) n (λ i h. refl))

-- ---- property rows: serial, date, then degrees and coefficient of each angle

abbrev degrees_row : Angle → List ℕ
degrees_row a = property_row 3 2 0 (twos a.degrees)

abbrev coefficient_row : Angle → List ℕ
coefficient_row a = property_row 4 3 0 (to_bits binary64 a.coefficient)

-- an angle's two rows, among those of all angles
angle_rows_lem : (all : List Angle) (i : ℕ) → i < length all → Row 16 (all_angle_rows all) (2 * i) (degrees_row (get_or all i no_angle)) × Row 16 (all_angle_rows all) (2 * i + 1) (coefficient_row (get_or all i no_angle))
angle_rows_lem [] i h = absurd (not-suc-le-zero h)
angle_rows_lem (a ∷ more) zero h = (
  first_row 16 (degrees_row a) (coefficient_row a ++ all_angle_rows more),
  rows_before (first_row 16 (coefficient_row a) (all_angle_rows more)) (degrees_row a) 1 refl,
)
angle_rows_lem (a ∷ more) (suc i) h =
    let d = angle_rows_lem more i (le_of_suc-le-suc h) in
    let low : 2 * suc i ≡ 2 + 2 * i = omega arith in
    let high : 2 + 2 * i + 1 ≡ 2 + (2 * i + 1) = omega arith in
    (rw low (rows_before d.0 (angle_rows a) 2 refl), rw (low, high) (rows_before d.1 (angle_rows a) 2 refl))

pub angles_length : (all : List Angle) → length (all_angle_rows all) ≡ 32 * length all
angles_length [] = refl
angles_length (a ∷ more) = omega (arith, angles_length more)

pub rows_length : (r : Reading) → length (row_table r) ≡ 16 * (2 + 2 * length r.angles)
rows_length r = omega (arith, angles_length r.angles)

-- a date is a number of far fewer than 64 bits
date_bits : {d : ℕ} → IsDate d → d < 256 ^ 8
date_bits d = omega (arith, short_month d.days)

module _ (r : Reading) (f : Fair r) where
  pub serial_read : PropertyRead (row_table r) 0 0 5 (length r.serial) 0
  serial_read =
      property_fields (omega arith) (omega arith) (omega arith) (omega arith)
      (first_row 16 (property_row 0 5 (length r.serial) 0) (property_row 1 4 0 r.date ++ all_angle_rows r.angles))

  pub date_read : PropertyRead (row_table r) 1 1 4 0 r.date
  date_read =
      property_fields (omega arith) (omega arith) (omega arith) (date_bits f.date)
      (rows_before (first_row 16 (property_row 1 4 0 r.date) (all_angle_rows r.angles)) (property_row 0 5 (length r.serial) 0) 1 refl)

  module _ (i : ℕ) (h : i < length r.angles) where
    pub degrees_read : PropertyRead (row_table r) (2 + 2 * i) 3 2 0 (twos (get_or r.angles i no_angle).degrees)
    degrees_read =
        property_fields (omega arith) (omega arith) (omega arith) (f.each i h).degrees_bits
        (rows_before (angle_rows_lem r.angles i h).0 (property_row 0 5 (length r.serial) 0 ++ property_row 1 4 0 r.date) 2 refl)

    pub coefficient_read : PropertyRead (row_table r) (2 + 2 * i + 1) 4 3 0 (to_bits binary64 (get_or r.angles i no_angle).coefficient)
    coefficient_read =
        let e : 2 + 2 * i + 1 ≡ 2 + (2 * i + 1) = omega arith in
        property_fields (omega arith) (omega arith) (omega arith) (f.each i h).coefficient_bits
        (rw e (rows_before (angle_rows_lem r.angles i h).1 (property_row 0 5 (length r.serial) 0 ++ property_row 1 4 0 r.date) 2 refl))

-- ---- the counts

-- of n angles, with so many text bytes
abbrev pub numbers_with : ℕ → ℕ → ℕ → Trailer
numbers_with n text back = record { nodes = 2 + n; edges = 1 + n; rows = 2 + 2 * n; text = text; labels = 5; names = 5; back = back }

pub counted_are : (n : ℕ) (rows text : List ℕ) → length rows ≡ 16 * (2 + 2 * n) → (back : ℕ) → counted (body (node_table n) (edge_table n) rows text) 5 5 back ≡ numbers_with n (length text) back
counted_are n rows text l back =
    let nodes : length (node_table n) / 16 ≡ 2 + n = omega (arith, nodes_length n) in
    let edges : length (edge_table n) / 24 ≡ 1 + n = omega (arith, edges_length n) in
    let all : length rows / 16 ≡ 2 + 2 * n = omega arith in
    rw (nodes, edges, all)

abbrev pub sheet_numbers : Reading → ℕ → Trailer
sheet_numbers r back = numbers_with (length r.angles) (length r.serial) back

pub numbers_are : (r : Reading) (back : ℕ) → counted (sheet_tables r) 5 5 back ≡ sheet_numbers r back
numbers_are r back = counted_are (length r.angles) (row_table r) r.serial (rows_length r) back
