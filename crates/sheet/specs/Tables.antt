-- The tables of a sheet's graph, as they are lent to the writer (01, "Graph body").
use Rattle.std.specs.Prelude.{List, [], ◌∷◌, ◌++◌, ℕ, ◌+◌, ◌-◌, ◌*◌, ◌^◌, length, ℤ, pos, negsuc}
use Rattle.std.specs.Float.{binary64}
use Rattle.std.specs.Float.Ieee.{to_bits}
use Rattle.little.specs.Little.{bytes}
use Rattle.meaning.specs.Bench as bench
use Rattle.layout.specs.Files.{Body, body}
use Rattle.writer.specs.TableRows.{rows_up_to}
use Rattle.lines.specs.declared.Angle.{Angle}
use Rattle.lines.specs.Sheet.{Reading}

-- ---- rows

-- "Node row, 16 bytes: label set (64 bits, bit k is label k), first property row (32), property count (32)."
abbrev pub node_row : ℕ → ℕ → ℕ → List ℕ
node_row labels first count = bytes 8 labels ++ bytes 4 first ++ bytes 4 count

-- "Edge row, 24 bytes: label set (64), source node (32), target node (32), first property row (32), property count (32)."
abbrev pub edge_row : ℕ → ℕ → ℕ → ℕ → ℕ → List ℕ
edge_row labels source target first count = bytes 8 labels ++ bytes 4 source ++ bytes 4 target ++ bytes 4 first ++ bytes 4 count

-- "Property row, 16 bytes: name (16), kind (8), zero (8), length (32), value (64)."
abbrev pub property_row : ℕ → ℕ → ℕ → ℕ → List ℕ
property_row name kind len value = bytes 2 name ++ bytes 1 kind ++ bytes 1 0 ++ bytes 4 len ++ bytes 8 value

-- ---- values

-- an Integer's bits: "64-bit two's complement"
abbrev pub twos : ℤ → ℕ
twos (pos n) = n
twos (negsuc n) = 2 ^ 64 - 1 - n

-- an angle's two rows: "degrees Integer, coefficient Real"
abbrev pub angle_rows : Angle → List ℕ
angle_rows a = property_row 3 2 0 (twos a.degrees) ++ property_row 4 3 0 (to_bits binary64 a.coefficient)

abbrev pub all_angle_rows : List Angle → List ℕ
all_angle_rows [] = []
all_angle_rows (a ∷ more) = angle_rows a ++ all_angle_rows more

-- ---- tables: a run starts where the one before it ended, so an edge's, which has no property, starts behind all rows

abbrev pub node_table : ℕ → List ℕ
node_table n = node_row bench.Sensor 0 1 ++ node_row bench.Run 1 1 ++ rows_up_to n (λ i. node_row bench.Angle (2 + 2 * i) 2)

abbrev pub edge_table : ℕ → List ℕ
edge_table n = edge_row bench.OF 1 0 (2 + 2 * n) 0 ++ rows_up_to n (λ i. edge_row bench.AT 1 (2 + i) (2 + 2 * n) 0)

-- "serial Text", "date Date": the serial is all of the text
abbrev pub row_table : Reading → List ℕ
row_table r = property_row 0 5 (length r.serial) 0 ++ property_row 1 4 0 r.date ++ all_angle_rows r.angles

-- the tables of n angles, with their property rows and the text
abbrev pub angle_tables : ℕ → List ℕ → List ℕ → Body
angle_tables n rows text = body (node_table n) (edge_table n) rows text

abbrev pub sheet_tables : Reading → Body
sheet_tables r = angle_tables (length r.angles) (row_table r) r.serial
