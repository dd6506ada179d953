-- Rows in which the numbers that point elsewhere are moved (02, Ask 7: "ends renumbered, property runs in the order of the new rows, text appended and its
-- offsets moved").
use Rattle.std.specs.Prelude.{cond, List, ℕ, ◌+◌, ◌*◌, eqb, take, drop}
use Rattle.little.specs.Little.{little, bytes, written}
use Rattle.layout.specs.declared.File.TheVariants.{Graph}
use Rattle.layout.specs.declared.Sort.TheVariants.{Nodes, Edges}
use Rattle.layout.specs.Files.{form, row_width}
use Rattle.writer.specs.TableRows.{rows_up_to}

-- the row with d more in the w bytes from place p on
abbrev pub raised : ℕ → ℕ → ℕ → List ℕ → List ℕ
raised w p d row = written row p (bytes w (little w row p + d))

-- row i of a table whose rows have W bytes
abbrev pub row_at : ℕ → List ℕ → ℕ → List ℕ
row_at W t i = take W (drop (W * i) t)

-- a table of n rows of W bytes, with a change made in each
abbrev pub each_row : ℕ → (List ℕ → List ℕ) → ℕ → List ℕ → List ℕ
each_row W change n t = rows_up_to n (λ i. change (row_at W t i))

-- "Node row, .. first property row (32)": n node rows whose runs start `run` property rows later
abbrev pub moved_nodes : ℕ → ℕ → List ℕ → List ℕ
moved_nodes run = each_row (form Graph Nodes).width (raised 4 (form Graph Nodes).run run)

-- "Edge row, .. source node (32), target node (32), first property row (32)": n edge rows whose ends are `ends` nodes later, too
abbrev pub moved_edge : ℕ → ℕ → List ℕ → List ℕ
moved_edge ends run row = raised 4 12 ends (raised 4 8 ends (raised 4 (form Graph Edges).run run row))

abbrev pub moved_edges : ℕ → ℕ → ℕ → List ℕ → List ℕ
moved_edges ends run = each_row (form Graph Edges).width (moved_edge ends run)

-- "Property row, .. kind (8), .. value (64)", and "5 Text (value is the offset in the text bytes, ..)": a Text's offset is `text` bytes later, every other
-- value stays
abbrev pub moved_row : ℕ → List ℕ → List ℕ
moved_row text row = cond (eqb (little 1 row 2) 5) (raised 8 8 text row) row

abbrev pub moved_rows : ℕ → ℕ → List ℕ → List ℕ
moved_rows text = each_row (row_width Graph) (moved_row text)
