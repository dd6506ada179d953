-- The words in which the functions of the joiner promise something to each other. No public promise uses them.
use Rattle.std.specs.Prelude.{◌≡◌, cond, List, ℕ, ◌+◌, ◌^◌, ◌≤◌, ◌<◌, eqb, length, Result, Ok, Err}
use Rattle.little.specs.Little.{little}
use Rattle.meaning.specs.Places.{Every}
use Rattle.layout.specs.declared.File.TheVariants.{Graph}
use Rattle.layout.specs.declared.Sort.TheVariants as sort
use Rattle.layout.specs.declared.Trailer.{Trailer}
use Rattle.layout.specs.Codes.{code_of}
use Rattle.layout.specs.Files.{form, row_width, Body, Full, ceilings, tables_of, body_in}
use Rattle.layout.specs.Refusals.{FileAccepted, Held, Passed, row_refusals}
use Rattle.parts.specs.declared.FileTables.{FileTables}
use Rattle.parts.specs.Accepted.{TablesOf}
use Rattle.writer.specs.declared.Outcome.{Outcome}
use Rattle.writer.specs.Outcome.{outcome}
use Rattle.join.specs.declared.graphs.Graphs.{Graphs}
use Rattle.join.specs.declared.Unjoined.{Unjoined}
use Rattle.join.specs.declared.Unjoined.TheVariants.{First, Second, Count, Short}
use Rattle.join.specs.declared.Moving.{Moving}
use Rattle.join.specs.declared.Moving.TheVariants.{Nodes, Edges, Rows}
use Rattle.join.specs.Moved.{raised, row_at, each_row, moved_edge, moved_row}
use Rattle.join.specs.Joined.{node_rows, joined_body}
use Rattle.join.specs.Joins.{Joins}

-- ---- rows of any of the three tables

abbrev pub width_of : Moving → ℕ
width_of (Nodes run) = (form Graph sort.Nodes).width
width_of (Edges ends run) = (form Graph sort.Edges).width
width_of (Rows text) = row_width Graph

abbrev pub changed : Moving → List ℕ → List ℕ
changed (Nodes run) = raised 4 (form Graph sort.Nodes).run run
changed (Edges ends run) = moved_edge ends run
changed (Rows text) = moved_row text

abbrev pub moved_table : Moving → ℕ → List ℕ → List ℕ
moved_table m = each_row (width_of m) (changed m)

-- what is added to a property row's value
abbrev pub offset_by : ℕ → List ℕ → ℕ
offset_by text row = cond (eqb (little 1 row 2) 5) text 0

-- the numbers that are moved stay in their bytes
abbrev pub Room : Moving → List ℕ → Type 0
Room (Nodes run) row = little 4 row 8 + run < 256 ^ 4
Room (Edges ends run) row = (little 4 row 8 + ends < 256 ^ 4) × (little 4 row 12 + ends < 256 ^ 4) × (little 4 row 16 + run < 256 ^ 4)
Room (Rows text) row = little 1 row 2 ≡ 5 → little 8 row 8 + text < 256 ^ 8

abbrev pub RoomIn : Moving → ℕ → List ℕ → Type 0
RoomIn m n t = Every n (λ i. Room m (row_at (width_of m) t i))

-- ---- two files

-- what is known of the tables of an accepted file
pub record Sound (n : Trailer) (b : Body) : Type 0 where
  pub full : Full Graph n b
  pub held : Held (ceilings Graph) n
  pub good : Passed (row_refusals Graph n b)

-- the tables of two accepted files
pub record Both (f g : List ℕ) (x : Graphs) : Type 0 where
  pub first : FileAccepted Graph (ceilings Graph) f
  pub second : FileAccepted Graph (ceilings Graph) g
  pub first_tables : TablesOf Graph f (tables_of Graph f) x.first
  pub second_tables : TablesOf Graph g (tables_of Graph g) x.second

-- how many property rows are the nodes', and the joined tables
abbrev pub node_rows_at : FileTables → ℕ
node_rows_at x = node_rows x.numbers (body_in x.bytes)

abbrev pub joined_at : Graphs → Body
joined_at x = joined_body x.first.numbers (body_in x.first.bytes) x.second.numbers (body_in x.second.bytes)

-- the output has room for these bytes from `at` on
abbrev pub RoomAt : ℕ → List ℕ → List ℕ → Type 0
RoomAt at bs out = at + length bs ≤ length out

-- ---- what is returned

-- "2 to 8 for the first graph, then for the second, returned with 0 or 1 for which; 44 if a joined count is above its ceiling; 42."
abbrev pub told : Unjoined → Outcome
told (First r) = outcome (code_of r.file r.cause) 0
told (Second r) = outcome (code_of r.file r.cause) 1
told Count = outcome 44 0
told Short = outcome 42 0

-- "0 and the length written"
abbrev pub outcome_of : Result ℕ Unjoined → Outcome
outcome_of (Ok size) = outcome 0 size
outcome_of (Err why) = told why

-- both files are accepted, with their tables, or an output is left as it was, whatever it is
abbrev pub ReadsBoth : Result Graphs Unjoined → List ℕ → List ℕ → Type 0
ReadsBoth (Ok x) f g = Both f g x
ReadsBoth (Err why) f g = (out : List ℕ) → Joins f g out (told why) out
