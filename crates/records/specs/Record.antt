-- What the record test says (01: "the record fits", and "the first of 1 (b), 2 (c), 3 (d) broken there"; 02, Ask 2: "The record test should name the
-- property as well").
use Rattle.std.specs.Prelude.{List, [], ℕ, ◌+◌, ◌*◌, ◌≤◌, length, Result, Ok, Err, ⊤}
use Rattle.meaning.specs.Places.{Every}
use Rattle.meaning.specs.Model.{Object, Shape}
use Rattle.meaning.specs.Fits.{RecordFits}
use Rattle.meaning.specs.Answer.{Broken, Named}
use Rattle.layout.specs.declared.File.TheVariants.{Graph, Schema}
use Rattle.layout.specs.declared.Head.{Head}
use Rattle.layout.specs.Files.{Body}
use Rattle.layout.specs.Runs.{Rises, name_at}
use Rattle.layout.specs.Rows.{GoodProperty}
use Rattle.layout.specs.Graph.{object_of}
use Rattle.layout.specs.Schema.{shape_of}
use Rattle.records.specs.declared.ObjectRows.{ObjectRows}
use Rattle.records.specs.declared.ShapeRows.{ShapeRows}
use Rattle.records.specs.declared.Misfit.{Misfit}
use Rattle.records.specs.declared.Misfit.TheVariants.{Missing, Unlisted, Mistyped}

-- 01's number for each letter; 0 where the record fits
abbrev pub letter : Result ⊤ Misfit → ℕ
letter (Ok x) = 0
letter (Err (Missing name)) = 1
letter (Err (Unlisted name)) = 2
letter (Err (Mistyped name)) = 3

-- the property that is named; 0 where the record fits
abbrev pub property : Result ⊤ Misfit → ℕ
property (Ok x) = 0
property (Err (Missing name)) = name
property (Err (Unlisted name)) = name
property (Err (Mistyped name)) = name

-- the record fits; or the first letter that is broken, and the lowest name at fault by it
abbrev pub Tests : Result ⊤ Misfit → Object → Shape → Type 0
Tests (Ok x) o s = RecordFits o s
Tests (Err (Missing name)) o s = Broken o s 1 × Named o s 1 name
Tests (Err (Unlisted name)) o s = Broken o s 2 × Named o s 2 name
Tests (Err (Mistyped name)) o s = Broken o s 3 × Named o s 3 name

-- tables of property rows alone: of a graph with its text, of a schema
abbrev pub properties : List ℕ → List ℕ → Body
properties rs ts = record { nodes = []; edges = []; rows = rs; text = ts }

-- the object, and the schema object, that such rows say
abbrev pub object_in_rows : ObjectRows → Object
object_in_rows o = object_of (properties o.rows.now o.text.now) o.head

abbrev pub shape_in_rows : ShapeRows → Shape
shape_in_rows s = shape_of (properties s.rows.now []) s.head s.opens

-- both runs stand in their tables, the names rise in both, and each property row of the object has a value
pub record Runs (rows text : List ℕ) (h : Head) (listed : List ℕ) (g : Head) : Type 0 where
  pub object : 16 * (h.first + h.count) ≤ length rows
  pub object_rises : Rises h.count (λ i. name_at Graph rows (h.first + i))
  pub values : Every h.count (λ i. GoodProperty (length text) rows (h.first + i))
  pub shape : 4 * (g.first + g.count) ≤ length listed
  pub shape_rises : Rises g.count (λ j. name_at Schema listed (g.first + j))
