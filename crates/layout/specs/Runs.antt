-- Runs of property rows (01, "An object's property rows are a run"), said once for both files.
use Rattle.std.specs.Prelude.{◌≡◌, List, ◌++◌, ℕ, zero, suc, ◌+◌, ◌-◌, ◌*◌, ◌≤◌, ◌<◌, length, get_or}
use Rattle.little.specs.Little.{little}
use Rattle.meaning.specs.Places.{Every}
use Rattle.meaning.specs.Fits.{HasLabel}
use Rattle.layout.specs.declared.File.{File}
use Rattle.layout.specs.declared.Sort.TheVariants.{Nodes, Edges}
use Rattle.layout.specs.declared.Form.{Form}
use Rattle.layout.specs.declared.Trailer.{Trailer}
use Rattle.layout.specs.declared.Head.{Head}
use Rattle.layout.specs.Tables.{rows}
use Rattle.layout.specs.Files.{form, row_width, Body}

-- the label set and the run of row i of a table
abbrev pub head_at : Form → List ℕ → ℕ → Head
head_at m t i =
    record {
      labels = little 8 t (m.width * i);
      first = little 4 t (m.width * i + m.run);
      count = little m.counted t (m.width * i + m.run + 4);
    }

abbrev pub no_head : Head
no_head = record { labels = 0; first = 0; count = 0 }

abbrev pub head_in : List Head → ℕ → Head
head_in hs j = get_or hs j no_head

-- "label bit at or above the label count" is bad: no label of the set is
abbrev pub LabelsBelow : ℕ → ℕ → Type 0
LabelsBelow labels count = (k : ℕ) → HasLabel labels k → k < count

-- 6, 7, 13 and 14: "label bit at or above the label count, run start wrong or run past the rows" is bad; s is where the run has to start
pub record GoodHead (n : Trailer) (h : Head) (s : ℕ) : Type 0 where
  pub labelled : LabelsBelow h.labels n.labels
  pub begins : h.first ≡ s
  pub ends : h.first + h.count ≤ n.rows

-- 8 and 15, of row r of a run that starts at s: "name at or above the name count, name not above the one before it in its run"; and what is asked of
-- the row alone
pub record RowIn (names : ℕ) (name : ℕ → ℕ) (Own : ℕ → Type 0) (s r : ℕ) : Type 0 where
  pub named : name r < names
  pub rising : s < r → name (r - 1) < name r
  pub own : Own r

-- the runs of a list of objects
module _ (hs : List Head) where
  -- "The first run of all starts at 0 .., each next run starts where the one before ended, .. A run of count 0 still gives the current start."
  unfoldable pub start : ℕ → ℕ
  start zero = 0
  start (suc j) = start j + (head_in hs j).count

  -- row r is in the run of object j
  pub record InRun (r j : ℕ) : Type 0 where
    pub from : start j ≤ r
    pub until : r < start j + (head_in hs j).count

  -- 8 and 15: a row that is "in no run" is bad, and so is one that is not good in its run
  pub record GoodRow (names : ℕ) (name : ℕ → ℕ) (Own : ℕ → Type 0) (r : ℕ) : Type 0 where
    pub object : ℕ
    pub below : object < length hs
    pub run : InRun r object
    pub good : RowIn names name Own (start object) r

-- "Within a run the names rise strictly": the names of n rows do
abbrev pub Rises : ℕ → (ℕ → ℕ) → Type 0
Rises n name = Every n (λ k. 1 ≤ k → name (k - 1) < name k)

module _ (F : File) where
  -- "edges follow nodes"
  abbrev pub heads : Trailer → Body → List Head
  heads n b = rows n.nodes (head_at (form F Nodes) b.nodes) ++ rows n.edges (head_at (form F Edges) b.edges)

  -- "name (16)" stands first in the property rows of both files
  abbrev pub name_at : List ℕ → ℕ → ℕ
  name_at t r = little 2 t (row_width F * r)
