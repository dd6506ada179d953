-- What the writer owes (02, Ask 1): "lent tables of all row fields, text, label count and name count in, a graph file without preface out".
use Rattle.std.specs.Prelude.{◌≡◌, List, [], ◌∷◌, ℕ, ◌%◌, ◌≤◌, length}
use Rattle.layout.specs.declared.File.TheVariants.{Graph}
use Rattle.layout.specs.declared.Sort.TheVariants.{Nodes, Edges}
use Rattle.layout.specs.Files.{form, row_width, ceilings, Body, numbers_of, body_of}
use Rattle.layout.specs.Graph.{graph_of}
use Rattle.layout.specs.Refusals.{Refusal, once, Passed, Held, row_refusals, FileAccepted}
use Rattle.layout.specs.Checked.{graph_in}
use Rattle.writer.specs.declared.Outcome.{Outcome}
use Rattle.writer.specs.GraphFile.{numbers_for, file_of}
use Rattle.writer.specs.Outcome.{Leaves}

-- 41 "when a table isn't whole rows"
pub record Whole (b : Body) : Type 0 where
  pub nodes : length b.nodes % (form Graph Nodes).width ≡ 0
  pub edges : length b.edges % (form Graph Edges).width ≡ 0
  pub rows : length b.rows % row_width Graph ≡ 0

module _ (b : Body) (labels names : ℕ) where
  -- "or the reader would refuse the values": by 4, a count above its ceiling, or by 6 to 8, a bad row. 2, 3 and 5 are about no value.
  pub record Writable : Type 0 where
    pub whole : Whole b
    pub held : Held (ceilings Graph) (numbers_for b labels names)
    pub rows : Passed (row_refusals Graph (numbers_for b labels names) b)

  -- "41 .., tried first; 42 when the output is shorter than the file"
  abbrev pub write_refusals : List ℕ → List Refusal
  write_refusals out =
      once 41 Writable
      ∷ once 42 (length (file_of b labels names) ≤ length out)
      ∷ []

  -- what is returned, and what the output holds afterwards
  abbrev pub Writes : List ℕ → Outcome → List ℕ → Type 0
  Writes out = Leaves (write_refusals out) (file_of b labels names) out

-- "Reading what was written gives the same values back": the reader accepts f, and reads these numbers, these tables and so this graph
pub record SameValues (b : Body) (labels names : ℕ) (f : List ℕ) : Type 0 where
  pub accepted : FileAccepted Graph (ceilings Graph) f
  pub numbers : numbers_of Graph f ≡ numbers_for b labels names
  pub tables : body_of Graph f ≡ b
  pub graph : graph_in f ≡ graph_of (numbers_for b labels names) b
