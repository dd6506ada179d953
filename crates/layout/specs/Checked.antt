-- The whole answer: the code that is returned, and the block afterwards (01, "What the checker takes and gives", as 02's Ask 2 reads it: with five
-- numbers in 20 bytes).
use Rattle.std.specs.Prelude.{◌≡◌, List, ◌++◌, ℕ, ◌≤◌, ◌<◌, length, drop}
use Rattle.little.specs.Little.{bytes}
use Rattle.meaning.specs.Model as meaning
use Rattle.meaning.specs.Answer.{Answer, answer, IsAnswer}
use Rattle.layout.specs.declared.File.TheVariants.{Graph, Schema}
use Rattle.layout.specs.declared.Ceilings.{Ceilings}
use Rattle.layout.specs.Files.{numbers_of, body_of}
use Rattle.layout.specs.Graph.{graph_of}
use Rattle.layout.specs.Schema.{schema_of}
use Rattle.layout.specs.Refusals.{FileRefused, FileAccepted}

-- the graph and the schema that files say
abbrev pub graph_in : List ℕ → meaning.Graph
graph_in f = graph_of (numbers_of Graph f) (body_of Graph f)

abbrev pub schema_in : List ℕ → meaning.Schema
schema_in f = schema_of (numbers_of Schema f) (body_of Schema f)

-- "unsigned 32-bit numbers, low byte first: code, place, schema place, count", and the fifth
abbrev pub reply : Answer → List ℕ
reply a = bytes 4 a.code ++ (bytes 4 a.place ++ (bytes 4 a.schema_place ++ (bytes 4 a.count ++ bytes 4 a.property)))

-- The five numbers that a pair of files is owed. "A refusal writes code, place, 0, 0", and a fifth 0: it is "0 for all other codes".
module _ (c d : Ceilings) (g s : List ℕ) where
  pub data Answers : Answer → Type 0 where
    graph_refused : {x k : ℕ} → FileRefused Graph c g x k → Answers (answer x k 0 0 0)
    schema_refused : {x k : ℕ} → FileAccepted Graph c g → FileRefused Schema d s x k → Answers (answer x k 0 0 0)
    judged : {a : Answer} → FileAccepted Graph c g → FileAccepted Schema d s → IsAnswer (graph_in g) (schema_in s) a → Answers a

  -- the code returned, and the block afterwards
  pub data Checked (block : List ℕ) (code : ℕ) (after : List ℕ) : Type 0 where
    -- "If the block has fewer than 16 bytes, code 1 is returned and nothing is written." Ask 2: "1 below 20 bytes".
    short : length block < 20 → code ≡ 1 → after ≡ block → Checked block code after
    -- "The code is returned and also written. The first 16 bytes of the answer block become four .. numbers .. Bytes from 16 on keep their values."
    -- Ask 2: "The answer block is 20 bytes from now on".
    answered : {a : Answer} → 20 ≤ length block → Answers a → code ≡ a.code → after ≡ reply a ++ drop 20 block → Checked block code after
