-- The run that 01 gives in full, from the bytes of its two files to the four numbers; and a run start that is not trusted.
use mathlib.Core.Path.{◌≡◌, refl}
use mathlib.Core.List.{List, [], ◌∷◌, ◌++◌}
use Prim.Native.Nat.{ℕ}
use lib.ListN.{replicate}
use Rattle.little.specs.Little.{little}
use Rattle.meaning.specs.Answer.{answer}
use Rattle.layout.specs.declared.File.TheVariants.{Graph, Schema}
use Rattle.layout.specs.declared.Ceilings.{Ceilings}
use Rattle.layout.specs.Tables.{rows}
use Rattle.layout.specs.Files.{ceilings}
use Rattle.layout.specs.Runs.{start}
use Rattle.layout.specs.Refusals.{FileRefused}
use Rattle.layout.specs.Checked.{Answers, graph_refused}
use Rattle.layout.proofs.Refusing.{is_refused}
use Rattle.layout.proofs.OneResult.{result}
use Rattle.layout.proofs.Whole.{answers}

-- "16 zero bytes, then 53 43 48 31"
abbrev pub schema : List ℕ
schema = replicate 16 0 ++ (0x53 ∷ 0x43 ∷ 0x48 ∷ 0x31 ∷ [])

-- the trailer of a graph of one node: "01, fifteen bytes 00, four bytes 00, then 10 00 00 00 47 50 48 31"
abbrev one_node : List ℕ
one_node = 0x01 ∷ (replicate 15 0 ++ (replicate 4 0 ++ (0x10 ∷ 0x00 ∷ 0x00 ∷ 0x00 ∷ 0x47 ∷ 0x50 ∷ 0x48 ∷ 0x31 ∷ [])))

-- "16 zero bytes, then .."
abbrev pub graph : List ℕ
graph = replicate 16 0 ++ one_node

-- "The program prints `21 0 0 0`."
pub run_found : (answers (ceilings Graph) (ceilings Schema) graph schema).0 ≡ answer 21 0 0 0 0
unfolding answers little start rows
run_found = refl

pub run_in_full : Answers (ceilings Graph) (ceilings Schema) graph schema (answer 21 0 0 0 0)
run_in_full = rw run_found at (answers (ceilings Graph) (ceilings Schema) graph schema).1

-- ---- "A run start trusted. An empty run with a wrong start is bad all the same."

-- the same but for the first property row of the node, which is 1
abbrev pub starts_at_one : List ℕ
starts_at_one = replicate 8 0 ++ (0x01 ∷ (replicate 7 0 ++ one_node))

pub start_not_trusted : FileRefused Graph (ceilings Graph) starts_at_one 6 0
unfolding result little start rows
start_not_trusted = is_refused (result Graph (ceilings Graph) starts_at_one) refl

-- whatever the schema file is
pub start_answered : (d : Ceilings) (s : List ℕ) → Answers (ceilings Graph) d starts_at_one s (answer 6 0 0 0 0)
start_answered d s = graph_refused start_not_trusted
