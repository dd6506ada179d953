-- The bench's files, computed from their bytes: accepted, and what 01 says that they say.
use mathlib.Core.Path.{◌≡◌, refl, ap₂, ◌∙◌}
use lib.Ieee.{of_bits}
use Rattle.little.specs.Little.{little}
use Rattle.meaning.specs.Answer.{answer, IsAnswer}
use Rattle.meaning.specs.Bench.{graph, S, edges_of_g}
use Rattle.meaning.specs.Traps.{opened}
use Rattle.meaning.proofs.Answered.{answered}
use Rattle.layout.specs.declared.File.TheVariants.{Graph, Schema}
use Rattle.layout.specs.Tables.{rows}
use Rattle.layout.specs.Files.{numbers_of, body_of, ceilings}
use Rattle.layout.specs.Runs.{start}
use Rattle.layout.specs.Value.{signed}
use Rattle.layout.specs.Graph.{graph_of}
use Rattle.layout.specs.Refusals.{FileRefused, FileAccepted}
use Rattle.layout.specs.Checked.{graph_in, schema_in, Answers, judged}
use Rattle.layout.specs.BenchFiles.{schema_file, graph_file, prefaced_file, open_file, schema_of65, graph_of65, bench_nodes, BenchFiles}
use Rattle.layout.proofs.Refusing.{is_passed, is_refused}
use Rattle.layout.proofs.OneResult.{result}

-- ---- accepted or refused

schema_accepted : FileAccepted Schema (ceilings Schema) schema_file
unfolding result little start rows
schema_accepted = is_passed (result Schema (ceilings Schema) schema_file) refl

graph_accepted : FileAccepted Graph (ceilings Graph) graph_file
unfolding result little start rows
graph_accepted = is_passed (result Graph (ceilings Graph) graph_file) refl

prefaced_accepted : FileAccepted Graph (ceilings Graph) prefaced_file
unfolding result little start rows
prefaced_accepted = is_passed (result Graph (ceilings Graph) prefaced_file) refl

open_accepted : FileAccepted Schema (ceilings Schema) open_file
unfolding result little start rows
open_accepted = is_passed (result Schema (ceilings Schema) open_file) refl

schema_labels : FileRefused Schema (ceilings Schema) schema_of65 11 0
unfolding result little start rows
schema_labels = is_refused {c = 11} {k = 0} (result Schema (ceilings Schema) schema_of65) refl

graph_labels : FileRefused Graph (ceilings Graph) graph_of65 4 0
unfolding result little start rows
graph_labels = is_refused {c = 4} {k = 0} (result Graph (ceilings Graph) graph_of65) refl

-- ---- what they say

schema_says : schema_in schema_file ≡ S
unfolding little rows
schema_says = refl

graph_says : graph_in graph_file ≡ graph bench_nodes edges_of_g
unfolding little rows signed of_bits
graph_says = refl

-- behind the preface stand the same trailer and the same tables
prefaced_numbers : numbers_of Graph prefaced_file ≡ numbers_of Graph graph_file
unfolding little
prefaced_numbers = refl

prefaced_body : body_of Graph prefaced_file ≡ body_of Graph graph_file
unfolding little
prefaced_body = refl

prefaced_says : graph_in prefaced_file ≡ graph bench_nodes edges_of_g
prefaced_says = ap₂ graph_of prefaced_numbers prefaced_body ∙ graph_says

open_says : schema_in open_file ≡ opened S 2
unfolding little rows
open_says = refl

-- ---- P1

conforms : (answered (graph bench_nodes edges_of_g) S).0 ≡ answer 0 0 0 0 0
unfolding answered
conforms = refl

is_answer : IsAnswer (graph bench_nodes edges_of_g) S (answer 0 0 0 0 0)
is_answer = rw conforms at (answered (graph bench_nodes edges_of_g) S).1

owed : Answers (ceilings Graph) (ceilings Schema) graph_file schema_file (answer 0 0 0 0 0)
owed = judged {a = answer 0 0 0 0 0} graph_accepted schema_accepted (rw (graph_says, schema_says) is_answer)

pub bench_files : BenchFiles
bench_files =
    record {
      schema_accepted = schema_accepted;
      schema_says = schema_says;
      graph_accepted = graph_accepted;
      graph_says = graph_says;
      prefaced_accepted = prefaced_accepted;
      prefaced_says = prefaced_says;
      owed = owed;
      open_accepted = open_accepted;
      open_says = open_says;
      schema_labels = schema_labels;
      graph_labels = graph_labels;
    }
