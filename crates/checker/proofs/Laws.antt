-- What a refusal of one of the two files says of both.
use mathlib.Core.List.{List}
use Prim.Native.Nat.{ℕ}
use Rattle.meaning.specs.Answer.{answer}
use Rattle.layout.specs.declared.File.TheVariants.{Graph, Schema}
use Rattle.layout.specs.declared.Refusal.{Refusal}
use Rattle.layout.specs.Files.{ceilings}
use Rattle.layout.specs.Codes.{code_of, place_of}
use Rattle.layout.specs.Checked.{Answers, graph_refused, schema_refused}
use Rattle.reader.specs.Pair.{RefusedPair, of_graph, of_schema}

pub refused_answer :
    {g s : List ℕ} {r : Refusal} → RefusedPair g s r → Answers (ceilings Graph) (ceilings Schema) g s (answer (code_of r.file r.cause) (place_of r.cause) 0 0 0)
refused_answer (of_graph e p) = graph_refused p
refused_answer (of_schema e h p) = schema_refused h p
