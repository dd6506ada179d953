-- 01's numbers for each case of the verdict (the table of codes 0 and 21 to 34), and Ask 2's fifth.
use Rattle.std.specs.Prelude.{List, ℕ, ◌++◌, codes, decimal}
use Rattle.meaning.specs.Places.{Every}
use Rattle.meaning.specs.Model.{Graph, Schema}
use Rattle.meaning.specs.Fits.{Fits}
use Rattle.meaning.specs.Violations.{Violation, node, edge}
use Rattle.meaning.specs.Answer.{Answer, answer}
use Rattle.layout.specs.declared.Sort.{Sort}
use Rattle.layout.specs.Files.{of}
use Rattle.fitting.specs.Objects.{object_in, shape_in}
use Rattle.telling.specs.declared.Finding.{Finding}
use Rattle.telling.specs.declared.Verdict.{Verdict}
use Rattle.telling.specs.declared.Verdict.TheVariants.{Conforms, NodeLabels, NodeRecord, EdgeLabels, EdgeRecord, EdgeEnds, TooFewOut, TooManyOut, TooFewInto, TooManyInto}

-- code, place, schema place, count, property. A wrong number names the schema edge, the node and the number counted.
abbrev pub told : Verdict → Answer
told Conforms = answer 0 0 0 0 0
told (NodeLabels i) = answer 21 i 0 0 0
told (NodeRecord i j k x) = answer 22 i j k x
told (EdgeLabels e) = answer 23 e 0 0 0
told (EdgeRecord e s k x) = answer 24 e s k x
told (EdgeEnds e s k) = answer 25 e s k 0
told (TooFewOut s v k) = answer 31 v s k 0
told (TooManyOut s v k) = answer 32 v s k 0
told (TooFewInto s v k) = answer 33 v s k 0
told (TooManyInto s v k) = answer 34 v s k 0

-- Ask 6: "violation records .., each with code, place, schema place, count and property name"
abbrev pub finding_of : Answer → Finding
finding_of a = record { code = a.code; place = a.place; schema = a.schema_place; count = a.count; property = a.property }

-- and the five numbers that a record has
abbrev pub answer_in : Finding → Answer
answer_in r = answer r.code r.place r.schema r.count r.property

-- 01: "prints the four numbers in decimal, one space between", and Ask 2's fifth behind them
abbrev pub printed : Answer → List ℕ
printed a =
    decimal a.code
    ++ (codes " " ++ (decimal a.place ++ (codes " " ++ (decimal a.schema_place ++ (codes " " ++ (decimal a.count ++ (codes " " ++ decimal a.property)))))))

-- a node against rule 1, or an edge against rule 2
abbrev pub violation_of : Sort → ℕ → Violation
violation_of o i = of o (node i) (edge i)

-- node or edge i fits none of n schema nodes or schema edges
abbrev pub FitsNone : Graph → Schema → Sort → ℕ → ℕ → Type 0
FitsNone G S o n i = Every n (λ j. ¬ Fits (object_in G o i) (shape_in S o j))
