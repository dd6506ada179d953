-- P1 to P12 hold, and so do the examples of the traps; making a property optional, or opening a type, is no loosening.
use mathlib.Core.Path.{◌≡◌, refl, sym, ◌∙◌}
use mathlib.Core.List.{List, [], ◌∷◌, map}
use native.Mathlib.Omega.{arith}
use Rattle.meaning.specs.Model.{Graph, Schema}
use Rattle.meaning.specs.Answer.{Answer, IsAnswer}
use Rattle.meaning.specs.Bench.{Case, table, Hold}
use Rattle.meaning.specs.Traps.{traps, made_optional, opened, dated_runs_owe, Refuted, undated_run, remarked_run}
use Rattle.meaning.specs.Names.{named}
use Rattle.meaning.proofs.Answered.{answered}
use Rattle.meaning.proofs.OneAnswer.{answer_one, code_zero}

-- what is found for each graph of a table is what stands beside it: then that is the answer by the rules
hold : (cs : List Case) → map (λ c. (answered c.graph c.schema).0) cs ≡ map (λ c. c.answer) cs → Hold cs
hold [] e = tt
hold (c ∷ cs) e = let h : (answered c.graph c.schema).0 ≡ c.answer = cc in (rw h at (answered c.graph c.schema).1, hold cs (cc))

pub bench_holds : Hold table
unfolding answered
bench_holds = hold table refl

pub traps_hold : Hold traps
unfolding answered
traps_hold = hold traps refl

pub named_hold : Hold named
unfolding answered
named_hold = hold named refl

-- Whatever answers by the rules has to give each table's answers: one that refuses all, one with a single answer, one that tests rule 1 alone and one that
-- invents counts are shut out.
pub owed : (f : Graph → Schema → Answer) → ((G : Graph) (S : Schema) → IsAnswer G S (f G S)) → (cs : List Case) → Hold cs → map (λ c. f c.graph c.schema) cs ≡ map (λ c. c.answer) cs
owed f is [] h = refl
owed f is (c ∷ cs) h = let e = answer_one _ _ (is c.graph c.schema) h.0 in let r = owed f is cs h.1 in cc

-- ---- no loosening

refuted : (S T : Schema) (G : Graph) → (answered G S).0.code ≡ 0 → (answered G T).0.code ≡ 31 → Refuted S T G
refuted S T G a b = record { conforms = (code_zero G S (answered G S).1).0 a; conforms_no_more = λ c. absurd (omega (arith, sym ((code_zero G T (answered G T).1).1 c) ∙ b)) }

-- the undated Run fits the first schema node once its date is optional, and owes an AT edge
pub optional_refuted : Refuted dated_runs_owe (made_optional dated_runs_owe 0 0) undated_run
unfolding answered
optional_refuted = refuted _ _ _ refl refl

-- the remarked Run fits the first schema node once that is open, and owes an AT edge
pub open_refuted : Refuted dated_runs_owe (opened dated_runs_owe 0) remarked_run
unfolding answered
open_refuted = refuted _ _ _ refl refl
