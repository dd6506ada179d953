-- What is told of a violation has one answer: the five numbers are known, and they tell the verdict. And a verdict has one record of them.
use mathlib.Core.Path.{◌≡◌, refl}
use mathlib.Core.Bool.{cond}
use Prim.Native.Nat.{ℕ}
use Rattle.std.specs.Prelude.{codes}
use Rattle.std.specs.Fmt.{digits}
use lib.Dec.{eqb}
use Rattle.little.specs.Promise.{Only}
use Rattle.little.proofs.Promise.{equal_one}
use Rattle.meaning.specs.Model.{Graph, Schema}
use Rattle.meaning.specs.Violations.{Violation}
use Rattle.meaning.specs.Answer.{Answer, answer, Told}
use Rattle.meaning.proofs.OneAnswer.{told_one}
use Rattle.telling.specs.declared.Finding.{Finding}
use Rattle.telling.specs.declared.Verdict.{Verdict}
use Rattle.telling.specs.declared.Verdict.TheVariants.{Conforms, NodeLabels, NodeRecord, EdgeLabels, EdgeRecord, EdgeEnds, TooFewOut, TooManyOut, TooFewInto, TooManyInto}
use Rattle.telling.specs.Told.{told, finding_of, answer_in, printed}

-- the verdict of an answer, by its code
unfoldable verdict : Answer → Verdict
verdict a =
    cond (eqb a.code 21) (NodeLabels a.place) (
    cond (eqb a.code 22) (NodeRecord a.place a.schema_place a.count a.property) (
    cond (eqb a.code 23) (EdgeLabels a.place) (
    cond (eqb a.code 24) (EdgeRecord a.place a.schema_place a.count a.property) (
    cond (eqb a.code 25) (EdgeEnds a.place a.schema_place a.count) (
    cond (eqb a.code 31) (TooFewOut a.schema_place a.place a.count) (
    cond (eqb a.code 32) (TooManyOut a.schema_place a.place a.count) (
    cond (eqb a.code 33) (TooFewInto a.schema_place a.place a.count) (
    cond (eqb a.code 34) (TooManyInto a.schema_place a.place a.count) Conforms))))))))

verdict_told : (v : Verdict) → verdict (told v) ≡ v
unfolding verdict
verdict_told Conforms = refl
verdict_told (NodeLabels i) = refl
verdict_told (NodeRecord i j k x) = refl
verdict_told (EdgeLabels e) = refl
verdict_told (EdgeRecord e s k x) = refl
verdict_told (EdgeEnds e s k) = refl
verdict_told (TooFewOut s v k) = refl
verdict_told (TooManyOut s v k) = refl
verdict_told (TooFewInto s v k) = refl
verdict_told (TooManyInto s v k) = refl

pub told_same : (x y : Verdict) → told x ≡ told y → x ≡ y
told_same x y e = let a = verdict_told x in let b = verdict_told y in cc

pub telling_one : (G : Graph) (S : Schema) (v : Violation) → Only (λ r. Told G S v (told r))
telling_one G S v x y p q = told_same x y (told_one G S p q)

pub numbers_one : (v : Verdict) → Only (λ r. r ≡ finding_of (told v))
numbers_one v = equal_one (finding_of (told v))

-- The fields of a record, by name. Definition and code could change two of them alike, and keep every other promise: this refuses it.
pub finding_fields : (c p s n x : ℕ) → finding_of (answer c p s n x) ≡ record { code = c; place = p; schema = s; count = n; property = x }
finding_fields c p s n x = refl

-- what is printed of a record has one text; and the line of P4, as bytes
pub printed_one : (r : Finding) → Only (λ s. s ≡ printed (answer_in r))
printed_one r = equal_one (printed (answer_in r))

pub printed_line : printed (answer 22 3 2 1 4) ≡ codes "22 3 2 1 4"
unfolding digits
printed_line = refl
