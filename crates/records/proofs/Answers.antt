-- What `test` promises has one answer: the record fits, or one letter is the first that is broken, and one name the lowest at fault by it. `fits`
-- promises whether an object fits, and `says_one` (little) is the theorem of that.
use mathlib.Core.Path.{refl, ap}
use native.Mathlib.Omega.{arith}
use Prim.Native.Nat.{ℕ}
use Rattle.std.specs.Prelude.{Ok, Err}
use Rattle.little.specs.Promise.{Only}
use Rattle.meaning.specs.Model.{Object, Shape}
use Rattle.meaning.specs.Fits.{RecordFits}
use Rattle.meaning.specs.Answer.{Broken, not_present, not_listed, not_typed}
use Rattle.meaning.proofs.OneAnswer.{broken_one, named_one}
use Rattle.records.specs.declared.Misfit.TheVariants.{Missing, Unlisted, Mistyped}
use Rattle.records.specs.Record.{Tests}

-- a record that fits breaks no letter
pub unbroken : {o : Object} {s : Shape} {k : ℕ} → RecordFits o s → ¬ Broken o s k
unbroken f (not_present b) = b f.present
unbroken f (not_listed b c) = c f.listed
unbroken f (not_typed b c d) = d f.typed

pub tests_one : (o : Object) (s : Shape) → Only (λ r. Tests r o s)
tests_one o s (Ok x) (Ok y) p q = refl
tests_one o s (Ok x) (Err (Missing y)) p q = absurd (unbroken p q.0)
tests_one o s (Ok x) (Err (Unlisted y)) p q = absurd (unbroken p q.0)
tests_one o s (Ok x) (Err (Mistyped y)) p q = absurd (unbroken p q.0)
tests_one o s (Err (Missing x)) (Ok y) p q = absurd (unbroken q p.0)
tests_one o s (Err (Missing x)) (Err (Missing y)) p q = ap (λ x. Err (Missing x)) (named_one p.1 q.1 refl)
tests_one o s (Err (Missing x)) (Err (Unlisted y)) p q = absurd (omega (arith, broken_one p.0 q.0))
tests_one o s (Err (Missing x)) (Err (Mistyped y)) p q = absurd (omega (arith, broken_one p.0 q.0))
tests_one o s (Err (Unlisted x)) (Ok y) p q = absurd (unbroken q p.0)
tests_one o s (Err (Unlisted x)) (Err (Missing y)) p q = absurd (omega (arith, broken_one p.0 q.0))
tests_one o s (Err (Unlisted x)) (Err (Unlisted y)) p q = ap (λ x. Err (Unlisted x)) (named_one p.1 q.1 refl)
tests_one o s (Err (Unlisted x)) (Err (Mistyped y)) p q = absurd (omega (arith, broken_one p.0 q.0))
tests_one o s (Err (Mistyped x)) (Ok y) p q = absurd (unbroken q p.0)
tests_one o s (Err (Mistyped x)) (Err (Missing y)) p q = absurd (omega (arith, broken_one p.0 q.0))
tests_one o s (Err (Mistyped x)) (Err (Unlisted y)) p q = absurd (omega (arith, broken_one p.0 q.0))
tests_one o s (Err (Mistyped x)) (Err (Mistyped y)) p q = ap (λ x. Err (Mistyped x)) (named_one p.1 q.1 refl)
