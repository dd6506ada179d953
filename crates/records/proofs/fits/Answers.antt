-- `fits` says whether an object fits a schema object.
use mathlib.Core.Path.{◌≡◌}
use mathlib.Core.Bool.{Bool, false}
use Rattle.std.specs.Prelude.{Result, Ok, Err, ⊤, is_ok}
use Rattle.std.proofs.lemmas.Bool.{ne_eqb}
use Rattle.little.specs.Promise.{Says}
use Rattle.meaning.specs.Model.{Object, Shape}
use Rattle.meaning.specs.Fits.{SameLabels, Fits}
use Rattle.records.specs.Record.{Tests}
use Rattle.records.specs.declared.Misfit.{Misfit}
use Rattle.records.specs.declared.Misfit.TheVariants.{Missing, Unlisted, Mistyped}
use Rattle.records.proofs.Answers.{unbroken}
use Rattle.records.proofs.fits.Goals as goal

-- where the labels are equal, the record test says it
fits_tested : (o : Object) (s : Shape) (r : Result ⊤ Misfit) → SameLabels o s → Tests r o s → Says (is_ok r) (Fits o s)
fits_tested o s (Ok x) e t = record { labels = e; properties = t }
fits_tested o s (Err (Missing name)) e t = λ f. unbroken f.properties t.0
fits_tested o s (Err (Unlisted name)) e t = λ f. unbroken f.properties t.0
fits_tested o s (Err (Mistyped name)) e t = λ f. unbroken f.properties t.0

says_not : (b : Bool) (P : Type 0) → b ≡ false → ¬ P → Says b P
says_not b P e n = rw e n

pub returns-then-o-s : goal.returns-then-o-s
unfolding SameLabels
returns-then-o-s c = rw c.is_ok.ensures.value (fits_tested _ _ _ c.if-o-s.true c.test.ensures)

pub returns-else-o-s : goal.returns-else-o-s
unfolding SameLabels
returns-else-o-s c = says_not _ _ (ne_eqb _ _ c.if-o-s.false) (λ f. c.if-o-s.false f.labels)
