-- What reading a sheet promises has one answer: what is returned, and every byte of the output.
use mathlib.Core.Path.{subst}
use mathlib.Core.List.{List}
use Prim.Native.Nat.{ℕ}
use Rattle.little.specs.Promise.{Only}
use Rattle.little.proofs.Promise.{pair}
use Rattle.layout.proofs.Refusing.{refused_one}
use Rattle.writer.specs.declared.Outcome.{Outcome}
use Rattle.writer.specs.Writes.{Writes}
use Rattle.writer.proofs.Answers.{writes_one}
use Rattle.lines.specs.Sheet.{Reading, sheet_refusals}
use Rattle.lines.proofs.OneReading.{sheet_one, says_not_refused}
use Rattle.sheet.specs.Tables.{sheet_tables}
use Rattle.sheet.specs.Reads.{ReadsSheet, refused, says}

pub reads_one : (s before : List ℕ) → Only (λ (a : Outcome × List ℕ). ReadsSheet s before a.0 a.1)
reads_one s before x y (refused t e f) (refused u g h) = let i = refused_one (sheet_refusals s) _ _ _ _ t u in pair x (cc) (cc)
reads_one s before x y (refused t e f) (says say w) = absurd (says_not_refused say t)
reads_one s before x y (says say w) (refused t e f) = absurd (says_not_refused say t)
reads_one s before x y (says {r} say w) (says {r = q} other v) =
    writes_one (sheet_tables r) 5 5 before x y w (subst (λ (z : Reading). Writes (sheet_tables z) 5 5 before y.0 y.1) (sheet_one s q r other say) v)
