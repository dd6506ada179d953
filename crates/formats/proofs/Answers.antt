-- What these functions promise has one answer: each says what its result is.
use mathlib.Core.Path.{◌≡◌}
use mathlib.Core.List.{List}
use Prim.Native.Nat.{ℕ, ◌≤◌}
use Rattle.little.specs.Promise.{Only}
use Rattle.little.proofs.Promise.{equal_one, both_one}
use Rattle.layout.specs.declared.File.{File}
use Rattle.layout.specs.declared.Sort.{Sort}
use Rattle.layout.specs.declared.Form.{Form}
use Rattle.layout.specs.declared.Ceilings.{Ceilings}
use Rattle.layout.specs.declared.Head.{Head}
use Rattle.layout.specs.Files.{either, of, form, row_width, trailer_size, ceilings}
use Rattle.layout.specs.Runs.{head_at}
use Rattle.formats.specs.Inside.{Inside}

pub code_one : (F : File) (g s : ℕ) → Only (λ r. r ≡ either F g s)
code_one F g s = equal_one (either F g s)

pub form_one : (F : File) (o : Sort) → Only (λ (r : Form). (r ≡ form F o) × Inside r)
form_one F o = both_one Inside (equal_one (form F o))

pub trailer_one : (F : File) → Only (λ r. (r ≡ trailer_size F) × (4 ≤ r) × (r ≤ 28))
trailer_one F x y p q = equal_one (trailer_size F) x y p.0 q.0

pub row_one : (F : File) → Only (λ r. (r ≡ row_width F) × (r ≤ 16))
row_one F = both_one (λ r. r ≤ 16) (equal_one (row_width F))

pub ceilings_one : (F : File) → Only (λ (r : Ceilings). r ≡ ceilings F)
ceilings_one F = equal_one (ceilings F)

pub head_one : (F : File) (o : Sort) (nodes edges : List ℕ) (i : ℕ) → Only (λ (r : Head). r ≡ head_at (form F o) (of o nodes edges) i)
head_one F o nodes edges i = equal_one (head_at (form F o) (of o nodes edges) i)
