-- What these functions promise has one answer: of tables, as what their bytes are, since the same bytes may lie in several places. The others promise that the
-- result is a value, and `equal_one` (little) is the theorem of that.
use mathlib.Core.Path.{◌≡◌, sym, ◌∙◌}
use mathlib.Core.List.{List}
use Prim.Native.Nat.{ℕ}
use Rattle.layout.specs.declared.File.{File}
use Rattle.layout.specs.declared.Tables.{Tables}
use Rattle.layout.specs.Files.{body_in}
use Rattle.parts.specs.declared.FileTables.{FileTables}
use Rattle.parts.specs.declared.pair.Pair.{Pair}
use Rattle.parts.specs.Accepted.{TablesOf}

pub tables_one : (F : File) (f : List ℕ) (t : Tables) (x y : FileTables) → TablesOf F f t x → TablesOf F f t y → (x.numbers ≡ y.numbers) × (body_in x.bytes ≡ body_in y.bytes)
tables_one F f t x y p q = (p.numbers ∙ sym q.numbers, p.bytes ∙ sym q.bytes)

pub pair_one :
    (g s : FileTables) (x y : Pair) → (x.graph ≡ g) × (x.schema ≡ s) → (y.graph ≡ g) × (y.schema ≡ s) → (x.graph ≡ y.graph) × (x.schema ≡ y.schema)
pair_one g s x y p q = (p.0 ∙ sym q.0, p.1 ∙ sym q.1)
