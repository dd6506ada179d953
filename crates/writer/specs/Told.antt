-- What the steps of writing say.
use Rattle.std.specs.Prelude.{◌≡◌, ℕ, Option, Some, None}
use Rattle.layout.specs.declared.Trailer.{Trailer}
use Rattle.layout.specs.Files.{Body}
use Rattle.writer.specs.GraphFile.{numbers_for}
use Rattle.writer.specs.Writes.{Writable}

-- the tables can be written, and these are their numbers; or they cannot
abbrev pub Tells : Option Trailer → Body → ℕ → ℕ → Type 0
Tells (Some n) b labels names = Writable b labels names × (n ≡ numbers_for b labels names)
Tells None b labels names = ¬ Writable b labels names
