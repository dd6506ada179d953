-- Laws of tables of refusals, and that a body under the ceilings is small.
use Rattle.std.proofs.Common.{◌≤◌, arith}
use Rattle.meaning.specs.Places.{Lowest}
use Rattle.layout.specs.declared.File.{File}
use Rattle.layout.specs.declared.Trailer.{Trailer}
use Rattle.layout.specs.Files.{body_size, ceilings}
use Rattle.layout.specs.Refusals.{Held}
use Rattle.layout.proofs.UnderCeilings.{held_inside, ceilings_small}

-- a test of the whole file that fails is its one bad row
pub fails : {P : Type 0} → ¬ P → Lowest 1 (λ i. ¬ P) 0
fails n = record { below = omega arith; holds = n; before = λ i l. absurd (omega arith) }

-- a body whose counts are not above the ceilings is small
pub few_bytes : (F : File) (n : Trailer) → Held (ceilings F) n → body_size F n ≤ 4294967295
few_bytes F n h = omega (arith, held_inside F h, (ceilings_small F).file)
