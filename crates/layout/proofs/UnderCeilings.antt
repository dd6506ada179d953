-- What is asked of the ceilings, whatever their numbers are: they are small, and a body under them makes no file that is too long.
use Prim.Native.Nat.{◌+◌, ◌≤◌}
use native.Mathlib.Omega.{arith}
use Rattle.layout.specs.declared.File.{File}
use Rattle.layout.specs.declared.File.TheVariants.{Graph, Schema}
use Rattle.layout.specs.declared.Ceilings.{Ceilings}
use Rattle.layout.specs.declared.Trailer.{Trailer}
use Rattle.layout.specs.Files.{trailer_size, body_size, ceilings}
use Rattle.layout.specs.Refusals.{Held}

-- numbers of 32 bits; of 16 bits for labels and names, as in a trailer
pub record Small (c : Ceilings) : Type 0 where
  pub file : c.file ≤ 4294967295
  pub nodes : c.nodes ≤ 4294967295
  pub edges : c.edges ≤ 4294967295
  pub rows : c.rows ≤ 4294967295
  pub text : c.text ≤ 4294967295
  pub labels : c.labels ≤ 65535
  pub names : c.names ≤ 65535

pub ceilings_small : (F : File) → Small (ceilings F)
ceilings_small Graph = omega arith
ceilings_small Schema = omega arith

-- where no count is above its ceiling, the body and the trailer are not above the file's
pub held_inside : (F : File) {n : Trailer} → Held (ceilings F) n → body_size F n + trailer_size F ≤ (ceilings F).file
held_inside Graph h = omega arith
held_inside Schema h = omega arith
