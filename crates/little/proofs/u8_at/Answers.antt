-- `u8_at` reads a number of one byte.
use native.Mathlib.Omega.{arith}
use Rattle.little.specs.Little.{little}
use Rattle.little.proofs.u8_at.Goals as goal

pub returns : goal.returns
unfolding little
returns c = omega arith
