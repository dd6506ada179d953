-- `u64_at` reads a number of eight bytes.
use native.Mathlib.Omega.{arith}
use Rattle.little.specs.Little.{little}
use Rattle.little.proofs.Laws.{little_array}
use Rattle.little.proofs.u64_at.Goals as goal

pub returns : goal.returns
unfolding little
returns c = omega (arith, c.from_le_bytes.ensures, little_array 8 c.args.s.now c.args.at c.unwrap.ensures c.try_into.ensures.1)
