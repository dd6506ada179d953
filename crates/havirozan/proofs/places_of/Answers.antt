-- `places_of` has room for every number of an accepted file's tables.
use native.Mathlib.Omega.{arith}
use Rattle.havirozan.proofs.places_of.Goals as goal

pub overflow_cast-result-10 : goal.overflow_cast-result-10
overflow_cast-result-10 c = omega (arith, c.requires.counts.names)
