-- `open` gives the tables of a file that its trailer does not refuse.
use native.Mathlib.Omega.{arith}
use Rattle.layout.proofs.UnderCeilings.{ceilings_small}
use Rattle.reader.proofs.open.Goals as goal

pub starts_of-requires : goal.starts_of-requires
starts_of-requires c = (rw c.ceilings_of-most.ensures at c.if-not-held.ensures, omega (arith, rw (← c.ceilings_of-most.ensures) at (ceilings_small c.args.file).file))
