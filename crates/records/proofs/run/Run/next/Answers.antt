-- `next` reads the row after those that are read.
use native.Mathlib.Nat.{zero-add}
use native.Mathlib.Omega.{arith}
use mathlib.Core.Path.{refl}
use Rattle.records.specs.Walk.{at_row}
use Rattle.records.proofs.run.Run.next.Goals as goal

pub returns : goal.returns
returns c =
    record {
      width = refl;
      rows = refl;
      count = refl;
      ahead = at_row (omega (arith, c.args.self.now.within, c.if-self.false)) refl (rw zero-add c.at-row.ensures.0) c.at-row.ensures.1;
    }
