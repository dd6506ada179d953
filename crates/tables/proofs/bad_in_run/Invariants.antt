-- `bad_in_run` finds the lowest bad row of a run. The rows passed are good.
use Prim.Native.Nat.{◌≤◌}
use Rattle.std.specs.Prelude.{length}
use Rattle.meaning.specs.Places.{Every}
use Rattle.tables.specs.Inner.{GoodIn}
use Rattle.tables.proofs.bad_in_run.Given as goal

abbrev pub invariant-loop-r : goal.invariant-loop-r
invariant-loop-r l = Every l.r (λ i. l.first ≤ i → GoodIn l.file l.t.rows.now (length l.t.text.now) l.n.names l.first i)
