-- `test` is the record test: it goes down both runs at once.
use Prim.Native.Nat.{ℕ, ◌+◌}
use Rattle.records.specs.Walk.{RunOf}
use Rattle.records.proofs.RowAhead.{left}
use Rattle.records.proofs.Steps.{Walking}
use Rattle.records.proofs.test.Given as goal

abbrev pub invariant-loop-asked : goal.invariant-loop-asked
invariant-loop-asked l = record {
  object : RunOf 16 l.o.rows.now l.o.head l.object;
  shape : RunOf 4 l.s.rows.now l.s.head l.shape;
  walking : (i : ℕ) × (j : ℕ) × Walking l.o.rows.now l.o.text.now l.o.head l.s.rows.now l.s.head l.s.opens i j l.object.read l.shape.read l.unlisted l.mistyped l.present l.asked;
}

-- the rows of both runs that are not passed
abbrev pub decreases-loop-asked : goal.decreases-loop-asked
decreases-loop-asked l = left l.o.head.count l.object.read l.present + left l.s.head.count l.shape.read l.asked
