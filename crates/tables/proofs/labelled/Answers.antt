-- `labelled` says whether a label set has no label at or above the label count.
use Prim.Native.Nat.{◌≤◌, ◌^◌}
use native.Mathlib.Omega.{arith}
use borrow.Author.Tests.{lt-ltb}
use lib.Pow.{pow_mono}
use Rattle.layout.proofs.Labels.{labels_below}
use Rattle.tables.proofs.Laws.{shifted_out}
use Rattle.tables.proofs.labelled.Goals as goal

pub returns-then-count-gt63 : goal.returns-then-count-gt63
returns-then-count-gt63 c =
    let h : 2 ^ 64 ≤ 2 ^ c.args.count = pow_mono c.if-count-gt63.true in
    rw (lt-ltb _ _ c.if-count-gt63.true) ((labels_below _ _).1 (omega arith))

pub returns-else-count-gt63 : goal.returns-else-count-gt63
returns-else-count-gt63 c = shifted_out c.args.labels c.args.count
