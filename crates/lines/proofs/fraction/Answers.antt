-- `fraction`: the digits behind the comma, and one division.
use native.Mathlib.Omega.{arith}
use Rattle.lines.proofs.DigitRuns.{no_digits, digits_small}
use Rattle.lines.proofs.fraction.Goals as goal

pub returns-then-end-at : goal.returns-then-end-at
returns-then-end-at c = no_digits c.digits-number.ensures c.if-end-at.true

pub quotient_of-requires : goal.quotient_of-requires
quotient_of-requires c =
    let d = c.digits-number.ensures in
    (digits_small d c.requires.1 (omega arith), omega (arith, d.from.ends, d.run.few))
