-- `count_at` reads a number of two or of four bytes.
use mathlib.Core.Logic.{⊎_elim}
use native.Mathlib.Omega.{arith}
use Rattle.formats.proofs.count_at.Goals as goal

pub returns-then-bytes-eq2 : goal.returns-then-bytes-eq2
returns-then-bytes-eq2 c = rw c.if-bytes-eq2.true c.u16_at.ensures

pub u32_at-requires : goal.u32_at-requires
u32_at-requires c = ⊎_elim (λ e. absurd (c.if-bytes-eq2.false e)) (λ e. omega arith) c.requires.0

pub returns : goal.returns
returns c = ⊎_elim (λ e. absurd (c.if-bytes-eq2.false e)) (λ e. rw e c.u32_at.ensures) c.requires.0
