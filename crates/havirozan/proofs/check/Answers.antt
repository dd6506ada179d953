-- `check` gives the code, and its block the answer.
use mathlib.Core.Path.{refl}
use native.Mathlib.Omega.{arith}
use Rattle.layout.specs.Checked.{short, answered}
use Rattle.havirozan.proofs.check.Goals as goal

pub returns-then-answer-lt20 : goal.returns-then-answer-lt20
returns-then-answer-lt20 c = short (omega arith) refl refl

pub returns : goal.returns
returns c = answered (omega arith) c.judge-r.ensures refl c.put_reply.ensures
