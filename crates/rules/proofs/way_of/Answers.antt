-- `way_of`: along the edges rule 3, against them rule 4.
use native.Mathlib.Omega.{arith}
use Rattle.meaning.specs.Violations.{rule_of}
use Rattle.rules.proofs.way_of.Goals as goal

pub returns-then-rule-eq3 : goal.returns-then-rule-eq3
unfolding rule_of
returns-then-rule-eq3 c = omega arith

pub returns-else-rule-eq3 : goal.returns-else-rule-eq3
unfolding rule_of
returns-else-rule-eq3 c = omega arith
