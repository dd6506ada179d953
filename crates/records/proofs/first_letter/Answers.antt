-- `first_letter` takes the unlisted name before the wrongly typed one.
use mathlib.Core.Path.{refl}
use Rattle.records.specs.Walk.{unlisted, mistyped}
use Rattle.records.proofs.first_letter.Goals as goal

pub returns-in-Some-default : goal.returns-in-Some-default
returns-in-Some-default c = unlisted _ c.in-Some-default.is-0 refl

pub returns-in-None-Some : goal.returns-in-None-Some
returns-in-None-Some c = mistyped _ c.in-None-Some.is-0 c.in-None-Some.is-1 refl
