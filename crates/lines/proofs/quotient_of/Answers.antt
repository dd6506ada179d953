-- `quotient_of` divides once.
use mathlib.Core.Path.{sym, ap, ◌∙◌, subst}
use mathlib.Core.Bool.{Bool}
use lib.Ieee.{Float}
use Rattle.layout.specs.Value.{Finite}
use Rattle.lines.specs.Line.{quotient}
use Rattle.lines.proofs.Quotients.{divided, negated, quotient_finite}
use Rattle.lines.proofs.quotient_of.Goals as goal

pub returns-then-negative : goal.returns-then-negative
returns-then-negative c =
    let e = negated c.requires.1 c.requires.0 ∙ ap (λ (b : Bool). quotient b c.args.whole c.args.decimals) (sym c.if-negative.true) in
    (e, subst (λ (x : Float). Finite x) (sym e) (quotient_finite c.requires.1 c.requires.0 c.args.negative))

pub returns-else-negative : goal.returns-else-negative
returns-else-negative c =
    let e = divided c.requires.1 c.requires.0 ∙ ap (λ (b : Bool). quotient b c.args.whole c.args.decimals) (sym c.if-negative.false) in
    (e, subst (λ (x : Float). Finite x) (sym e) (quotient_finite c.requires.1 c.requires.0 c.args.negative))
