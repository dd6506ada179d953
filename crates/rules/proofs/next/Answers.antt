-- `next` tries rule after rule until something is found. The invariant: what the search has passed on its way is no violation.
use mathlib.Core.Path.{◌≡◌, refl, subst}
use native.Mathlib.Omega.{arith}
use Rattle.meaning.proofs.FirstFound.{rule_from_to}
use Rattle.rules.specs.declared.Search.{Search}
use Rattle.rules.specs.Onward.{Stands, none_left}
use Rattle.rules.proofs.Further.{is_found, none_found, not_yet, rule_passed, one_further, next_found}
use Rattle.rules.proofs.next.Goals as goal

-- a search behind all rules is at rule 5, and nowhere there
at_end : (f : Search) → f.rule ≡ 5 → f.by ≡ 0 → f.then ≡ 0 → f ≡ record { rule = 5; by = 0; then = 0; apart = f.apart; several = f.several }
at_end f r b n = λ i. record { rule = r i; by = b i; then = n i; apart = f.apart; several = f.several }

pub loop-at-init : goal.loop-at-init
loop-at-init c = (c.requires, not_yet _ _ _)

pub seek-onward-requires : goal.seek-onward-requires
seek-onward-requires c = let l = c.loop-at in (l.invariant.0, omega (arith, c.loop-at-test.true))

pub returns-then-is_some : goal.returns-then-is_some
returns-then-is_some c =
    let q = c.seek-onward.ensures in
    let l = c.loop-at in
    record { next_found = next_found _ _ l.invariant.1 q.sought (is_found _ (rw c.is_some.ensures at c.if-is_some.true)); stands = q.stands }

pub loop-at-smaller : goal.loop-at-smaller
loop-at-smaller c = omega (arith, (rule_passed _ _ c.seek-onward.ensures.sought (none_found _ (rw c.is_some.ensures at c.if-is_some.false))).at_next.rule, c.loop-at-test.true)

pub loop-at-preserved : goal.loop-at-preserved
loop-at-preserved c =
    let q = c.seek-onward.ensures in
    let l = c.loop-at in
    (q.stands, one_further _ _ l.invariant.1 (rule_passed _ _ q.sought (none_found _ (rw c.is_some.ensures at c.if-is_some.false))))

pub returns : goal.returns
returns c =
    let l = c.loop-at in
    let h = c.loop-at-test.false in
    let e = l.invariant.0.from_to.1 in
    let b = l.invariant.0.numbers.behind (omega arith) in
    let r : l.at.rule ≡ 5 = omega arith in
    rw c.onward_to.ensures
    record {
      next_found = none_left
          record {
            none = λ u v a. absurd (omega (arith, l.invariant.1.passed u v a, (rule_from_to u).1));
            found = refl;
            at_end = record { rule = refl; by = refl; then = refl };
          };
      stands = subst (Stands _ _ _ _) (at_end l.at r b.1 b.2) l.invariant.0;
    }
