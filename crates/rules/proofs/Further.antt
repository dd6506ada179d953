-- A search goes on from rule to rule until it finds something: what it finds is the next violation behind where it began.
use mathlib.Core.Path.{◌≡◌, refl, sym, ◌∙◌}
use mathlib.Core.Logic.{◌≢◌}
use native.Mathlib.Omega.{arith}
use Rattle.meaning.specs.Model.{Graph, Schema}
use Rattle.meaning.specs.Violations.{Violation, Violates}
use Rattle.std.specs.Prelude.{true, false, Option, Some, None, is_some, unwrap_or}
use Rattle.std.proofs.lemmas.Bool.{true≢false, false≢true}
use Rattle.meaning.specs.Answer.{answer, IsAnswer, conforming, violating}
use Rattle.meaning.proofs.FirstFound.{rule_from_to}
use Rattle.meaning.proofs.NoViolation.{conforms_iff}
use Rattle.telling.specs.declared.Finding.{Finding}
use Rattle.telling.specs.Told.{finding_of, answer_in}
use Rattle.rules.specs.declared.Search.{Search}
use Rattle.rules.specs.declared.Onward.{Onward}
use Rattle.rules.specs.Onward.{at_start, Ahead, NextFound, found, none_left}
use Rattle.rules.specs.Inner.{Passes, Sought}
use Rattle.rules.specs.Inner as inner

-- what is found is not None
some_none : {x : Option Finding} {a : Finding} → x ≡ Some a → x ≡ None → ⊥
some_none e f = let z : ◌≡◌ {A = Option Finding} (Some _) None = sym e ∙ f in cc

pub is_found : (x : Option Finding) → is_some x ≡ true → x ≢ None
is_found (Some a) e n = some_none refl n
is_found None e n = absurd (false≢true e)

pub none_found : (x : Option Finding) → is_some x ≡ false → x ≡ None
none_found (Some a) e = absurd (true≢false e)
none_found None e = refl

-- at the start every violation is ahead
pub all_ahead : (u : Violation) → Ahead at_start u
all_ahead u = omega (arith, (rule_from_to u).0)

module _ (G : Graph) (S : Schema) where
  -- the search is at `at` now, and all that it has passed on the way is no violation
  pub record Further (from at : Search) : Type 0 where
    pub passed : (u : Violation) → Violates G S u → Ahead from u → Ahead at u
    pub onward : (u : Violation) → Ahead at u → Ahead from u

  pub not_yet : (from : Search) → Further from from
  not_yet from = record { passed = λ u h a. a; onward = λ u a. a }

  module _ {at : Search} {r : Onward} where
    pub rule_passed : Sought G S at r → r.found ≡ None → Passes G S at r
    rule_passed (inner.found e f) z = absurd (some_none f.found z)
    rule_passed (inner.passed p) z = p

    pub one_further : {from : Search} → Further from at → Passes G S at r → Further from r.search
    one_further f p =
        let n = p.at_next in
        record { passed = λ u h a. p.passed u h (f.passed u h a); onward = λ u a. f.onward u (omega arith) }

    pub next_found : {from : Search} → Further from at → Sought G S at r → r.found ≢ None → NextFound G S from r
    next_found f (inner.found {v = v} e x) n =
        found {v = v}
        record {
          violates = x.violates;
          ahead = f.onward v x.ahead;
          first = λ u h a. x.first u h (f.passed u h a);
          told = x.told;
          found = x.found;
          behind = x.behind;
        }
    next_found f (inner.passed p) n = absurd (n p.found)

  -- ---- from the start on

  -- the next violation is the first of all
  pub first_found : {r : Onward} → NextFound G S at_start r → IsAnswer G S (answer_in (unwrap_or r.found (finding_of (answer 0 0 0 0 0))))
  first_found (found {v = v} f) = rw f.found (violating {v = v} (record { violates = f.violates; first = λ u h. f.first u h (all_ahead u) }) f.told)
  first_found (none_left n) = rw n.found (conforming ((conforms_iff G S).1 (λ u h. n.none u h (all_ahead u))))
