-- What a search has passed: right behind a violation it has passed that one more, and what it had passed before.
use mathlib.Core.Path.{◌≡◌, sym, ◌∙◌}
use mathlib.Core.Logic.{◌⊎◌, inl, inr}
use mathlib.Core.List.{List, [], ◌∷◌, ◌++◌}
use Prim.Native.Nat.{◌≤◌}
use native.Mathlib.Decide.{ℕ_discrete, dec_le}
use native.Mathlib.Omega.{arith}
use Rattle.meaning.specs.Model.{Graph, Schema}
use Rattle.meaning.specs.Violations.{Violation, node, edge, number, rule, by, then, ◌≼◌, Violates}
use Rattle.meaning.specs.Answer.{Answer}
use Rattle.meaning.specs.Listing.{Lists}
use Rattle.meaning.proofs.Decide.{dec_iff, dec_and, dec_imp, by_dec}
use Rattle.meaning.proofs.FirstFound.{SameRule, nodes, edges, numbers, same_rule, numbered_rule, rule_from_to, neither_after}
use Rattle.meaning.proofs.Listing.{lists_iff, lists_more, nothing_listed}
use Rattle.rules.specs.declared.Search.{Search}
use Rattle.rules.specs.declared.Onward.{Onward}
use Rattle.rules.specs.Onward.{at_start, Ahead, Behind, Finds}
use Rattle.rules.proofs.Further.{all_ahead}

-- ---- what is ahead

pub dec_ahead : (f : Search) (v : Violation) → Dec (Ahead f v)
dec_ahead f v =
    dec_iff (λ t. record { first_rule = t.0; first_by = t.1.0; first_then = t.1.1 }) (λ a. (a.first_rule, (a.first_by, a.first_then)))
    (dec_and (dec_le _ _) (dec_and (dec_imp (ℕ_discrete _ _) (dec_le _ _)) (dec_imp (ℕ_discrete _ _) (dec_imp (ℕ_discrete _ _) (dec_le _ _)))))

-- with one violation all are that do not come before it
pub ahead_on : {f : Search} {v u : Violation} → Ahead f v → v ≼ u → Ahead f u
ahead_on {f} {v} {u} a o =
    record {
      first_rule = omega (arith, a.first_rule, o.first_rule);
      first_by = λ e.
          let x : f.rule ≡ rule v = omega (arith, a.first_rule, o.first_rule) in
          let y : rule v ≡ rule u = omega (arith, a.first_rule, o.first_rule) in
          omega (arith, a.first_by x, o.first_by y);
      first_then = λ e d.
          let x : f.rule ≡ rule v = omega (arith, a.first_rule, o.first_rule) in
          let y : rule v ≡ rule u = omega (arith, a.first_rule, o.first_rule) in
          let z : f.by ≡ by v = omega (arith, a.first_by x, o.first_by y) in
          let w : by v ≡ by u = omega (arith, a.first_by x, o.first_by y) in
          omega (arith, a.first_then x z, o.first_then y w);
    }

-- ---- right behind a violation

-- it is not ahead
pub passed_itself : (v : Violation) {f : Search} → Behind v f → ¬ Ahead f v
passed_itself (node i) b a = omega (arith, b.rule, b.by, a.first_by b.rule)
passed_itself (edge e) b a = omega (arith, b.rule, b.by, a.first_by b.rule)
passed_itself (number w s v n) b a = omega (arith, b.then, a.first_then b.rule b.by)

-- what is ahead does not come before it
pub ahead_behind : (v u : Violation) {f : Search} → Behind v f → Ahead f u → v ≼ u
ahead_behind (node i) u {f} b a = let r = rule_from_to u in record { first_rule = omega arith; first_by = λ e. omega (arith, b.by, a.first_by (b.rule ∙ e)); first_then = λ e d. omega arith }
ahead_behind (edge e) u {f} b a =
    record { first_rule = omega (arith, b.rule, a.first_rule); first_by = λ x. omega (arith, b.by, a.first_by (b.rule ∙ x)); first_then = λ x d. omega arith }
ahead_behind (number w s v n) u {f} b a =
    record {
      first_rule = omega (arith, b.rule, a.first_rule);
      first_by = λ e. omega (arith, b.by, a.first_by (b.rule ∙ e));
      first_then = λ e d. omega (arith, b.then, a.first_then (b.rule ∙ e) (b.by ∙ d));
    }

-- a node or an edge is at its place alone
alone : {v u : Violation} → SameRule v u → rule v ≤ 2 → then u ≤ 0
alone nodes l = omega arith
alone edges l = omega arith
alone (numbers {w = w}) l = absurd (omega (arith, numbered_rule w))

-- and what is not ahead does not come after it
pub passed_before : (v u : Violation) {f : Search} → Behind v f → ¬ Ahead f u → u ≼ v
passed_before (node i) u {f} b h =
    record {
      first_rule = by_dec (dec_le _ _) (λ x. h (omega arith));
      first_by = λ e. by_dec (dec_le _ _) (λ x. h (omega arith));
      first_then = λ e d. alone (same_rule (node i) u (sym e)) (omega arith);
    }
passed_before (edge i) u {f} b h =
    record {
      first_rule = by_dec (dec_le _ _) (λ x. h (omega arith));
      first_by = λ e. by_dec (dec_le _ _) (λ x. h (omega arith));
      first_then = λ e d. alone (same_rule (edge i) u (sym e)) (omega arith);
    }
passed_before (number w s v n) u {f} b h =
    record {
      first_rule = by_dec (dec_le _ _) (λ x. h (omega arith));
      first_by = λ e. by_dec (dec_le _ _) (λ x. h (omega arith));
      first_then = λ e d. by_dec (dec_le _ _) (λ x. h (omega arith));
    }

-- ---- the list of what is passed

module _ (G : Graph) (S : Schema) where
  -- a violation that the search has passed
  abbrev pub Passed : Search → Violation → Type 0
  Passed f v = Violates G S v × ¬ Ahead f v

  pub none_passed : Lists (Passed at_start) []
  none_passed = nothing_listed.1 (λ v p. p.1 (all_ahead v))

  pub all_passed : {f : Search} {l : List Violation} → ((u : Violation) → Violates G S u → ¬ Ahead f u) → Lists (Passed f) l → Lists (Violates G S) l
  all_passed h a = lists_iff (λ v p. p.0) (λ v p. (p, h v p)) a

  module _ {f : Search} {r : Onward} {v : Violation} {a : Answer} (x : Finds G S f r v a) where
    still_passed : (u : Violation) → Passed f u ⊎ (u ≡ v) → Passed r.search u
    still_passed u (inl p) = (p.0, λ h. p.1 (ahead_on x.ahead (ahead_behind v u x.behind h)))
    still_passed u (inr e) = rw e (x.violates, passed_itself v x.behind)

    passed_now : (u : Violation) → Passed r.search u → Passed f u ⊎ (u ≡ v)
    passed_now u p = go (dec_ahead f u)
      where
        go : Dec (Ahead f u) → Passed f u ⊎ (u ≡ v)
        go (yes h) = inr (neither_after G S p.0 x.violates (passed_before v u x.behind p.1) (x.first u p.0 h))
        go (no h) = inl (p.0, h)

    pub passed_more : {l : List Violation} → Lists (Passed f) l → Lists (Passed r.search) (l ++ v ∷ [])
    passed_more l = lists_iff still_passed passed_now (lists_more v l (λ u p o. p.1 (ahead_on x.ahead o)))
