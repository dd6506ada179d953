-- Where there is a violation there is a first one: rule by rule it is found. And two first ones are one.
use mathlib.Core.Path.{◌≡◌, sym, ap}
use Prim.Native.Nat.{ℕ, suc, ◌≤◌, ◌<◌}
use native.Mathlib.Decide.{dec_le}
use native.Mathlib.Omega.{arith}
use lib.ListN.{length}
use Rattle.meaning.specs.Places.{Every, Some, Lowest}
use Rattle.meaning.specs.Model.{Graph, Schema}
use Rattle.meaning.specs.Rules.{Way, out, into, NodePlaced, EdgePlaced, Owes, Number, Right, Conforms}
use Rattle.meaning.specs.Violations.{Violation, node, edge, number, rule_of, rule, by, then, ◌≼◌, Misnumbered, Violates, Clear, First}
use Rattle.meaning.proofs.Decide.{dec_and, dec_not, by_dec, dec_some, Search, found, nowhere, search_below}
use Rattle.meaning.proofs.Count.{counted_one}
use Rattle.meaning.proofs.Decided.{dec_node, dec_edge, dec_owes, dec_right, numbered}
use Rattle.meaning.proofs.NoViolation.{conforms_iff}

-- ---- two violations against one rule

pub data SameRule : Violation → Violation → Type 0 where
  nodes : {i j : ℕ} → SameRule (node i) (node j)
  edges : {e f : ℕ} → SameRule (edge e) (edge f)
  numbers : {w : Way} {s v n t u m : ℕ} → SameRule (number w s v n) (number w t u m)

pub same_rule : (v u : Violation) → rule v ≡ rule u → SameRule v u
unfolding rule_of
same_rule (node i) (node j) r = nodes
same_rule (node i) (edge f) r = absurd (omega arith)
same_rule (node i) (number out t u m) r = absurd (omega arith)
same_rule (node i) (number into t u m) r = absurd (omega arith)
same_rule (edge e) (node j) r = absurd (omega arith)
same_rule (edge e) (edge f) r = edges
same_rule (edge e) (number out t u m) r = absurd (omega arith)
same_rule (edge e) (number into t u m) r = absurd (omega arith)
same_rule (number out s v n) (node j) r = absurd (omega arith)
same_rule (number out s v n) (edge f) r = absurd (omega arith)
same_rule (number out s v n) (number out t u m) r = numbers
same_rule (number out s v n) (number into t u m) r = absurd (omega arith)
same_rule (number into s v n) (node j) r = absurd (omega arith)
same_rule (number into s v n) (edge f) r = absurd (omega arith)
same_rule (number into s v n) (number out t u m) r = absurd (omega arith)
same_rule (number into s v n) (number into t u m) r = numbers

-- rule 3 or 4
pub numbered_rule : (w : Way) → (3 ≤ rule_of w) × (rule_of w ≤ 4)
unfolding rule_of
numbered_rule out = (omega arith, omega arith)
numbered_rule into = (omega arith, omega arith)

pub rule_from_to : (v : Violation) → (1 ≤ rule v) × (rule v ≤ 4)
rule_from_to (node i) = (omega arith, omega arith)
rule_from_to (edge e) = (omega arith, omega arith)
rule_from_to (number w s v n) = let r = numbered_rule w in (omega arith, omega arith)

module _ (G : Graph) (S : Schema) where
  -- ---- two violations of which neither comes after the other are one, and so are two first ones

  -- two violations of one place are one: the number is that of the place
  one_place : {v u : Violation} → Violates G S v → Violates G S u → SameRule v u → by v ≡ by u → then v ≡ then u → v ≡ u
  one_place p q nodes b t = ap node b
  one_place p q edges b t = ap edge b
  one_place p q (numbers {w = w} {s = s} {v = v} {m = m}) b t =
      let k : Number G S w s v m = rw (b, t) q.counted in
      let n = counted_one p.counted k in
      cc

  -- neither of two violations comes after the other: they are one
  pub neither_after : {v u : Violation} → Violates G S v → Violates G S u → v ≼ u → u ≼ v → v ≡ u
  neither_after {v} {u} a b p q =
      let r : rule v ≡ rule u = omega arith in
      let p1 = p.first_by r in
      let q1 = q.first_by (sym r) in
      let m : by v ≡ by u = omega arith in
      let p2 = p.first_then r m in
      let q2 = q.first_then (sym r) (sym m) in
      one_place a b (same_rule v u r) m (omega arith)

  pub first_one : {v u : Violation} → First G S v → First G S u → v ≡ u
  first_one {v} {u} a b = neither_after a.violates b.violates (a.first u b.violates) (b.first v a.violates)

  -- ---- the first violation, found rule by rule

  -- the lowest of its rule, where no rule before it is broken
  pub first_of :
      (v : Violation) → Violates G S v → Clear G S (rule v)
      → ((u : Violation) → Violates G S u → SameRule v u → (by v ≤ by u) × (by v ≡ by u → then v ≤ then u)) → First G S v
  first_of v h c f =
      record {
        violates = h;
        first = λ u k. record { first_rule = c u k; first_by = λ r. (f u k (same_rule v u r)).0; first_then = λ r. (f u k (same_rule v u r)).1 };
      }

  -- What trying the rules before rule r gives: the first violation, or that there is none against them.
  pub data FirstOrClear (r : ℕ) : Type 0 where
    stopped : (v : Violation) → First G S v → FirstOrClear r
    passed : Clear G S r → FirstOrClear r

  unfoldable pub and_next : {r k : ℕ} → (Clear G S r → FirstOrClear k) → FirstOrClear r → FirstOrClear k
  and_next f (stopped v h) = stopped v h
  and_next f (passed c) = f c

  -- a node against rule 1: the lowest one is the first violation; where there is none, rule 1 is clear
  pub first_node : {i : ℕ} → Lowest (length G.nodes) (λ i. ¬ NodePlaced G S i) i → First G S (node i)
  first_node {i} l = first_of (node i) (l.below, l.holds) (λ u h. (rule_from_to u).0) lowest
    where
      lowest : (u : Violation) → Violates G S u → SameRule (node i) u → (i ≤ by u) × (i ≡ by u → 0 ≤ then u)
      lowest (node j) h nodes = let n : ¬ (j < i) = λ x. l.before j x h.1 in (omega arith, λ e. omega arith)
      lowest (edge _) h x3 = elim x3 [ ]
      lowest (number _ _ _ _) h x7 = elim x7 [ ]

  pub clear_nodes : Every (length G.nodes) (λ i. ¬ ¬ NodePlaced G S i) → Clear G S 2
  clear_nodes f (node i) h = absurd (f i h.0 h.1)
  clear_nodes f (edge e) h = omega arith
  clear_nodes f (number w s v n) h = let r = numbered_rule w in omega arith

  -- an edge against rule 2, where rule 1 is clear
  pub first_edge : {e : ℕ} → Clear G S 2 → Lowest (length G.edges) (λ e. ¬ EdgePlaced G S e) e → First G S (edge e)
  first_edge {e} c l = first_of (edge e) (l.below, l.holds) c lowest
    where
      lowest : (u : Violation) → Violates G S u → SameRule (edge e) u → (e ≤ by u) × (e ≡ by u → 0 ≤ then u)
      lowest (edge f) h edges = let n : ¬ (f < e) = λ x. l.before f x h.1 in (omega arith, λ e. omega arith)
      lowest (node _) h x3 = elim x3 [ ]
      lowest (number _ _ _ _) h x7 = elim x7 [ ]

  pub clear_edges : Clear G S 2 → Every (length G.edges) (λ e. ¬ ¬ EdgePlaced G S e) → Clear G S 3
  clear_edges c f (node i) h = absurd (omega (arith, c (node i) h))
  clear_edges c f (edge e) h = absurd (f e h.0 h.1)
  clear_edges c f (number w s v n) h = (numbered_rule w).0

  unfoldable pub try_nodes : FirstOrClear 2
  unfolding search_below dec_not dec_node
  try_nodes = go (search_below (λ i. dec_not (dec_node G S i)) _)
    where
      go : Search (length G.nodes) (λ i. ¬ NodePlaced G S i) → FirstOrClear 2
      go (found i l) = stopped (node i) (first_node l)
      go (nowhere f) = passed (clear_nodes f)

  unfoldable pub try_edges : Clear G S 2 → FirstOrClear 3
  unfolding search_below dec_not dec_edge
  try_edges c = go (search_below (λ e. dec_not (dec_edge G S e)) _)
    where
      go : Search (length G.edges) (λ e. ¬ EdgePlaced G S e) → FirstOrClear 3
      go (found e l) = stopped (edge e) (first_edge c l)
      go (nowhere f) = passed (clear_edges c f)

  -- node v's number at schema edge s is wrong
  abbrev pub Wrong : Way → ℕ → ℕ → Type 0
  Wrong w s v = Owes G S w s v × ¬ Right G S w s (numbered G S w s v).0

  pub wrong_of : {w : Way} {s v n : ℕ} → Misnumbered G S w s v n → Wrong w s v
  wrong_of {w} {s} {v} {n} m = let e = counted_one m.counted (numbered G S w s v).1 in (m.owes, rw e at m.wrong)

  -- a node with a wrong number, where the rules before are clear
  pub first_number :
      {w : Way} {s v n : ℕ} → Clear G S (rule_of w) → Lowest (length S.edges) (λ s. Some (length G.nodes) (λ v. Wrong w s v)) s → Lowest (length G.nodes) (λ v. Wrong w s v) v
      → Number G S w s v n → First G S (number w s v n)
  first_number {w} {s} {v} {n} c l k m = first_of (number w s v n) misnumbered c lowest
    where
      misnumbered : Misnumbered G S w s v n
      misnumbered =
          let e = counted_one (numbered G S w s v).1 m in
          record { schema_edge = l.below; node = k.below; owes = k.holds.0; counted = m; wrong = rw e at k.holds.1 }

      lowest : (u : Violation) → Violates G S u → SameRule (number w s v n) u → (s ≤ by u) × (s ≡ by u → v ≤ then u)
      lowest (number _ t u i) h numbers =
          let a : ¬ (t < s) = λ x. l.before t x (u, h.node, wrong_of h) in
          (omega arith, λ e. let b : ¬ (u < v) = λ x. k.before u x (rw e (wrong_of h)) in omega arith)
      lowest (node _) h x3 = elim x3 [ ]
      lowest (edge _) h x4 = elim x4 [ ]

  pub clear_numbers : (w : Way) → Clear G S (rule_of w) → Every (length S.edges) (λ s. ¬ Some (length G.nodes) (λ v. Wrong w s v)) → Clear G S (suc (rule_of w))
  clear_numbers w c f u h = let l = c u h in by_dec (dec_le _ _) (λ x. same u h (same_rule (number w 0 0 0) u (omega arith)))
    where
      same : (u : Violation) → Violates G S u → ¬ SameRule (number w 0 0 0) u
      same (number _ t v m) h numbers = f t h.schema_edge (v, h.node, wrong_of h)
      same (node _) h x3 = elim x3 [ ]
      same (edge _) h x4 = elim x4 [ ]

  unfoldable pub try_numbers : (w : Way) → Clear G S (rule_of w) → FirstOrClear (suc (rule_of w))
  unfolding search_below dec_some dec_and dec_not dec_owes dec_right numbered
  try_numbers w c = go (search_below (λ s. dec_some (dec_wrong s) _) _)
    where
      dec_wrong : (s v : ℕ) → Dec (Wrong w s v)
      dec_wrong s v = dec_and (dec_owes G S w s v) (dec_not (dec_right G S w s _))

      at : {s : ℕ} → Lowest (length S.edges) (λ s. Some (length G.nodes) (λ v. Wrong w s v)) s → Search (length G.nodes) (λ v. Wrong w s v) → FirstOrClear (suc (rule_of w))
      at {s} l (found v k) = stopped (number w s v (numbered G S w s v).0) (first_number c l k (numbered G S w s v).1)
      at l (nowhere f) = let t = l.holds in absurd (f t.0 t.1 t.2)

      go : Search (length S.edges) (λ s. Some (length G.nodes) (λ v. Wrong w s v)) → FirstOrClear (suc (rule_of w))
      go (found s l) = at l (search_below (dec_wrong s) _)
      go (nowhere f) = passed (clear_numbers w c f)

  -- where all four rules are clear, the graph conforms
  pub clear_all : Clear G S 5 → Conforms G S
  clear_all c = (conforms_iff G S).1 (λ u h. let r = rule_from_to u in let x = c u h in omega arith)

  pub data Outcome : Type 0 where
    good : Conforms G S → Outcome
    bad : (v : Violation) → First G S v → Outcome

  unfoldable pub outcome : Outcome
  unfolding try_nodes try_edges try_numbers and_next rule_of
  outcome = go (and_next (try_numbers into) (and_next (try_numbers out) (and_next try_edges try_nodes)))
    where
      go : FirstOrClear 5 → Outcome
      go (stopped v h) = bad v h
      go (passed c) = good (clear_all c)
