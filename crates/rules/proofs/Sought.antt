-- A rule is tried: the lowest of its violations that are ahead is the next one of all; where there is none, the rule is passed.
use mathlib.Core.Path.{◌≡◌, refl, sym, ◌∙◌}
use Prim.Native.Nat.{ℕ, suc, ◌+◌, ◌≤◌, ◌<◌}
use native.Mathlib.Decide.{dec_le}
use native.Mathlib.Omega.{arith}
use lib.ListN.{length}
use Rattle.std.specs.Prelude.{Some as some, None}
use Rattle.meaning.specs.Places.{Every, Lowest}
use Rattle.meaning.specs.Model.{Graph, Schema}
use Rattle.meaning.specs.Rules.{NodePlaced, EdgePlaced}
use Rattle.meaning.specs.Violations.{Violation, node, edge, number, rule_of, rule, by, then, ◌≼◌, Violates}
use Rattle.meaning.specs.Answer.{Answer, Told}
use Rattle.meaning.proofs.Decide.{by_dec}
use Rattle.meaning.proofs.FirstFound.{SameRule, nodes, edges, numbers, same_rule}
use Rattle.layout.specs.declared.Way.{Way}
use Rattle.layout.specs.Search.{From}
use Rattle.layout.specs.Ways.{way_of}
use Rattle.counting.specs.declared.Start.{Start}
use Rattle.counting.specs.Numbers.{FirstNumber, Numbers}
use Rattle.telling.specs.Told.{finding_of}
use Rattle.rules.specs.declared.Search.{Search}
use Rattle.rules.specs.declared.Onward.{Onward}
use Rattle.rules.specs.Onward.{At, Ahead, Behind}
use Rattle.rules.specs.Inner.{Sought, found, passed}

one_rule : {v u : Violation} → SameRule v u → rule v ≡ rule u
one_rule nodes = refl
one_rule edges = refl
one_rule numbers = refl

module _ (G : Graph) (S : Schema) (from : Search) where
  -- ---- any rule: v is one of its violations

  module _ (v : Violation) (here : rule v ≡ from.rule) where
    first_ahead :
        ((u : Violation) → Violates G S u → Ahead from u → SameRule v u → (by v ≤ by u) × (by v ≡ by u → then v ≤ then u)) → (u : Violation) → Violates G S u → Ahead from u
        → v ≼ u
    first_ahead f u h a =
        record { first_rule = omega (arith, a.first_rule); first_by = λ r. (f u h a (same_rule v u r)).0; first_then = λ r. (f u h a (same_rule v u r)).1 }

    rule_passed :
        {n : ℕ} {r : Onward} → n ≡ suc from.rule → ((u : Violation) → Violates G S u → Ahead from u → ¬ SameRule v u) → r.found ≡ None → At n 0 0 r.search
        → Sought G S from r
    rule_passed e f z b =
        passed
        record {
          passed = λ u h a.
              record {
                first_rule = by_dec (dec_le _ _) (λ k. f u h a (same_rule v u (omega (arith, a.first_rule))));
                first_by = λ k. omega arith;
                first_then = λ k l. omega arith;
              };
          found = z;
          at_next = record { rule = b.rule ∙ e; by = b.by; then = b.then };
        }

  -- ---- rules 1 and 2: a violation is an object that is not placed, v i the one of object i

  module _
      (v : ℕ → Violation)
      (n : ℕ)
      (P : ℕ → Type 0)
      (of_object : (i : ℕ) → (rule (v i) ≡ from.rule) × (by (v i) ≡ i) × (then (v i) ≡ 0))
      (not_placed : (i : ℕ) → i < n → ¬ P i → Violates G S (v i))
      (each : (i : ℕ) (u : Violation) → Violates G S u → SameRule (v i) u → (by u < n) × ¬ P (by u))
    where
      -- where the search stands does not come after one of its rule that is ahead
      not_after : (i : ℕ) (u : Violation) → Ahead from u → SameRule (v i) u → from.by ≤ by u
      not_after i u a s = a.first_by (sym (of_object i).0 ∙ one_rule s)

      object_found :
          {i : ℕ} {a : Answer} → from.then ≡ 0 → Lowest n (From from.by (λ i. ¬ P i)) i → Told G S (v i) a → {r : Onward} → r.found ≡ some (finding_of a) → Behind (v i) r.search
          → Sought G S from r
      object_found {i} z l t f b =
          let o = of_object i in
          found {v = v i} o.0
          record {
            violates = not_placed i l.below l.holds.1;
            ahead = record { first_rule = omega (arith, o.0); first_by = λ e. omega (arith, o.1, l.holds.0); first_then = λ e d. omega (arith, z) };
            first = first_ahead (v i) o.0 (λ u h a s.
                let k : ¬ (by u < i) = λ m. l.before (by u) m (not_after i u a s, (each i u h s).1) in
                (omega (arith, o.1), λ e. omega (arith, o.2)));
            told = t;
            found = f;
            behind = b;
          }

      objects_passed :
          {m : ℕ} → m ≡ suc from.rule → Every n (λ i. ¬ From from.by (λ i. ¬ P i) i) → {r : Onward} → r.found ≡ None → At m 0 0 r.search
          → Sought G S from r
      objects_passed e f = rule_passed (v 0) (of_object 0).0 e (λ u h a s. let x = each 0 u h s in f (by u) x.0 (not_after 0 u a s, x.1))

  each_node : (i : ℕ) (u : Violation) → Violates G S u → SameRule (node i) u → (by u < length G.nodes) × ¬ NodePlaced G S (by u)
  each_node i (node j) h nodes = h
  each_node i (edge _) h x3 = elim x3 [ ]
  each_node i (number _ _ _ _) h x7 = elim x7 [ ]

  each_edge : (e : ℕ) (u : Violation) → Violates G S u → SameRule (edge e) u → (by u < length G.edges) × ¬ EdgePlaced G S (by u)
  each_edge e (edge j) h edges = h
  each_edge e (node _) h x3 = elim x3 [ ]
  each_edge e (number _ _ _ _) h x7 = elim x7 [ ]

  module _ (here : from.rule ≡ 1) where
    pub node_found :
        {i : ℕ} {a : Answer} → from.then ≡ 0 → Lowest (length G.nodes) (From from.by (λ i. ¬ NodePlaced G S i)) i → Told G S (node i) a
        → {r : Onward} → r.found ≡ some (finding_of a) → At 1 (i + 1) 0 r.search → Sought G S from r
    node_found = object_found node _ (NodePlaced G S) (λ i. (sym here, refl, refl)) (λ i h x. (h, x)) each_node

    pub nodes_passed : Every (length G.nodes) (λ i. ¬ From from.by (λ i. ¬ NodePlaced G S i) i) → {r : Onward} → r.found ≡ None → At 2 0 0 r.search → Sought G S from r
    nodes_passed = objects_passed node _ (NodePlaced G S) (λ i. (sym here, refl, refl)) (λ i h x. (h, x)) each_node (omega arith)

  module _ (here : from.rule ≡ 2) where
    pub edge_found :
        {e : ℕ} {a : Answer} → from.then ≡ 0 → Lowest (length G.edges) (From from.by (λ e. ¬ EdgePlaced G S e)) e → Told G S (edge e) a
        → {r : Onward} → r.found ≡ some (finding_of a) → At 2 (e + 1) 0 r.search → Sought G S from r
    edge_found = object_found edge _ (EdgePlaced G S) (λ e. (sym here, refl, refl)) (λ e h x. (h, x)) each_edge

    pub edges_passed : Every (length G.edges) (λ e. ¬ From from.by (λ e. ¬ EdgePlaced G S e) e) → {r : Onward} → r.found ≡ None → At 3 0 0 r.search → Sought G S from r
    edges_passed = objects_passed edge _ (EdgePlaced G S) (λ e. (sym here, refl, refl)) (λ e h x. (h, x)) each_edge (omega arith)

  -- ---- rules 3 and 4

  module _ (w : Way) (here : rule_of (way_of w) ≡ from.rule) where
    -- where counting begins
    abbrev start : Start
    start = record { way = w; edge = from.by; node = from.then; several = from.several }

    pub number_found :
        {s v k : ℕ} {a : Answer} → FirstNumber start G S s v k → Told G S (number (way_of w) s v k) a → {r : Onward} → r.found ≡ some (finding_of a) → At (rule_of (way_of w)) s (v + 1) r.search → Sought G S from r
    number_found {s} {v} {k} f t z b =
        found {v = number (way_of w) s v k} here
        record {
          violates = f.violates;
          ahead = record { first_rule = omega arith; first_by = λ r. f.not_before.0; first_then = λ r. f.not_before.1 };
          first = first_ahead (number (way_of w) s v k) here lowest;
          told = t;
          found = z;
          behind = b;
        }
      where
        lowest : (u : Violation) → Violates G S u → Ahead from u → SameRule (number (way_of w) s v k) u → (s ≤ by u) × (s ≡ by u → v ≤ then u)
        lowest (number _ i j n) h a numbers = f.first i j n h (a.first_by (sym here), a.first_then (sym here))
        lowest (node _) h a x4 = elim x4 [ ]
        lowest (edge _) h a x5 = elim x5 [ ]

    pub numbers_passed : Numbers None start G S → {r : Onward} → r.found ≡ None → At (suc (rule_of (way_of w))) 0 0 r.search → Sought G S from r
    numbers_passed f = rule_passed (number (way_of w) 0 0 0) here (omega arith) none
      where
        none : (u : Violation) → Violates G S u → Ahead from u → ¬ SameRule (number (way_of w) 0 0 0) u
        none (number _ i j n) h a numbers = f i j n h (a.first_by (sym here), a.first_then (sym here))
        none (node _) h a x4 = elim x4 [ ]
        none (edge _) h a x5 = elim x5 [ ]
