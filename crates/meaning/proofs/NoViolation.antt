-- A graph conforms exactly if it has no violation.
use mathlib.Core.Logic.{◌↔◌}
use Prim.Native.Nat.{ℕ}
use Rattle.meaning.specs.Model.{Graph, Schema}
use Rattle.meaning.specs.Rules.{Way, out, into, NumbersRight, Conforms}
use Rattle.meaning.specs.Violations.{Violation, node, edge, number, Misnumbered, Violates}
use Rattle.meaning.proofs.Decide.{by_dec}
use Rattle.meaning.proofs.Count.{counted_one}
use Rattle.meaning.proofs.Decided.{dec_node, dec_edge, dec_right, numbered}

module _ (G : Graph) (S : Schema) where
  none_misnumbered : {w : Way} → NumbersRight G S w → (s v n : ℕ) → ¬ Misnumbered G S w s v n
  none_misnumbered {w} r s v n m =
      let t = r s m.schema_edge v m.node m.owes in
      m.wrong (rw (counted_one t.1 m.counted) at t.2)

  numbers_right : {w : Way} → ((s v n : ℕ) → ¬ Misnumbered G S w s v n) → NumbersRight G S w
  numbers_right {w} h s hs v hv o =
      let t = numbered G S w s v in
      (t.0, t.1, by_dec (dec_right G S w s t.0) (λ bad. h s v t.0 (record { schema_edge = hs; node = hv; owes = o; counted = t.1; wrong = bad })))

  none_violates : Conforms G S → (v : Violation) → ¬ Violates G S v
  none_violates c (node i) h = h.1 (c.rule1 i h.0)
  none_violates c (edge e) h = h.1 (c.rule2 e h.0)
  none_violates c (number out s v n) m = none_misnumbered c.rule3 s v n m
  none_violates c (number into s v n) m = none_misnumbered c.rule4 s v n m

  conforms : ((v : Violation) → ¬ Violates G S v) → Conforms G S
  conforms h =
      record {
        rule1 = λ i l. by_dec (dec_node G S i) (λ n. h (node i) (l, n));
        rule2 = λ e l. by_dec (dec_edge G S e) (λ n. h (edge e) (l, n));
        rule3 = numbers_right (λ s v n. h (number out s v n));
        rule4 = numbers_right (λ s v n. h (number into s v n));
      }

  pub conforms_iff : Conforms G S ↔ ((v : Violation) → ¬ Violates G S v)
  conforms_iff = (none_violates, conforms)
