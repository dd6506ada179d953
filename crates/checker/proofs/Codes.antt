-- What each code says of the two files: what a crate above may use of `judge`'s promise, and nothing else.
use mathlib.Core.Path.{◌≡◌, refl}
use mathlib.Core.Logic.{◌≢◌}
use mathlib.Core.List.{List}
use Prim.Native.Nat.{ℕ, ◌≤◌}
use native.Mathlib.Omega.{arith}
use Rattle.meaning.specs.Rules.{Conforms}
use Rattle.meaning.specs.Model as meaning
use Rattle.meaning.specs.Answer.{Answer, IsAnswer, conforming, violating}
use Rattle.meaning.proofs.OneAnswer.{violation_code, PropertyTold, of_node, of_edge, none, property_told}
use Rattle.layout.specs.declared.File.TheVariants.{Graph, Schema}
use Rattle.layout.specs.Files.{ceilings}
use Rattle.layout.specs.Refusals.{FileRefused, FileAccepted}
use Rattle.layout.specs.Checked.{graph_in, schema_in, Answers, graph_refused, schema_refused, judged}
use Rattle.layout.proofs.Whole.{refused_by, code_zero_iff}

-- a code from 1 to 15 is none of the rules'
not_judged : (G : meaning.Graph) (S : meaning.Schema) {a : Answer} → IsAnswer G S a → 1 ≤ a.code → a.code ≤ 15 → ⊥
not_judged G S (conforming p) l m = omega arith
not_judged G S (violating f t) l m = let k = violation_code G S t in omega arith

module _ (g s : List ℕ) where
  abbrev Owed : Answer → Type 0
  Owed = Answers (ceilings Graph) (ceilings Schema) g s

  -- code 0 means that all four rules hold of the values read
  pub conforms : {a : Answer} → Owed a → a.code ≡ 0 → Conforms (graph_in g) (schema_in s)
  conforms p e = ((code_zero_iff (ceilings Graph) (ceilings Schema) g s p).0 e).2

  -- codes 1 to 8 refuse the graph
  pub refused_graph : {a : Answer} → Owed a → 1 ≤ a.code → a.code ≤ 8 → FileRefused Graph (ceilings Graph) g a.code a.place
  refused_graph (graph_refused p) l m = p
  refused_graph (schema_refused {x} {k} q p) l m = absurd (omega (arith, (refused_by Schema (ceilings Schema) s x k p).0))
  refused_graph (judged p q x) l m = absurd (not_judged (graph_in g) (schema_in s) x l (omega arith))

  -- codes 9 to 15 refuse the schema, and the graph is accepted
  pub refused_schema : {a : Answer} → Owed a → 9 ≤ a.code → a.code ≤ 15 → FileAccepted Graph (ceilings Graph) g × FileRefused Schema (ceilings Schema) s a.code a.place
  refused_schema (graph_refused {x} {k} p) l m = absurd (omega (arith, (refused_by Graph (ceilings Graph) g x k p).1))
  refused_schema (schema_refused q p) l m = (q, p)
  refused_schema (judged p q x) l m = absurd (not_judged (graph_in g) (schema_in s) x (omega arith) m)

  -- from 21 on the rules speak: the first violation of the values read, as told
  pub broken_rule : {a : Answer} → Owed a → 16 ≤ a.code → FileAccepted Graph (ceilings Graph) g × FileAccepted Schema (ceilings Schema) s × IsAnswer (graph_in g) (schema_in s) a
  broken_rule (graph_refused {x} {k} p) l = absurd (omega (arith, (refused_by Graph (ceilings Graph) g x k p).1))
  broken_rule (schema_refused {x} {k} q p) l = absurd (omega (arith, (refused_by Schema (ceilings Schema) s x k p).1))
  broken_rule (judged p q x) l = (p, q, x)

  -- then with 22 and 24 the fifth number is the lowest name at fault by the first letter that is broken
  pub property : {a : Answer} → Owed a → 16 ≤ a.code → PropertyTold (graph_in g) (schema_in s) a
  property p l = property_told (graph_in g) (schema_in s) (broken_rule p l).2

  -- and with every other code, refusals among them, it is 0
  pub no_property : {a : Answer} → Owed a → a.code ≢ 22 → a.code ≢ 24 → a.property ≡ 0
  no_property (graph_refused p) l m = refl
  no_property (schema_refused q p) l m = refl
  no_property {a = a} (judged p q x) l m = go (property_told (graph_in g) (schema_in s) x)
    where
      go : PropertyTold (graph_in g) (schema_in s) a → a.property ≡ 0
      go (of_node e b n) = absurd (l e)
      go (of_edge e b n) = absurd (m e)
      go (none h k e) = e
