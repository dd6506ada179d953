-- What a search keeps goes on with it: the rule that is tried says what is new, and the rest stays as it was.
use mathlib.Core.Path.{◌≡◌, refl, sym, ◌∙◌}
use mathlib.Core.List.{List}
use Prim.Native.Nat.{ℕ, suc, ◌+◌, ◌≤◌, ◌<◌}
use native.Mathlib.Omega.{arith}
use lib.ListN.{length, replicate}
use Rattle.little.specs.Promise.{Says}
use Rattle.meaning.specs.Model.{Graph, Schema}
use Rattle.meaning.specs.Rules.{Way, out, into, NodePlaced, EdgePlaced}
use Rattle.meaning.specs.Violations.{Violation, node, edge, number, rule_of, rule}
use Rattle.meaning.proofs.FirstFound.{numbered_rule}
use Rattle.layout.specs.Files.{most_nodes, most_edges}
use Rattle.layout.proofs.Search.{none_passed}
use Rattle.parts.specs.declared.pair.Pair.{Pair}
use Rattle.parts.specs.Accepted.{graph_at, schema_at}
use Rattle.placing.specs.Masks.{MasksTo}
use Rattle.placing.specs.PlacedEdges.{no_place, PlacesTo, LabelsApart}
use Rattle.placing.proofs.Answers.{masks_on, places_on}
use Rattle.counting.specs.Numbers.{AllZero, SomeSeveral, CountersTo}
use Rattle.counting.proofs.Laws.{zeros}
use Rattle.rules.specs.declared.Search.{Search}
use Rattle.rules.specs.declared.Onward.{Onward}
use Rattle.rules.specs.Onward.{At, at_start, Behind, StandsNodes, StandsEdges, StandsNumbers, Stands}
use Rattle.rules.specs.Inner.{Sought, found, passed, KnownOfNodes, KnownOfEdges}

-- ---- where a search stands once a rule is tried: at the same rule, or where the next one begins

pub record Moved (from to : Search) : Type 0 where
  pub not_back : from.rule ≤ to.rule
  pub at_most_next : to.rule ≤ suc from.rule
  pub begins : suc from.rule ≤ to.rule → (to.by ≡ 0) × (to.then ≡ 0)

behind_rule : (v : Violation) (f : Search) → Behind v f → f.rule ≡ rule v
behind_rule (node i) f b = b.rule
behind_rule (edge e) f b = b.rule
behind_rule (number w s v n) f b = b.rule

pub moved : {G : Graph} {S : Schema} {from : Search} {r : Onward} → Sought G S from r → Moved from r.search
moved {r = r} (found {v = v} e f) =
    let b = behind_rule v r.search f.behind in
    record { not_back = omega arith; at_most_next = omega arith; begins = λ h. absurd (omega arith) }
moved (passed p) = let a = p.at_next in record { not_back = omega arith; at_most_next = omega arith; begins = λ h. (a.by, a.then) }

-- ---- the rest of what is kept stays

module _ {y : Pair} {m p c : List ℕ} {from to : Search} (x : Stands y m p c from) (v : Moved from to) where
  pub nodes_tried : {k : List ℕ} → from.rule ≡ 1 → StandsNodes (graph_at y.graph) (schema_at y.schema) k to → KnownOfNodes (schema_at y.schema) to → Stands y k p c to
  nodes_tried here n k =
      record {
        from_to = (omega arith, omega arith);
        nodes = n;
        edges = record {
          before = λ r. ((x.edges.before here).0, k.before r);
          amid = λ r. let b = v.begins (omega arith) in (omega (arith, b.0), b.1, rw b.0 (x.edges.before here).0);
          behind = λ r. absurd (omega arith);
          apart = k.apart;
        };
        numbers = record {
          before = λ r. ((x.numbers.before (omega arith)).0, k.several);
          amid = λ w r. absurd (omega (arith, (numbered_rule w).0));
          behind = λ r. absurd (omega arith);
          several = λ r. absurd (omega arith);
        };
      }

  pub edges_tried : {k : List ℕ} → from.rule ≡ 2 → StandsEdges (graph_at y.graph) (schema_at y.schema) k to → KnownOfEdges (graph_at y.graph) k to → Stands y m k c to
  edges_tried here n k =
      record {
        from_to = (omega arith, omega arith);
        nodes = record { amid = λ r. absurd (omega arith); behind = λ r. x.nodes.behind (omega arith) };
        edges = n;
        numbers = record {
          before = λ r. ((x.numbers.before (omega arith)).0, k.before (omega arith));
          amid = λ w r.
              let b = v.begins (omega (arith, (numbered_rule w).0)) in
              (omega (arith, b.0), omega (arith, b.1), record { none_passed = λ e. (x.numbers.before (omega arith)).0; some_passed = λ h. absurd (omega (arith, b.1)) });
          behind = λ r. absurd (omega arith);
          several = k.several;
        };
      }

  pub numbers_tried : {k : List ℕ} → 3 ≤ from.rule → from.rule ≤ 4 → StandsNumbers (graph_at y.graph) (schema_at y.schema) p k to → to.apart ≡ from.apart → Stands y m p k to
  numbers_tried l h n e =
      record {
        from_to = (omega arith, omega arith);
        nodes = record { amid = λ r. absurd (omega arith); behind = λ r. x.nodes.behind (omega arith) };
        edges = record {
          before = λ r. absurd (omega arith);
          amid = λ r. absurd (omega arith);
          behind = λ r. x.edges.behind (omega arith);
          apart = λ r. rw e (x.edges.apart (omega arith));
        };
        numbers = n;
      }

-- ---- what the rule that is tried keeps

-- a rule has one way
one_way : (w x : Way) → rule_of w ≡ rule_of x → w ≡ x
unfolding rule_of
one_way out out e = refl
one_way out into e = absurd (omega arith)
one_way into out e = absurd (omega arith)
one_way into into e = refl

module _ (G : Graph) (S : Schema) {f : Search} where
  -- behind a node that is not placed, and behind all nodes
  pub behind_node : {i : ℕ} {m : List ℕ} → i < length G.nodes → i < most_nodes → ¬ NodePlaced G S i → MasksTo G S i m → At 1 (i + 1) 0 f → StandsNodes G S m f
  behind_node {i} h l n k a = record { amid = λ r. (omega (arith, a.by), a.then, rw a.by (masks_on G S l n k)); behind = λ r. absurd (omega (arith, a.rule)) }

  pub behind_nodes : {m : List ℕ} → MasksTo G S (length G.nodes) m → At 2 0 0 f → StandsNodes G S m f
  behind_nodes k a = record { amid = λ r. absurd (omega (arith, a.rule)); behind = λ r. k }

  -- the same of edges
  pub behind_edge :
      {e : ℕ} {p : List ℕ} → e < length G.edges → e < most_edges → ¬ EdgePlaced G S e → PlacesTo G S e p → Says f.apart (LabelsApart S) → At 2 (e + 1) 0 f → StandsEdges G S p f
  behind_edge {e} h l n k o a =
      record {
        before = λ r. absurd (omega (arith, a.rule));
        amid = λ r. (omega (arith, a.by), a.then, rw a.by (places_on G S l n k));
        behind = λ r. absurd (omega (arith, a.rule));
        apart = λ r. o;
      }

  pub behind_edges : {p : List ℕ} → PlacesTo G S (length G.edges) p → Says f.apart (LabelsApart S) → At 3 0 0 f → StandsEdges G S p f
  behind_edges k o a =
      record { before = λ r. absurd (omega (arith, a.rule)); amid = λ r. absurd (omega (arith, a.rule)); behind = λ r. k; apart = λ r. o }

  -- and of numbers: behind a wrong one, and behind all of the rule
  module _ (w : Way) {p c : List ℕ} where
    pub behind_number :
        {s v : ℕ} → s < length S.edges → v < length G.nodes → CountersTo G S w s (v + 1) c → Says f.several (SomeSeveral (length G.edges) p)
        → At (rule_of w) s (v + 1) f → StandsNumbers G S p c f
    behind_number {s} {v} h l k o a =
        let n = numbered_rule w in
        record {
          before = λ r. absurd (omega arith);
          amid = λ x r. (
            omega (arith, a.by),
            omega (arith, a.then),
            record { none_passed = λ e. absurd (omega (arith, a.then)); some_passed = λ e. (omega (arith, a.by), rw (a.by, a.then, ← one_way w x (sym a.rule ∙ r)) k) },
          );
          behind = λ r. absurd (omega (arith, a.rule));
          several = λ r. o;
        }

    pub behind_numbers : AllZero c → Says f.several (SomeSeveral (length G.edges) p) → At (suc (rule_of w)) 0 0 f → StandsNumbers G S p c f
    behind_numbers k o a =
        let n = numbered_rule w in
        record {
          before = λ r. absurd (omega arith);
          amid = λ x r. (omega (arith, a.by), omega (arith, a.then), record { none_passed = λ e. k; some_passed = λ e. absurd (omega (arith, a.then)) });
          behind = λ r. (k, a.by, a.then);
          several = λ r. o;
        }

-- ---- a search begins: no mask, no place, no counter

pub begins : (y : Pair) → Stands y (replicate most_nodes 0) (replicate most_edges no_place) (replicate most_nodes 0) at_start
begins y =
    record {
      from_to = (omega arith, omega arith);
      nodes = record { amid = λ e. (omega arith, refl, none_passed 0 (λ i h. refl)); behind = λ e. absurd (omega arith) };
      edges = record {
        before = λ e. (none_passed no_place (λ i h. refl), refl);
        amid = λ e. absurd (omega arith);
        behind = λ e. absurd (omega arith);
        apart = λ e. absurd (omega arith);
      };
      numbers = record {
        before = λ e. (zeros, refl);
        amid = λ w e. absurd (omega (arith, (numbered_rule w).0));
        behind = λ e. absurd (omega arith);
        several = λ e. absurd (omega arith);
      };
    }
