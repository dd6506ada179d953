-- Demand 3 is met: a schema made looser has no new violation, and loses none without an excuse.
use mathlib.Core.Path.{◌≡◌, refl, ◌∙◌}
use mathlib.Core.List.{[], ◌∷◌}
use Prim.Native.Nat.{ℕ, ◌≤◌, ◌<◌}
use native.Mathlib.Decide.{dec_lt, dec_le, ℕ_discrete}
use native.Mathlib.Omega.{arith}
use lib.ListN.{length, length-append, length-set, get_or-append}
use lib.Seq.{get_or-set_same, get_or-set_other, get_or-append_seam}
use Rattle.meaning.specs.Places.{Every}
use Rattle.meaning.specs.Model.{Graph, Edge, Schema, SchemaEdge, Interval, any_number, schema_node_in, schema_edge_at}
use Rattle.meaning.specs.Rules.{Within, Way, out, into, near, far, NodeFits, Placed, Counts, NodePlaced, EdgePlaced, Owes, across, Right}
use Rattle.meaning.specs.Violations.{Violation, node, edge, number, Misnumbered, Violates}
use Rattle.meaning.specs.Loosen.{Widened, lowered, raised, raised_to_any, with_edge, Step, source_interval, target_interval, node_added, edge_added, Steps, done, and_then, Closed, Excused, Looser}
use Rattle.meaning.proofs.Decide.{by_dec}
use Rattle.meaning.proofs.Count.{counted_iff}
use Rattle.meaning.proofs.Decided.{dec_node, dec_edge, dec_right}

-- ---- What any number of steps comes to. (Step by step the demand would not go through: between two steps a schema edge may end at no schema node.)

abbrev Inside : Interval → Interval → Type 0
Inside i j = (n : ℕ) → Within n i → Within n j

record Wider (e f : SchemaEdge) : Type 0 where
  shape : f.shape ≡ e.shape
  source : f.source ≡ e.source
  target : f.target ≡ e.target
  sources : Inside e.sources f.sources
  targets : Inside e.targets f.targets

record Extends (S T : Schema) : Type 0 where
  more_nodes : length S.nodes ≤ length T.nodes
  more_edges : length S.edges ≤ length T.edges
  nodes : Every (length S.nodes) (λ j. schema_node_in T.nodes j ≡ schema_node_in S.nodes j)
  edges : Every (length S.edges) (λ s. Wider (schema_edge_at S s) (schema_edge_at T s))
  added : (s : ℕ) → length S.edges ≤ s → s < length T.edges → (n : ℕ) → Within n (schema_edge_at T s).sources × Within n (schema_edge_at T s).targets

-- ---- the demand over that

module _ (G : Graph) (S T : Schema) (closed : Closed S) (x : Extends S T) where
  -- schema nodes that were there are fitted as before
  on : (v j : ℕ) → j < length S.nodes → NodeFits G.nodes S.nodes v j → NodeFits G.nodes T.nodes v j
  on v j h f = rw (x.nodes j h) f

  back : (v j : ℕ) → j < length S.nodes → NodeFits G.nodes T.nodes v j → NodeFits G.nodes S.nodes v j
  back v j h f = rw (x.nodes j h) at f

  module _ (s : ℕ) (h : s < length S.edges) where
    placed_on : (e : Edge) → Placed G.nodes S.nodes e (schema_edge_at S s) → Placed G.nodes T.nodes e (schema_edge_at T s)
    placed_on e p =
        let w = x.edges s h in
        record { edge = rw w.shape p.edge; source = rw w.source (on _ _ (closed s h).0 p.source); target = rw w.target (on _ _ (closed s h).1 p.target) }

    placed_back : (e : Edge) → Placed G.nodes T.nodes e (schema_edge_at T s) → Placed G.nodes S.nodes e (schema_edge_at S s)
    placed_back e p =
        let w = x.edges s h in
        record { edge = rw w.shape at p.edge; source = back _ _ (closed s h).0 (rw w.source at p.source); target = back _ _ (closed s h).1 (rw w.target at p.target) }

    near_same : (w : Way) → near w (schema_edge_at T s).source (schema_edge_at T s).target ≡ near w (schema_edge_at S s).source (schema_edge_at S s).target
    near_same out = (x.edges s h).source
    near_same into = (x.edges s h).target

    far_same : (w : Way) → far w (schema_edge_at T s).source (schema_edge_at T s).target ≡ far w (schema_edge_at S s).source (schema_edge_at S s).target
    far_same out = (x.edges s h).target
    far_same into = (x.edges s h).source

    near_in : (w : Way) → near w (schema_edge_at S s).source (schema_edge_at S s).target < length S.nodes
    near_in out = (closed s h).0
    near_in into = (closed s h).1

    far_in : (w : Way) → far w (schema_edge_at S s).source (schema_edge_at S s).target < length S.nodes
    far_in out = (closed s h).1
    far_in into = (closed s h).0

    right_on : (w : Way) (n : ℕ) → Right G S w s n → Right G T w s n
    unfolding across
    right_on out n = (x.edges s h).targets n
    right_on into n = (x.edges s h).sources n

    owes_on : (w : Way) (v : ℕ) → Owes G S w s v → Owes G T w s v
    owes_on w v o = rw (near_same w) (on _ _ (near_in w) o)

    owes_back : (w : Way) (v : ℕ) → Owes G T w s v → Owes G S w s v
    owes_back w v o = back _ _ (near_in w) (rw (near_same w) at o)

    counts_on : (w : Way) (v : ℕ) (e : Edge) → Counts G.nodes S.nodes w (schema_edge_at S s) v e → Counts G.nodes T.nodes w (schema_edge_at T s) v e
    counts_on w v e c = record { here = c.here; fits = rw (x.edges s h).shape c.fits; far_end = rw (far_same w) (on _ _ (far_in w) c.far_end) }

    counts_back : (w : Way) (v : ℕ) (e : Edge) → Counts G.nodes T.nodes w (schema_edge_at T s) v e → Counts G.nodes S.nodes w (schema_edge_at S s) v e
    counts_back w v e c = record { here = c.here; fits = rw (x.edges s h).shape at c.fits; far_end = back _ _ (far_in w) (rw (far_same w) at c.far_end) }

  -- an added schema edge bounds nothing
  added_right : (w : Way) (s n : ℕ) → length S.edges ≤ s → s < length T.edges → Right G T w s n
  unfolding across
  added_right out s n h k = (x.added s h k n).1
  added_right into s n h k = (x.added s h k n).0

  none_new : (v : Violation) → Violates G T v → Violates G S v
  none_new (node i) h = (h.0, λ p. h.1 (p.0, omega (arith, p.1, x.more_nodes), on i p.0 p.1 p.2))
  none_new (edge e) h = (h.0, λ p. h.1 (p.0, omega (arith, p.1, x.more_edges), placed_on p.0 p.1 _ p.2))
  none_new (number w s v n) m = go (dec_lt s (length S.edges))
    where
      go : Dec (s < length S.edges) → Misnumbered G S w s v n
      go (yes h) = record {
        schema_edge = h;
        node = m.node;
        owes = owes_back s h w v m.owes;
        counted = counted_iff (counts_back s h w v) (counts_on s h w v) m.counted;
        wrong = λ r. m.wrong (right_on s h w n r);
      }
      go (no h) = absurd (m.wrong (added_right w s n (omega arith) m.schema_edge))

  none_lost : (v : Violation) → Violates G S v → ¬ Violates G T v → Excused G S T v
  none_lost (node i) h no_more = new (by_dec (dec_node G T i) (λ n. no_more (h.0, n)))
    where
      new : NodePlaced G T i → Excused G S T (node i)
      new (j, b, f) = (j, by_dec (dec_le _ _) (λ l. let y : j < length S.nodes = omega arith in h.1 (j, y, back i j y f)), b, f)
  none_lost (edge e) h no_more = new (by_dec (dec_edge G T e) (λ n. no_more (h.0, n)))
    where
      new : EdgePlaced G T e → Excused G S T (edge e)
      new (s, b, f) = (s, by_dec (dec_le _ _) (λ l. let y : s < length S.edges = omega arith in h.1 (s, y, placed_back s y _ f)), b, f)
  none_lost (number w s v n) m no_more =
      by_dec (dec_right G T w s n)
      (λ bad.
      no_more
      (record {
        schema_edge = omega (arith, m.schema_edge, x.more_edges);
        node = m.node;
        owes = owes_on s m.schema_edge w v m.owes;
        counted = counted_iff (counts_on s m.schema_edge w v) (counts_back s m.schema_edge w v) m.counted;
        wrong = bad;
      }))

-- ---- the steps come to that

widened : {i j : Interval} → Widened i j → Inside i j
widened (lowered h) n w = let a = w.enough in record { enough = omega arith; not_too_many = w.not_too_many }
widened (raised h) n w = let a = w.not_too_many in record { enough = w.enough; not_too_many = omega arith }
widened raised_to_any n w = record { enough = w.enough; not_too_many = tt }

wider_self : (e : SchemaEdge) → Wider e e
wider_self e = record { shape = refl; source = refl; target = refl; sources = λ n w. w; targets = λ n w. w }

wider_then : {e f g : SchemaEdge} → Wider e f → Wider f g → Wider e g
wider_then p q =
    record {
      shape = q.shape ∙ p.shape;
      source = q.source ∙ p.source;
      target = q.target ∙ p.target;
      sources = λ n w. q.sources n (p.sources n w);
      targets = λ n w. q.targets n (p.targets n w);
    }

extends_self : (S : Schema) → Extends S S
extends_self S =
    record {
      more_nodes = omega arith;
      more_edges = omega arith;
      nodes = λ j h. refl;
      edges = λ s h. wider_self _;
      added = λ s h k n. absurd (omega arith);
    }

extends_then : {S T U : Schema} → Extends S T → Extends T U → Extends S U
extends_then {S} {T} {U} p q =
    record {
      more_nodes = omega (arith, p.more_nodes, q.more_nodes);
      more_edges = omega (arith, p.more_edges, q.more_edges);
      nodes = λ j h. q.nodes j (omega (arith, h, p.more_nodes)) ∙ p.nodes j h;
      edges = λ s h. wider_then (p.edges s h) (q.edges s (omega (arith, h, p.more_edges)));
      added = λ s h k n. new s h k n (dec_lt s (length T.edges));
    }
  where
    new : (s : ℕ) → length S.edges ≤ s → s < length U.edges → (n : ℕ) → Dec (s < length T.edges) → Within n (schema_edge_at U s).sources × Within n (schema_edge_at U s).targets
    new s h k n (yes y) = ((q.edges s y).sources n (p.added s h y n).0, (q.edges s y).targets n (p.added s h y n).1)
    new s h k n (no l) = q.added s (omega arith) k n

with_edge_lem : (S : Schema) (s : ℕ) (f : SchemaEdge) → s < length S.edges → Wider (schema_edge_at S s) f → Extends S (with_edge S s f)
with_edge_lem S s f h w =
    record {
      more_nodes = omega arith;
      more_edges = rw length-set (omega arith);
      nodes = λ j k. refl;
      edges = λ t k. new t k (ℕ_discrete t s);
      added = λ t a b n. absurd (omega (arith, rw length-set at b));
    }
  where
    new : (t : ℕ) → t < length S.edges → Dec (t ≡ s) → Wider (schema_edge_at S t) (schema_edge_at (with_edge S s f) t)
    new t k (yes e) = rw (e, get_or-set_same) w
    new t k (no l) = rw get_or-set_other (wider_self (schema_edge_at S t))

free : (n : ℕ) → Within n any_number
free n = record { enough = omega arith; not_too_many = tt }

step : {S T : Schema} → Step S T → Extends S T
step {S} (source_interval s h e w) =
    with_edge_lem S s _ h (rw e (record { shape = refl; source = refl; target = refl; sources = widened w; targets = λ n y. y }))
step {S} (target_interval s h e w) =
    with_edge_lem S s _ h (rw e (record { shape = refl; source = refl; target = refl; sources = λ n y. y; targets = widened w }))
step {S} (node_added n) =
    record {
      more_nodes = rw length-append (omega arith);
      more_edges = omega arith;
      nodes = λ j h. get_or-append S.nodes (n ∷ []) _ j h;
      edges = λ s h. wider_self _;
      added = λ s h k n. absurd (omega arith);
    }
step {S} (edge_added h a b) =
    record {
      more_nodes = omega arith;
      more_edges = rw length-append (omega arith);
      nodes = λ j k. refl;
      edges = λ s k. rw get_or-append (wider_self _);
      added = λ s k m n. let e : s ≡ length S.edges = omega (arith, rw length-append at m) in rw (e, get_or-append_seam) (free n, free n);
    }

steps : {S T : Schema} → Steps S T → Extends S T
steps {S} done = extends_self S
steps (and_then p q) = extends_then (steps p) (step q)

-- Demand 3, both halves, for every graph
pub loosened : {S T : Schema} → Closed S → Steps S T → (G : Graph) → Looser G S T
loosened {S} {T} c p G = record { none_new = none_new G S T c (steps p); none_lost = none_lost G S T c (steps p) }
