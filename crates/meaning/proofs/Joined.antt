-- Two graphs joined: the violations are those of both, each of the second's at its new place; so the joined graph conforms exactly if both do.
use mathlib.Core.Path.{◌≡◌, refl, sym, ap}
use mathlib.Core.Logic.{◌↔◌}
use mathlib.Core.List.{[], map, append-nil}
use Prim.Native.Nat.{ℕ, ◌+◌, ◌-◌, ◌<◌}
use native.Mathlib.Nat.{zero-add, not-suc-le-zero}
use native.Mathlib.Decide.{dec_lt}
use native.Mathlib.Omega.{arith}
use lib.ListN.{length, length-append, length-map, get_or-append}
use lib.Seq.{get_or-append-add}
use Rattle.meaning.specs.Model.{Graph, Schema, no_node, no_edge, edge_at}
use Rattle.meaning.specs.Rules.{Way, out, into, Conforms}
use Rattle.meaning.specs.Violations.{Violation, node, edge, number, Violates}
use Rattle.meaning.specs.Join.{moved, joined, empty_graph, Ended, moved_on, OfBoth, of_first, of_second, before}
use Rattle.meaning.proofs.NoViolation.{conforms_iff}
use Rattle.meaning.proofs.JoinedLaws.{moved_by_none}
use Rattle.meaning.proofs.JoinedPart.{near_end, far_end, place, place_within, Part, get_d_map, near_moved, far_moved, violates_there, violates_alone}

-- ---- both graphs are parts of the joined one

-- either end, read along the edge or against it
module _ (G : Graph) (ended : Ended G) where
  near_in : (w : Way) (e : ℕ) → e < length G.edges → near_end w (edge_at G e) < length G.nodes
  near_in out e h = (ended e h).0
  near_in into e h = (ended e h).1

  far_in : (w : Way) (e : ℕ) → e < length G.edges → far_end w (edge_at G e) < length G.nodes
  far_in out e h = (ended e h).1
  far_in into e h = (ended e h).0

-- the first, with nothing before it; the second's edges end behind its nodes
pub first_part : (G H : Graph) → Ended G → Part empty_graph G (joined G H)
first_part G H ended =
    record {
      behind = map (moved (length G.nodes)) H.edges;
      edges = rw (moved_by_none G.edges);
      nodes = rw length-append (omega arith);
      same_node = λ i h. rw zero-add (sym (get_or-append G.nodes H.nodes no_node i h));
      same_ends = λ w e h. rw (far_moved w 0 (edge_at G e), zero-add) (sym (get_or-append G.nodes H.nodes no_node _ (far_in G ended w e h)));
      ends_before = λ w e h. absurd (not-suc-le-zero h);
      ends_behind = λ w e h. rw (get_d_map (moved (length G.nodes)) no_edge no_edge H.edges e (rw length-map at h), near_moved w) (omega arith);
    }

-- the second, behind the first
pub second_part : (G H : Graph) → Ended G → Part G H (joined G H)
second_part G H ended =
    record {
      behind = [];
      edges = rw append-nil;
      nodes = rw length-append (omega arith);
      same_node = λ i h. sym (get_or-append-add G.nodes H.nodes i no_node);
      same_ends = λ w e h. rw (far_moved w (length G.nodes) (edge_at H e)) (sym (get_or-append-add G.nodes H.nodes _ no_node));
      ends_before = near_in G ended;
      ends_behind = λ w e h. absurd (not-suc-le-zero h);
    }

-- behind nothing a violation stays where it is
pub moved_on_none : (v : Violation) → moved_on empty_graph v ≡ v
moved_on_none (node i) = rw zero-add
moved_on_none (edge e) = rw zero-add
moved_on_none (number w s v n) = rw zero-add

-- ---- there is no other place

-- a place of the joined graph is one of the first graph, or one of the second behind it
data Side (n m i : ℕ) : Type 0 where
  first : i < n → Side n m i
  second : (k : ℕ) → k < m → i ≡ n + k → Side n m i

side : (n m i : ℕ) → i < n + m → Side n m i
side n m i h = go (dec_lt i n)
  where
    go : Dec (i < n) → Side n m i
    go (yes l) = first l
    go (no l) = second (i - n) (omega arith) (omega arith)

module _ (G H : Graph) where
  -- as many rows as both have
  joined_before : (v : Violation) → before (joined G H) v ≡ before G v + before H v
  joined_before (node i) = length-append G.nodes H.nodes
  joined_before (edge e) = rw (length-append, length-map)
  joined_before (number w s v n) = length-append G.nodes H.nodes

  module _ (S : Schema) (ended : Ended G) where
    -- what is broken at a place of the second the second breaks
    at_second : (v u : Violation) → place u < before H u → v ≡ moved_on G u → Violates (joined G H) S v → OfBoth G H S v
    at_second v u l e h = of_second u e (violates_alone (second_part G H ended) S u l (rw e at h))

    -- by its place it is the first's or the second's
    of_side : (v : Violation) → Side (before G v) (before H v) (place v) → Violates (joined G H) S v → OfBoth G H S v
    of_side v (first l) = λ h. of_first (violates_alone (first_part G H ended) S v l (rw (moved_on_none v) h))
    of_side (node i) (second k l e) = at_second (node i) (node k) l (ap node e)
    of_side (edge i) (second k l e) = at_second (edge i) (edge k) l (ap edge e)
    of_side (number w s i n) (second k l e) = at_second (number w s i n) (number w s k n) l (ap (λ x. number w s x n) e)

    -- and each of both is one of the joined graph
    on : (v : Violation) → OfBoth G H S v → Violates (joined G H) S v
    on v (of_first h) = rw (moved_on_none v) at (violates_there (first_part G H ended) S v h)
    on v (of_second u e h) = rw e (violates_there (second_part G H ended) S u h)

-- the violations of the joined graph are exactly those of the first, and those of the second with their places moved
pub joined_violations : (G H : Graph) (S : Schema) → Ended G → (v : Violation) → Violates (joined G H) S v ↔ OfBoth G H S v
joined_violations G H S ended v = (
  λ h. of_side G H S ended v (side _ _ _ (rw (joined_before G H v) at (place_within (joined G H) S v h))) h,
  on G H S ended v,
)

-- "Prove that the joined graph conforms exactly if both did, .."
pub joined_conforms : (G H : Graph) (S : Schema) → Ended G → Conforms (joined G H) S ↔ (Conforms G S × Conforms H S)
joined_conforms G H S ended = (
  λ c.
      let none : (v : Violation) → ¬ OfBoth G H S v = λ v h. (conforms_iff (joined G H) S).0 c v (on G H S ended v h) in
      ((conforms_iff G S).1 (λ v h. none v (of_first h)), (conforms_iff H S).1 (λ v h. none (moved_on G v) (of_second v refl h))),
  λ p. (conforms_iff (joined G H) S).1 (λ v h. clear p v ((joined_violations G H S ended v).0 h)),
)
  where
    clear : Conforms G S × Conforms H S → (v : Violation) → ¬ OfBoth G H S v
    clear p v (of_first h) = (conforms_iff G S).0 p.0 v h
    clear p v (of_second u e h) = (conforms_iff H S).0 p.1 u h
