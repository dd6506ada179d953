-- A graph that stands as a part in another one breaks there what it breaks alone. Both graphs of a joined one are such parts, so that each law is proved once.
use mathlib.Core.Path.{◌≡◌, refl}
use mathlib.Core.Logic.{◌↔◌}
use mathlib.Core.List.{List, [], ◌∷◌, ◌++◌, map}
use Prim.Native.Nat.{ℕ, zero, suc, ◌+◌, ◌≤◌, ◌<◌}
use native.Mathlib.Nat.{add-zero, zero-add, not-suc-le-zero, le_of_suc-le-suc}
use native.Mathlib.Omega.{arith}
use lib.ListN.{length, get_or, length-append, length-map, get_or-append}
use lib.Seq.{get_or-append-add}
use Rattle.meaning.specs.Places.{Every}
use Rattle.meaning.specs.Model.{Graph, Edge, Schema, no_edge, node_in, edge_at, schema_edge_at}
use Rattle.meaning.specs.Rules.{Way, out, into, near, far, Counts, EdgePlaced, Number, across}
use Rattle.meaning.specs.Violations.{Violation, node, edge, number, Violates}
use Rattle.meaning.specs.Join.{moved, moved_on, before}
use Rattle.meaning.proofs.Count.{counted_one, counted_append, counted_map, counted_at, counted_none}
use Rattle.meaning.proofs.Decided.{numbered}

-- the end of an edge that counts it, and the one across
abbrev pub near_end : Way → Edge → ℕ
near_end w e = near w e.source e.target

abbrev pub far_end : Way → Edge → ℕ
far_end w e = far w e.source e.target

-- G stands in K behind B: its edges stand there moved, its nodes and those at its edges' ends are the same there, and no other edge ends at one of its nodes
pub record Part (B G K : Graph) : Type 0 where
  pub behind : List Edge
  pub edges : K.edges ≡ B.edges ++ (map (moved (length B.nodes)) G.edges ++ behind)
  pub nodes : length B.nodes + length G.nodes ≤ length K.nodes
  pub same_node : Every (length G.nodes) (λ i. node_in G.nodes i ≡ node_in K.nodes (length B.nodes + i))
  pub same_ends : (w : Way) → Every (length G.edges) (λ e. node_in G.nodes (far_end w (edge_at G e)) ≡ node_in K.nodes (far_end w (moved (length B.nodes) (edge_at G e))))
  pub ends_before : (w : Way) → Every (length B.edges) (λ e. near_end w (edge_at B e) < length B.nodes)
  pub ends_behind : (w : Way) → Every (length behind) (λ e. length B.nodes + length G.nodes ≤ near_end w (get_or behind e no_edge))

-- the node or the edge that a violation names
abbrev pub place : Violation → ℕ
place (node i) = i
place (edge e) = e
place (number w s v n) = v

-- it is one of the graph's
pub place_within : (G : Graph) (S : Schema) (v : Violation) → Violates G S v → place v < before G v
place_within G S (node i) h = h.0
place_within G S (edge e) h = h.0
place_within G S (number w s v n) m = m.node

-- what stands at a place of a list that was mapped
pub get_d_map : {A B : Type 0} (f : A → B) (z : A) (y : B) (xs : List A) (i : ℕ) → i < length xs → get_or (map f xs) i y ≡ f (get_or xs i z)
get_d_map f z y [] i h = absurd (not-suc-le-zero h)
get_d_map f z y (x ∷ xs) zero h = refl
get_d_map f z y (x ∷ xs) (suc i) h = get_d_map f z y xs i (le_of_suc-le-suc h)

-- both ends move alike
pub near_moved : (w : Way) (n : ℕ) (e : Edge) → near_end w (moved n e) ≡ n + near_end w e
near_moved out n e = refl
near_moved into n e = refl

pub far_moved : (w : Way) (n : ℕ) (e : Edge) → far_end w (moved n e) ≡ n + far_end w e
far_moved out n e = refl
far_moved into n e = refl

module _ {B G K : Graph} (p : Part B G K) where
  -- its edges stand behind those of B
  edge_within : (e : ℕ) → e < length G.edges → length B.edges + e < length K.edges
  edge_within e h = rw (p.edges, length-append, length-append, length-map) (omega arith)

  edge_there : (e : ℕ) → e < length G.edges → edge_at K (length B.edges + e) ≡ moved (length B.nodes) (edge_at G e)
  edge_there e h =
      rw (p.edges, get_or-append-add, get_or-append (map (moved (length B.nodes)) G.edges) p.behind no_edge e (rw length-map h))
      (get_d_map (moved (length B.nodes)) no_edge no_edge G.edges e h)

  -- what rule 2 and the codes of edges go by: the edge's own rows, and the nodes at its ends
  pub same_object : (e : ℕ) → e < length G.edges → (edge_at G e).object ≡ (edge_at K (length B.edges + e)).object
  same_object e h = rw (edge_there e h)

  pub same_end : (w : Way) (e : ℕ) → e < length G.edges → node_in G.nodes (far_end w (edge_at G e)) ≡ node_in K.nodes (far_end w (edge_at K (length B.edges + e)))
  same_end w e h = rw (edge_there e h) (p.same_ends w e h)

  module _ (S : Schema) where
    -- so it is placed there if it is placed alone
    placed_there : (e : ℕ) → e < length G.edges → EdgePlaced K S (length B.edges + e) ↔ EdgePlaced G S e
    placed_there e h =
        let o = same_object e h in
        let a = same_end into e h in
        let b = same_end out e h in (
          λ c. (c.0, c.1, record { edge = rw o c.2.edge; source = rw a c.2.source; target = rw b c.2.target }),
          λ c. (c.0, c.1, record { edge = rw o at c.2.edge; source = rw a at c.2.source; target = rw b at c.2.target }),
        )

    module _ (w : Way) (s v : ℕ) (h : v < length G.nodes) where
      -- an edge of its own counts there where it counts alone
      counts_there :
          (e : ℕ) → e < length G.edges → Counts K.nodes S.nodes w (schema_edge_at S s) (length B.nodes + v) (moved (length B.nodes) (edge_at G e))
          ↔ Counts G.nodes S.nodes w (schema_edge_at S s) v (edge_at G e)
      counts_there e k =
          let n = near_moved w (length B.nodes) (edge_at G e) in (
            λ c. record { here = omega (arith, n, c.here); fits = c.fits; far_end = rw (p.same_ends w e k) c.far_end },
            λ c. record { here = omega (arith, n, c.here); fits = c.fits; far_end = rw (p.same_ends w e k) at c.far_end },
          )

      -- and no other edge counts at its nodes
      number_there : {n : ℕ} → Number G S w s v n → Number K S w s (length B.nodes + v) n
      number_there {n} c =
          rw p.edges
          (rw (zero-add, add-zero) at
          (counted_append (counted_none {P = There} no_edge B.edges (λ e k c. omega (arith, p.ends_before w e k, c.here)))
          (counted_append
          (counted_map (moved (length B.nodes)) (counted_at no_edge G.edges (λ e k. (counts_there e k).1) (λ e k. (counts_there e k).0) c))
          (counted_none no_edge p.behind (λ e k c. omega (arith, p.ends_behind w e k, c.here))))))
        where
          There : Edge → Type 0
          There = Counts K.nodes S.nodes w (schema_edge_at S s) (length B.nodes + v)

      -- some number is counted alone, and it is the one that is counted there
      number_back : {n : ℕ} → Number K S w s (length B.nodes + v) n → Number G S w s v n
      number_back c = let t = numbered G S w s v in rw (counted_one (number_there t.1) c) at t.1

    -- what it breaks alone it breaks there
    pub violates_there : (v : Violation) → Violates G S v → Violates K S (moved_on B v)
    unfolding across
    violates_there (node i) h = (omega (arith, p.nodes, h.0), λ q. h.1 (rw (p.same_node i h.0) q))
    violates_there (edge e) h = (edge_within e h.0, λ q. h.1 ((placed_there e h.0).0 q))
    violates_there (number w s v n) m =
        record {
          schema_edge = m.schema_edge;
          node = omega (arith, p.nodes, m.node);
          owes = rw (p.same_node v m.node) at m.owes;
          counted = number_there w s v m.node m.counted;
          wrong = m.wrong;
        }

    -- and what is broken there at one of its places it breaks alone
    pub violates_alone : (v : Violation) → place v < before G v → Violates K S (moved_on B v) → Violates G S v
    unfolding across
    violates_alone (node i) l h = (l, λ q. h.1 (rw (p.same_node i l) at q))
    violates_alone (edge e) l h = (l, λ q. h.1 ((placed_there e l).1 q))
    violates_alone (number w s v n) l m =
        record { schema_edge = m.schema_edge; node = l; owes = rw (p.same_node v l) m.owes; counted = number_back w s v l m.counted; wrong = m.wrong }
