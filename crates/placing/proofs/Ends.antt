-- The ends of edges and of schema edges and the interval across, by the way: what lies in the tables, and what the masks say of it.
use mathlib.Core.Path.{◌≡◌}
use mathlib.Core.Logic.{◌↔◌}
use mathlib.Core.List.{List}
use Prim.Native.Nat.{ℕ, ◌+◌, ◌*◌, ◌<◌}
use native.Mathlib.Nat.{add_assoc}
use lib.ListN.{length, get_or}
use Rattle.little.specs.Little.{little}
use Rattle.meaning.specs.Model.{Interval, edge_at, schema_edge_at}
use Rattle.meaning.specs.Fits.{HasLabel}
use Rattle.meaning.specs.Rules.{Way, out, into, near, far, across}
use Rattle.layout.specs.declared.File.TheVariants as file
use Rattle.layout.specs.declared.Trailer.{Trailer}
use Rattle.layout.specs.Files.{Body, source_at, target_at}
use Rattle.layout.specs.Graph.{graph_of}
use Rattle.layout.specs.Schema.{bound_at, interval_of, schema_of}
use Rattle.layout.proofs.Accepted.{graph_edge, schema_edge, graph_nodes, graph_edges, schema_nodes, schema_edges, ended, closed}
use Rattle.fitting.proofs.Laws.{Sound}
use Rattle.placing.specs.Masks.{MasksTo}
use Rattle.placing.specs.PlacedEdges.{EndFits}

-- what holds of both ends holds of each
near_holds : (w : Way) (P : ℕ → Type 0) {a b : ℕ} → P a → P b → P (near w a b)
near_holds out P p q = p
near_holds into P p q = q

-- ---- the interval across, as it lies

abbrev pub across_in : Way → List ℕ → ℕ → Interval
across_in w t s = far w (interval_of (bound_at t s 0) (bound_at t s 1)) (interval_of (bound_at t s 2) (bound_at t s 3))

pub interval_is : (w : Way) (t : List ℕ) (s a m : ℕ) → a ≡ near w (little 4 t (40 * s + 32)) (little 4 t (40 * s + 24)) → m ≡ near w (little 4 t (40 * s + 36)) (little 4 t (40 * s + 28)) → interval_of a m ≡ across_in w t s
interval_is out t s a m p q = rw (p, q) (simp add_assoc)
interval_is into t s a m p q = rw (p, q) (simp add_assoc)

module _ {n : Trailer} {b : Body} {m : Trailer} {d : Body} (r : Sound n b m d) (w : Way) where
  -- the ends of edges are nodes
  module _ (e : ℕ) (h : e < n.edges) where
    pub near_end : near w (source_at file.Graph b.edges e) (target_at file.Graph b.edges e) ≡ near w (edge_at (graph_of n b) e).source (edge_at (graph_of n b) e).target
    near_end = rw (graph_edge n b e h)

    pub near_below : near w (source_at file.Graph b.edges e) (target_at file.Graph b.edges e) < n.nodes
    near_below = let x = rw (graph_nodes n b) at (ended n b r.graph e (rw graph_edges h)) in rw near_end (near_holds w (λ y. y < n.nodes) x.0 x.1)

  -- and those of schema edges schema nodes
  module _ (s : ℕ) (h : s < m.edges) where
    pub schema_near : near w (source_at file.Schema d.edges s) (target_at file.Schema d.edges s) ≡ near w (schema_edge_at (schema_of m d) s).source (schema_edge_at (schema_of m d) s).target
    schema_near = rw (schema_edge m d s h)

    pub schema_near_below : near w (source_at file.Schema d.edges s) (target_at file.Schema d.edges s) < m.nodes
    schema_near_below = let x = rw (schema_nodes m d) at (closed m d r.schema s (rw schema_edges h)) in rw schema_near (near_holds w (λ y. y < m.nodes) x.0 x.1)

  -- whether an edge's end fits a schema edge's end stands in the mask of the node
  pub end_iff :
      (masks : List ℕ) → MasksTo (graph_of n b) (schema_of m d) (length (graph_of n b).nodes) masks → (e s : ℕ) → e < n.edges → s < m.edges
      → HasLabel (get_or masks (near w (source_at file.Graph b.edges e) (target_at file.Graph b.edges e)) 0) (near w (source_at file.Schema d.edges s) (target_at file.Schema d.edges s))
      ↔ EndFits (graph_of n b) (schema_of m d) w e s
  end_iff masks k e s h l =
      rw (← near_end e h, ← schema_near s l)
      ((k.passed (near w (source_at file.Graph b.edges e) (target_at file.Graph b.edges e)) (rw graph_nodes (near_below e h))).bits
      (near w (source_at file.Schema d.edges s) (target_at file.Schema d.edges s)) (rw schema_nodes (schema_near_below s l)))

  -- the interval across a schema edge
  pub schema_across : (s : ℕ) → s < m.edges → across (graph_of n b) (schema_of m d) w s ≡ across_in w d.edges s
  unfolding across
  schema_across s h = rw (schema_edge m d s h)
