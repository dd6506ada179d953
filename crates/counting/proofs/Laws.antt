-- An edge counts at a node that owes a number exactly if it is placed there; so counters, masks and intervals say which numbers are wrong.
use mathlib.Core.Path.{◌≡◌, refl, sym, ◌∙◌}
use mathlib.Core.Logic.{◌↔◌}
use mathlib.Core.List.{List}
use Prim.Native.Nat.{ℕ, ◌+◌, ◌*◌, ◌≤◌, ◌<◌}
use native.Mathlib.Decide.{dec_lt, ℕ_discrete}
use native.Mathlib.Omega.{arith}
use lib.ListN.{length, get_or, set, replicate, length-replicate, get_or-replicate}
use Rattle.little.specs.Little.{little}
use Rattle.meaning.specs.Model.{Graph, Edge, Schema, no_edge, edge_at, schema_edge_at}
use Rattle.meaning.specs.Fits.{HasLabel}
use Rattle.meaning.specs.Counted.{Counted}
use Rattle.meaning.specs.Rules.{Way, out, into, near, Within, Counts, Owes, Number}
use Rattle.meaning.specs.Places.{Every}
use Rattle.meaning.specs.Violations.{Misnumbered}
use Rattle.meaning.proofs.Count.{counted_one, counted_iff}
use Rattle.meaning.proofs.Decide.{by_dec}
use Rattle.layout.specs.declared.File.TheVariants as file
use Rattle.std.specs.Prelude.{Some, None}
use Rattle.layout.specs.declared.Trailer.{Trailer}
use Rattle.layout.specs.Files.{most_nodes, most_edges, Body, source_at, target_at}
use Rattle.layout.specs.Graph.{graph_of}
use Rattle.layout.specs.Schema.{interval_of, schema_of}
use Rattle.layout.specs.Search.{From}
use Rattle.layout.specs.Ways.{way_of}
use Rattle.layout.proofs.Accepted.{graph_nodes, graph_edges, schema_nodes, schema_edges}
use Rattle.fitting.proofs.Laws.{Sound}
use Rattle.placing.specs.Masks.{MasksTo}
use Rattle.placing.specs.PlacedEdges.{PlacedAt}
use Rattle.placing.proofs.Ends.{near_end, near_below, schema_near, schema_near_below, interval_is, schema_across}
use Rattle.counting.specs.Passes.{CountedTo, AllWithin, ClearedTo, WrongAt, StepTried}
use Rattle.counting.specs.declared.Start.{Start}
use Rattle.counting.specs.declared.Wrong.{Wrong}
use Rattle.counting.specs.Numbers.{AllZero, PlacedHere, CountersTo, CountersAt, NotBefore, FirstNumber, Numbers, RuleTried}
use Rattle.counting.proofs.Count.{at_most, none_counts, at_most_passed, edge_hit, edge_miss}

-- ---- an edge counts at a node that owes a number exactly if it is placed there

module _ (G : Graph) (S : Schema) (s v : ℕ) (e : Edge) where
  placed_counts : (w : Way) → PlacedHere G S w s v e → Counts G.nodes S.nodes w (schema_edge_at S s) v e
  placed_counts out p = record { here = p.here; fits = p.placed.edge; far_end = p.placed.target }
  placed_counts into p = record { here = p.here; fits = p.placed.edge; far_end = p.placed.source }

  counts_placed : (w : Way) → Owes G S w s v → Counts G.nodes S.nodes w (schema_edge_at S s) v e → PlacedHere G S w s v e
  counts_placed out o c = record { here = c.here; placed = record { edge = c.fits; source = rw c.here o; target = c.far_end } }
  counts_placed into o c = record { here = c.here; placed = record { edge = c.fits; source = c.far_end; target = rw c.here o } }

module _ (G : Graph) (S : Schema) (w : Way) (s v : ℕ) {k : ℕ} where
  -- so that its counter is its number
  owed_number : Owes G S w s v → Counted (PlacedHere G S w s v) G.edges k → Number G S w s v k
  owed_number o c = counted_iff (λ e p. placed_counts G S s v e w p) (λ e p. counts_placed G S s v e w o p) c

  -- and the number of a violation is that of the counter
  number_counted : {j : ℕ} → Counted (PlacedHere G S w s v) G.edges k → Misnumbered G S w s v j → j ≡ k
  number_counted c x = counted_one x.counted (owed_number x.owes c)

module _ {n : Trailer} {b : Body} {m : Trailer} {d : Body} (r : Sound n b m d) (w : Way) where
  -- ---- one edge more

  module _ (s e : ℕ) (h : e < n.edges) {cs : List ℕ} (c : CountedTo (graph_of n b) (schema_of m d) w s e cs) where
    pub edge_counts :
        (u : ℕ) → u ≡ near w (source_at file.Graph b.edges e) (target_at file.Graph b.edges e) → PlacedAt (graph_of n b) (schema_of m d) e s
        → CountedTo (graph_of n b) (schema_of m d) w s (e + 1) (set cs u (get_or cs u 0 + 1))
    edge_counts u p q =
        let x : u ≡ near w (edge_at (graph_of n b) e).source (edge_at (graph_of n b) e).target = p ∙ near_end r w e h in
        let y = near_below r w e h in
        let l = r.nodes in
        edge_hit _ _ w s e (rw graph_edges h) c u (omega arith) (record { here = sym x; placed = q })

    pub edge_counts_not : ¬ PlacedAt (graph_of n b) (schema_of m d) e s → CountedTo (graph_of n b) (schema_of m d) w s (e + 1) cs
    edge_counts_not q = edge_miss _ _ w s e (rw graph_edges h) c q

    -- no counter is above the edges passed
    pub passed_most : (u : ℕ) → u < most_nodes → get_or cs u 0 ≤ e
    passed_most u l = at_most_passed (graph_of n b).edges e (rw graph_edges (omega arith)) (c.counted u l)

  -- the near end of an edge is one of the nodes that there may be
  pub near_small : {e u : ℕ} → e < n.edges → u ≡ near w (source_at file.Graph b.edges e) (target_at file.Graph b.edges e) → u < most_nodes
  near_small {e} h x = omega (arith, near_below r w e h, r.nodes)

  -- ---- whether a node's number is wrong: by its mask, its counter and the interval, with what is read of the schema edge

  module _ {masks : List ℕ} (k : MasksTo (graph_of n b) (schema_of m d) (length (graph_of n b).nodes) masks) {s : ℕ} (h : s < m.edges) where
    owed : (v : ℕ) → v < n.nodes → HasLabel (get_or masks v 0) (near w (source_at file.Schema d.edges s) (target_at file.Schema d.edges s)) ↔ Owes (graph_of n b) (schema_of m d) w s v
    owed v l =
        rw (← schema_near r w s h)
        ((k.passed v (rw graph_nodes l)).bits (near w (source_at file.Schema d.edges s) (target_at file.Schema d.edges s)) (rw schema_nodes (schema_near_below r w s h)))

    module _
        {end least most from : ℕ}
        {cs : List ℕ}
        (x : end ≡ near w (source_at file.Schema d.edges s) (target_at file.Schema d.edges s))
        (y : least ≡ near w (little 4 d.edges (40 * s + 32)) (little 4 d.edges (40 * s + 24)))
        (z : most ≡ near w (little 4 d.edges (40 * s + 36)) (little 4 d.edges (40 * s + 28)))
        (c : CountersTo (graph_of n b) (schema_of m d) w s from cs)
      where
        wrong_iff : (v : ℕ) → from ≤ v → v < n.nodes → (HasLabel (get_or masks v 0) end × ¬ Within (get_or cs v 0) (interval_of least most)) ↔ WrongAt (graph_of n b) (schema_of m d) w s v
        wrong_iff v a l =
            let i = interval_is w d.edges s least most y z ∙ sym (schema_across r w s h) in
            let few = r.nodes in
            let j = c.ahead v a (omega arith) in
            rw (x, i) (
              λ p.
                  let o = (owed v l).0 p.0 in
                  (_, record { schema_edge = rw schema_edges h; node = rw graph_nodes l; owes = o; counted = owed_number _ _ w s v o j; wrong = p.1 }),
              λ q. ((owed v l).1 q.1.owes, λ p. q.1.wrong (rw (number_counted _ _ w s v j q.1) p)),
            )

        none_wrong : (v : ℕ) → v ≤ n.nodes → AllWithin end (interval_of least most) masks cs from v → Every v (λ k. ¬ From from (WrongAt (graph_of n b) (schema_of m d) w s) k)
        none_wrong v l f k g p = let q = (wrong_iff k p.0 (omega arith)).1 p.1 in q.1 (f k g p.0 q.0)

        -- counters that are cleared up to a node are gone through up to it
        gone_through : (v : ℕ) → from ≤ v → {l : List ℕ} → ClearedTo cs v l → CountersTo (graph_of n b) (schema_of m d) w s v l
        gone_through v a q = record { sized = q.sized; passed = q.passed; ahead = λ k g f. rw (q.ahead k g f) (c.ahead k (omega arith) f) }

        pub step_found :
            (v : ℕ) → from ≤ v → v < n.nodes → HasLabel (get_or masks v 0) end → ¬ Within (get_or cs v 0) (interval_of least most) → AllWithin end (interval_of least most) masks cs from v
            → {l : List ℕ} → ClearedTo cs v l → StepTried (Some v) (graph_of n b) (schema_of m d) w s from l
        step_found v a l p q f e =
            record {
              found = record { below = rw graph_nodes l; holds = (a, (wrong_iff v a l).0 (p, q)); before = none_wrong v (omega arith) f };
              table = gone_through v a e;
            }

        pub step_passed :
            from ≤ n.nodes → AllWithin end (interval_of least most) masks cs from n.nodes → {l : List ℕ} → ClearedTo cs n.nodes l
            → StepTried None (graph_of n b) (schema_of m d) w s from l
        step_passed a f e = rw graph_nodes (record { found = none_wrong n.nodes (omega arith) f; table = gone_through n.nodes a e })

  -- ---- what judging asks for

  -- the near end of a schema edge is one of 32
  pub end_small : {s end : ℕ} → s < m.edges → end ≡ near w (source_at file.Schema d.edges s) (target_at file.Schema d.edges s) → end < 32
  end_small {s} h x = omega (arith, schema_near_below r w s h, r.schema_nodes)

  -- no counter is above the edges that there may be
  pub counters_small : {s from : ℕ} {cs : List ℕ} → CountersTo (graph_of n b) (schema_of m d) w s from cs → Every most_nodes (λ v. get_or cs v 0 ≤ most_edges)
  counters_small {s} {from} {cs} c v l = row (dec_lt v from)
    where
      row : Dec (v < from) → get_or cs v 0 ≤ most_edges
      row (yes h) = omega (arith, c.passed v h)
      row (no h) = omega (arith, rw graph_edges at (at_most (c.ahead v (omega arith) l)), r.edges)

  -- a node that a step finds is one of the nodes that there may be
  pub found_small : {s from v : ℕ} {cs : List ℕ} → StepTried (Some v) (graph_of n b) (schema_of m d) w s from cs → v < most_nodes
  found_small x = let h = rw graph_nodes at x.found.below in omega (arith, r.nodes)

  -- ---- all counters are zero once all nodes are passed: those behind are no node's

  pub passed_zero : (s : ℕ) (cs : List ℕ) → CountersTo (graph_of n b) (schema_of m d) w s (length (graph_of n b).nodes) cs → AllZero cs
  passed_zero s cs c = record { sized = c.sized; zero = λ v l. row v l (dec_lt v n.nodes) }
    where
      row : (v : ℕ) → v < most_nodes → Dec (v < n.nodes) → get_or cs v 0 ≡ 0
      row v l (yes h) = c.passed v (rw graph_nodes h)
      row v l (no h) =
          none_counts no_edge
          (λ e k p.
          let g : e < n.edges = rw graph_edges at k in
          let x = near_below r w e g in
          omega (arith, near_end r w e g, p.here))
          (c.ahead v (rw graph_nodes (omega arith)) l)

-- and an array of zeros is
pub zeros : AllZero (replicate most_nodes 0)
zeros = record { sized = length-replicate {A = ℕ} most_nodes 0; zero = λ v h. get_or-replicate {A = ℕ} most_nodes v 0 0 h }

-- ---- a step

module _ (G : Graph) (S : Schema) (w : Way) (s : ℕ) (cs : List ℕ) where
  -- counters that are gone through up to a node are cleared up to it
  pub cleared : {from : ℕ} → CountersTo G S w s from cs → ClearedTo cs from cs
  cleared c = record { sized = c.sized; passed = c.passed; ahead = λ v h l. refl }

-- ---- a rule

module _ (G : Graph) (S : Schema) (w : Way) (s : ℕ) {cs : List ℕ} where
  -- counters that are all zero are those of a schema edge of which no node is passed
  pub zeros_at : AllZero cs → CountersAt G S w s 0 cs
  zeros_at z = record { none_passed = λ _. z; some_passed = λ h. absurd (omega arith) }

  -- where no schema edge is left, no node of one is passed
  pub zeros_left : {v : ℕ} → length S.edges ≤ s → CountersAt G S w s v cs → AllZero cs
  zeros_left {v} h c = c.none_passed (by_dec (ℕ_discrete v 0) (λ n. let l = (c.some_passed (omega arith)).0 in omega arith))

module _ (x : Start) (G : Graph) (S : Schema) where
  -- the rule has come to node v of schema edge s: each violation that does not come before its start does not come before these
  pub record Reached (s v : ℕ) : Type 0 where
    pub not_before : NotBefore x s v
    pub passed : (t u j : ℕ) → Misnumbered G S (way_of x.way) t u j → NotBefore x t u → (s ≤ t) × (s ≡ t → v ≤ u)

  module _ {s from : ℕ} (r : Reached s from) where
    -- none at this schema edge from this node on: the next one is reached
    pub none_here : {cs : List ℕ} → StepTried None G S (way_of x.way) s from cs → Reached (s + 1) 0
    none_here z =
        record {
          not_before = (omega (arith, r.not_before.0), λ e. absurd (omega (arith, r.not_before.0)));
          passed = λ t u j y b.
              let p = r.passed t u j y b in
              let n : ¬ (s ≡ t) = λ e. z.found u y.node (p.1 e, (j, rw e y)) in
              (omega (arith, p.0), λ _. omega arith);
        }

    -- the lowest node at the first schema edge that has one
    pub first_here : {cs : List ℕ} (v : ℕ) → length G.nodes ≤ most_nodes → StepTried (Some v) G S (way_of x.way) s from cs → FirstNumber x G S s v (get_or cs v 0)
    first_here v few z =
        let l = z.found in
        let h = l.below in
        let y = l.holds.1.1 in
        record {
          violates = rw (number_counted G S (way_of x.way) s v (z.table.ahead v (omega arith) (omega arith)) y) at y;
          not_before = (r.not_before.0, λ e. omega (arith, r.not_before.1 e, l.holds.0));
          first = λ t u j q b.
              let p = r.passed t u j q b in
              (p.0, λ e. let o : ¬ (u < v) = λ i. l.before u i (p.1 e, (j, rw e q)) in omega arith);
        }

    -- no schema edge is left
    pub none_left : length S.edges ≤ s → Numbers None x G S
    none_left h t u j y b = let l = y.schema_edge in omega (arith, (r.passed t u j y b).0)

  -- whoever calls again finds the counters as they have to be: behind a violation, and where the next rule begins
  module _ {cs : List ℕ} where
    pub counters_behind : {y : Wrong} → RuleTried (Some y) x G S cs → CountersAt G S (way_of x.way) y.edge (y.node + 1) cs
    counters_behind r = record { none_passed = λ e. absurd (omega arith); some_passed = λ _. (r.numbers.violates.schema_edge, r.counters) }

    pub counters_next : RuleTried None x G S cs → (w : Way) → CountersAt G S w 0 0 cs
    counters_next r w = zeros_at G S w 0 r.counters
