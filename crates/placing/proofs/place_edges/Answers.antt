-- `place_edges` goes through the edges from one on: each edge passed has a place, and what is kept of it is stored.
use mathlib.Core.Path.{◌≡◌}
use native.Mathlib.Omega.{arith}
use borrow.Author.Count.{below_more}
use Rattle.meaning.specs.Rules.{EdgePlaced}
use Rattle.layout.specs.Files.{body_in}
use Rattle.layout.proofs.Accepted.{graph_edges, schema_edges}
use Rattle.layout.proofs.Search.{one_stored, found_same, found_apart}
use Rattle.parts.specs.Accepted.{graph_at, schema_at}
use Rattle.fitting.proofs.Laws.{sound}
use Rattle.fitting.proofs.Labels.{none_behind}
use Rattle.placing.proofs.place_edges.Goals as goal
use Rattle.placing.proofs.place_edges.Goals.{in_default, in-Some+then-placed}

pub loop-e-init : goal.loop-e-init
loop-e-init c = (λ k h f. absurd (omega (arith, f.0)), c.requires.from_le_edges.1)

pub search-init : goal.search-init
search-init c = (omega arith, λ k h. absurd (omega arith))

pub next_labels-requires : goal.next_labels-requires
next_labels-requires c = (c.loop-e-test.true, c.search.invariant.0)

pub placed-requires : goal.placed-requires
placed-requires c =
    let j = rw c.in-Some.is at c.next_labels.ensures in
    (c.requires.masked.0, c.loop-e-test.true, j.below)

pub overflow_add-s : goal.overflow_add-s
overflow_add-s c =
    let j = rw c.in-Some.is at c.next_labels.ensures in
    omega (arith, (sound c.args.p.now).schema_edges, j.below)

pub search-smaller : goal.search-smaller
search-smaller c =
    let j = rw c.in-Some.is at c.next_labels.ensures in
    omega (arith, j.holds.0, j.below)

pub search-preserved : goal.search-preserved
search-preserved c =
    let j = rw c.in-Some.is at c.next_labels.ensures in
    (omega (arith, j.below), below_more _ _ (none_behind (λ k p. p.edge.labels) c.search.invariant.1 j.before) (rw c.if-placed.false at c.placed.ensures))

pub returns-in_default-place : goal.returns-in_default-place
returns-in_default-place c =
    let n : ¬ EdgePlaced (graph_at c.args.p.now.graph) (schema_at c.args.p.now.schema) c.loop-e.e =
    elim c.match-next_labels.branch [
      | in_default w ↦ λ q.
          none_behind (λ k p. p.edge.labels) c.search.invariant.1 (rw w.in_default.is at c.next_labels.ensures) q.0
          (rw (schema_edges c.args.p.now.schema.numbers (body_in c.args.p.now.schema.bytes)) at q.1) q.2
      | in-Some+then-placed w ↦ λ q. found_apart w.place-is c.in_default-place.is
    ] in
    record { found = record { below = rw graph_edges c.loop-e-test.true; holds = (omega arith, n); before = c.loop-e.invariant.0 }; table = c.loop-e.invariant.1 }

pub place_of-requires : goal.place_of-requires
place_of-requires c =
    record {
      masked = (c.requires.masked.0, c.loop-e-test.true, c.requires.masked.1);
      lowest = elim c.match-next_labels.branch [
        | in_default w ↦ absurd (found_apart c.in-Some-place.is w.place-is)
        | in-Some+then-placed w ↦
            let j = rw w.in-Some.is at c.next_labels.ensures in
            rw (found_same c.in-Some-place.is w.place-is)
            (record { below = j.below; holds = rw w.if-placed.true at w.placed.ensures; before = none_behind (λ k p. p.edge.labels) c.search.invariant.1 j.before })
      ];
    }

pub bounds-places-e : goal.bounds-places-e
bounds-places-e c = omega (arith, c.loop-e-test.true, (sound c.args.p.now).edges)

pub loop-e-preserved : goal.loop-e-preserved
loop-e-preserved c =
    let h = c.loop-e-test.true in
    let k = (sound c.args.p.now).edges in (
      below_more _ _ c.loop-e.invariant.0
          (elim c.match-next_labels.branch [
            | in_default w ↦ λ f. absurd (found_apart c.in-Some-place.is w.place-is)
            | in-Some+then-placed w ↦ λ f.
                let j = rw w.in-Some.is at c.next_labels.ensures in
                f.1 (_, rw (schema_edges c.args.p.now.schema.numbers (body_in c.args.p.now.schema.bytes)) j.below, rw w.if-placed.true at w.placed.ensures)
          ]),
      one_stored (omega arith) c.loop-e.invariant.1 _ c.place_of.ensures,
    )

pub returns : goal.returns
returns c =
    let l = c.loop-e in
    let n = graph_edges c.args.p.now.graph.numbers (body_in c.args.p.now.graph.bytes) in
    let e : l.e ≡ c.args.p.now.graph.numbers.edges = omega arith in
    record { found = λ k h. l.invariant.0 k (let g = rw n at h in omega arith); table = rw n (rw e at l.invariant.1) }
