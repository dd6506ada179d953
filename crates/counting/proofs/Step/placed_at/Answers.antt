-- `placed_at` says whether an edge is placed at a step's schema edge: what is kept of it says so, unless it has several places.
use mathlib.Core.Logic.{⊎_elim}
use mathlib.Core.Path.{◌≡◌}
use lib.ListN.{get_or}
use native.Mathlib.Omega.{arith}
use Rattle.std.proofs.Common.{rules}
use Rattle.little.proofs.Promise.{says_eq}
use Rattle.layout.specs.Files.{most_schema_edges}
use Rattle.layout.proofs.Accepted.{graph_edges, schema_edges}
use Rattle.parts.specs.Accepted.{graph_at, schema_at}
use Rattle.fitting.proofs.Laws.{sound}
use Rattle.placing.specs.PlacedEdges.{PlacedAt}
use Rattle.placing.proofs.Kept.{placed_there, not_placed_there}
use Rattle.counting.proofs.Step.placed_at.Goals as goal

pub bounds-self-e : goal.bounds-self-e
bounds-self-e c = omega (arith, c.requires.1, (sound c.args.self.p.now).edges)

pub overflow_cast-s : goal.overflow_cast-s
overflow_cast-s c = omega (arith, c.requires.0.there, (sound c.args.self.p.now).schema_edges)

pub returns-then-place-s : goal.returns-then-place-s
returns-then-place-s c =
    let G = graph_at c.args.self.p.now.graph in
    let S = schema_at c.args.self.p.now.schema in
    let k = c.requires.0.kept in
    let there = placed_there G S c.args.e (rw schema_edges (sound c.args.self.p.now).schema_edges) c.args.self.edge (rw schema_edges c.requires.0.there)
    (k.places.passed c.args.e (rw graph_edges c.requires.1)) c.if-place-s.true in
    says_eq _ _ (λ _. there) (λ _. c.if-place-s.true)

pub returns-else-place-eq-SEVERAL : goal.returns-else-place-eq-SEVERAL
returns-else-place-eq-SEVERAL c =
    let G = graph_at c.args.self.p.now.graph in
    let S = schema_at c.args.self.p.now.schema in
    let k = c.requires.0.kept in
    let not_several : ¬ (get_or c.args.self.places.now c.args.e 0 ≡ most_schema_edges) = ⊎_elim (λ x. x.1) (λ no x. (rw no at c.requires.0.several) (c.args.e, c.requires.1, x)) c.if-place-eq-SEVERAL.either in
    let not_there : ¬ PlacedAt G S c.args.e c.args.self.edge = not_placed_there G S c.args.e (rw schema_edges (sound c.args.self.p.now).schema_edges) c.args.self.edge (rw schema_edges c.requires.0.there)
    (k.places.passed c.args.e (rw graph_edges c.requires.1)) c.if-place-s.false not_several in
    search rules
