-- `place_of` keeps an edge's lowest place as alone, if no two schema edges have one label set, or if it finds no other behind it.
use native.Mathlib.Omega.{arith}
use Rattle.layout.specs.Files.{body_in}
use Rattle.layout.proofs.Accepted.{schema_edges}
use Rattle.parts.specs.Accepted.{graph_at, schema_at}
use Rattle.fitting.proofs.Laws.{sound}
use Rattle.placing.specs.PlacedEdges.{alone, several}
use Rattle.placing.proofs.Kept.{apart_alone}
use Rattle.placing.proofs.place_of.Goals as goal

pub overflow_cast-result : goal.overflow_cast-result
overflow_cast-result c = omega (arith, c.requires.lowest.below, (sound c.args.p.now).schema_edges)

pub returns-then-apart : goal.returns-then-apart
returns-then-apart c =
    let e = schema_edges c.args.p.now.schema.numbers (body_in c.args.p.now.schema.bytes) in
    apart_alone (graph_at c.args.p.now.graph) (schema_at c.args.p.now.schema) c.args.e (rw c.if-apart.true at c.requires.masked.2) (rw e c.requires.lowest)

pub overflow_step-k : goal.overflow_step-k
overflow_step-k c = omega (arith, c.requires.lowest.below, (sound c.args.p.now).schema_edges)

pub returns-then-placed : goal.returns-then-placed
returns-then-placed c =
    let e = schema_edges c.args.p.now.schema.numbers (body_in c.args.p.now.schema.bytes) in
    several (omega arith) (rw e c.loop-k-test.true) c.requires.lowest.holds (rw c.if-placed.true at c.placed.ensures)

pub overflow_cast-result-2 : goal.overflow_cast-result-2
overflow_cast-result-2 c = omega (arith, c.requires.lowest.below, (sound c.args.p.now).schema_edges)

pub returns : goal.returns
returns c =
    let e = schema_edges c.args.p.now.schema.numbers (body_in c.args.p.now.schema.bytes) in
    alone {s = c.args.s} (rw e c.requires.lowest.below) c.requires.lowest.holds (λ k h p. c.loop-k.invariant k (let g = rw e at h in omega arith) p)
