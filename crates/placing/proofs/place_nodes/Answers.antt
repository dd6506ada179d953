-- `place_nodes` goes through the nodes from one on: those passed are placed, and their masks are stored.
use mathlib.Core.Path.{◌≡◌}
use native.Mathlib.Omega.{arith}
use borrow.Author.Count.{below_more}
use Rattle.layout.specs.Files.{body_in}
use Rattle.layout.proofs.Accepted.{graph_nodes}
use Rattle.layout.proofs.Search.{one_stored}
use Rattle.parts.specs.Accepted.{graph_at, schema_at}
use Rattle.fitting.proofs.Laws.{sound}
use Rattle.placing.proofs.Masks.{placed, not_placed}
use Rattle.placing.proofs.place_nodes.Goals as goal

pub loop-i-init : goal.loop-i-init
loop-i-init c = (λ k h f. absurd (omega (arith, f.0)), c.requires.1)

pub returns-then-mask-eq0 : goal.returns-then-mask-eq0
returns-then-mask-eq0 c =
    let G = graph_at c.args.p.now.graph in
    let S = schema_at c.args.p.now.schema in
    let l = c.loop-i in
    record {
      found = record {
        below = rw graph_nodes c.loop-i-test.true;
        holds = (omega arith, not_placed {G = G} {S = S} c.mask_of-mask.ensures c.if-mask-eq0.true);
        before = l.invariant.0;
      };
      table = l.invariant.1;
    }

pub offset_bounds-masks-i : goal.offset_bounds-masks-i
offset_bounds-masks-i c = omega (arith, (sound c.args.p.now).nodes)

pub bounds-masks-i : goal.bounds-masks-i
bounds-masks-i c = omega (arith, (sound c.args.p.now).nodes)

pub loop-i-preserved : goal.loop-i-preserved
loop-i-preserved c =
    let G = graph_at c.args.p.now.graph in
    let S = schema_at c.args.p.now.schema in
    let l = c.loop-i in
    let r = c.mask_of-mask.ensures in
    let m = (sound c.args.p.now).nodes in
    (below_more _ _ l.invariant.0 (λ f. f.1 (placed {G = G} {S = S} r c.if-mask-eq0.false)), one_stored (omega arith) l.invariant.1 _ r)

pub returns : goal.returns
returns c =
    let l = c.loop-i in
    let n = graph_nodes c.args.p.now.graph.numbers (body_in c.args.p.now.graph.bytes) in
    let e : l.i ≡ c.args.p.now.graph.numbers.nodes = omega arith in
    record { found = λ k h. l.invariant.0 k (let g = rw n at h in omega arith); table = rw n (rw e at l.invariant.1) }
