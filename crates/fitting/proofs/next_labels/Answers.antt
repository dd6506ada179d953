-- `next_labels` goes through the schema's label sets stretch by stretch, and through the rest: none of those passed is the one that is looked for.
use mathlib.Core.Path.{◌≡◌}
use Prim.Native.Nat.{◌+◌, ◌-◌, ◌*◌, ◌/◌}
use native.Mathlib.Omega.{arith}
use Rattle.layout.specs.Files.{body_in}
use Rattle.parts.specs.Accepted.{schema_at}
use Rattle.fitting.specs.Objects.{shape_in}
use Rattle.fitting.proofs.Labels.{goes_on, found_sooner, to_the_end, labels_sought}
use Rattle.fitting.proofs.next_labels.Goals as goal

pub returns-then-is_some : goal.returns-then-is_some
returns-then-is_some c =
    let g = c.args.p.now.graph in
    let shapes = shape_in (schema_at c.args.p.now.schema) c.args.sort in
    found_sooner _ c.labels_within-found.result _ _ (omega (arith, c.count-count.ensures)) (rw c.is_some.ensures at c.if-is_some.true)
    (labels_sought g.numbers (body_in g.bytes) c.args.sort c.args.i c.requires.0 c.labels_within-found.result _ _ shapes
    (rw c.graph_head-labels.ensures at (goes_on (omega arith) c.loop-n.invariant c.labels_within-found.result _ c.labels_within-found.ensures)))

pub returns : goal.returns
returns c =
    let g = c.args.p.now.graph in
    let shapes = shape_in (schema_at c.args.p.now.schema) c.args.sort in
    let end : c.args.from + 8 * c.loop-n.n ≡ c.args.from + 8 * ((c.count-count.result - c.args.from) / 8) = omega (arith, c.loop-n.auto.n-end, c.loop-n-test.false) in
    to_the_end _ c.labels_within.result _ _ c.count-count.ensures
    (labels_sought g.numbers (body_in g.bytes) c.args.sort c.args.i c.requires.0 c.labels_within.result _ _ shapes
    (rw c.graph_head-labels.ensures at (goes_on (omega arith) (rw end at c.loop-n.invariant) c.labels_within.result _ c.labels_within.ensures)))
