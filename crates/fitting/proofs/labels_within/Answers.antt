-- `labels_within` goes through a stretch of label sets: none of those passed is the one that is looked for.
use mathlib.Core.Path.{ap, sym, ◌∙◌}
use native.Mathlib.Omega.{arith}
use borrow.Author.Count.{below_more}
use Rattle.layout.specs.Files.{body_in}
use Rattle.fitting.proofs.Laws.{shape_is}
use Rattle.fitting.proofs.labels_within.Goals as goal

pub returns-then-schema_head-labels : goal.returns-then-schema_head-labels
returns-then-schema_head-labels c =
    let s = c.args.p.now.schema in
    let is = shape_is s.numbers (body_in s.bytes) c.args.sort c.loop-at.at (omega arith) in
    record {
      below = c.loop-at-test.true;
      holds = (omega arith, sym c.if-schema_head-labels.true ∙ ap (λ x. x.labels) c.schema_head.ensures ∙ sym (ap (λ x. x.labels) is));
      before = c.loop-at.invariant;
    }

pub loop-at-preserved : goal.loop-at-preserved
loop-at-preserved c =
    let s = c.args.p.now.schema in
    let is = shape_is s.numbers (body_in s.bytes) c.args.sort c.loop-at.at (omega arith) in
    below_more _ _ c.loop-at.invariant (λ f. c.if-schema_head-labels.false (ap (λ x. x.labels) c.schema_head.ensures ∙ sym (ap (λ x. x.labels) is) ∙ sym f.1))
