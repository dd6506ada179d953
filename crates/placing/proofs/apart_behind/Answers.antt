-- `apart_behind` goes through the schema edges behind one: none of those passed has its label set.
use mathlib.Core.Path.{ap, sym, ◌∙◌}
use native.Mathlib.Omega.{arith}
use borrow.Author.Count.{below_more}
use Rattle.layout.specs.declared.Sort.TheVariants.{Edges}
use Rattle.layout.specs.Files.{body_in}
use Rattle.layout.proofs.Accepted.{schema_edges}
use Rattle.fitting.proofs.Laws.{shape_is}
use Rattle.placing.proofs.apart_behind.Goals as goal

pub returns-then-head-labels : goal.returns-then-head-labels
returns-then-head-labels c a =
    let h = c.loop-j-test.true in
    let is = shape_is c.args.schema.now.numbers (body_in c.args.schema.now.bytes) Edges in
    a c.loop-j.j (rw schema_edges h) (omega arith)
    (ap (λ x. x.labels) (is c.loop-j.j h) ∙ sym (ap (λ x. x.labels) c.head.ensures) ∙ c.if-head-labels.true ∙ ap (λ x. x.labels) c.head-labels.ensures
    ∙ sym (ap (λ x. x.labels) (is c.args.s c.requires.1)))

pub loop-j-preserved : goal.loop-j-preserved
loop-j-preserved c =
    let h = c.loop-j-test.true in
    let is = shape_is c.args.schema.now.numbers (body_in c.args.schema.now.bytes) Edges in
    below_more _ _ c.loop-j.invariant
    (λ g x.
    c.if-head-labels.false
    (ap (λ x. x.labels) c.head.ensures ∙ sym (ap (λ x. x.labels) (is c.loop-j.j h)) ∙ x ∙ ap (λ x. x.labels) (is c.args.s c.requires.1)
    ∙ sym (ap (λ x. x.labels) c.head-labels.ensures)))

pub returns : goal.returns
returns c = λ k h f. c.loop-j.invariant k (let g = rw schema_edges at h in omega arith) f
