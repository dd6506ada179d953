-- `same_labels` compares the label sets of two heads.
use mathlib.Core.Path.{ap, sym, ◌∙◌}
use Rattle.little.proofs.Promise.{says_eq}
use Rattle.layout.specs.Files.{body_in}
use Rattle.fitting.proofs.Laws.{labels_iff}
use Rattle.fitting.proofs.same_labels.Goals as goal

pub returns : goal.returns
returns c =
    let h = ap (λ x. x.labels) c.graph_head.ensures in
    let g = ap (λ x. x.labels) c.schema_head.ensures in
    let p = c.args.p.now in
    let same = labels_iff p.graph.numbers (body_in p.graph.bytes) p.schema.numbers (body_in p.schema.bytes) c.args.sort c.args.i c.args.j c.requires.0 c.requires.1 in
    says_eq _ _ (λ e. same.0 (sym h ∙ e ∙ g)) (λ x. h ∙ same.1 x ∙ sym g)
