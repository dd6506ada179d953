-- `find_fit` goes through the schema edges from one on, and stops at the first that an edge fits.
use Prim.Native.Nat.{ℕ}
use Rattle.std.proofs.Common.{rules}
use Rattle.std.proofs.lemmas.Iterator.{first_from_Range}
use Rattle.meaning.specs.Fits.{Fits}
use Rattle.layout.specs.declared.Sort.TheVariants.{Edges}
use Rattle.parts.specs.Accepted.{graph_at, schema_at}
use Rattle.fitting.specs.Objects.{object_in, shape_in}
use Rattle.telling.proofs.Laws.{lowest_found}
use Rattle.telling.proofs.find_fit.Goals as goal

pub returns : goal.returns
returns c =
    let p = c.args.p.now in
    let P : ℕ → Type 0 = λ s. Fits (object_in (graph_at p.graph) Edges c.args.e) (shape_in (schema_at p.schema) Edges s) in
    lowest_found c.find.result c.args.from _ P (first_from_Range _ _ _ _ P (λ s. ¬ P s) c.find.ensures.ran (λ x q k. search rules) (λ x q k. (search rules, search rules)))
