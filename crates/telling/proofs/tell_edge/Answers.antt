-- `tell_edge` tells of an edge against rule 2, by the lowest schema edge that has its label set: the edge fits that one, or one behind it, or none.
use native.Mathlib.Omega.{arith}
use Rattle.layout.specs.declared.Sort.TheVariants.{Edges}
use Rattle.layout.proofs.Search.{lowest_from, none_from}
use Rattle.parts.specs.Accepted.{graph_at, schema_at}
use Rattle.fitting.specs.Objects.{object_in, shape_in}
use Rattle.fitting.proofs.Laws.{sound}
use Rattle.telling.proofs.Laws.{misfits, fits_behind, tell_21_23, tell_22_24}
use Rattle.telling.proofs.tell_edge.Goals as goal

pub returns-in_default : goal.returns-in_default
returns-in_default c = tell_21_23 (sound c.args.p.now) Edges c.args.e (none_from (rw c.in_default.is at c.next_labels.ensures))

pub overflow_add-j : goal.overflow_add-j
overflow_add-j c = omega (arith, c.in-Some.ensures, (sound c.args.p.now).schema_edges)

pub tell_ends-requires-in-Some-find_fit-clause-lowest : goal.tell_ends-requires-in-Some-find_fit-clause-lowest
tell_ends-requires-in-Some-find_fit-clause-lowest c =
    let l = lowest_from (rw c.in-Some.is at c.next_labels.ensures) in
    let w = rw c.in-Err.is at c.object_test.ensures in
    rw c.in-Some-find_fit.is at (fits_behind (object_in (graph_at c.args.p.now.graph) Edges c.args.e) (shape_in (schema_at c.args.p.now.schema) Edges) l (misfits _ w) c.find_fit.result c.find_fit.ensures)

pub tell_record-requires : goal.tell_record-requires
tell_record-requires c =
    let j = rw c.in-Some.is at c.next_labels.ensures in
    let r = sound c.args.p.now in
    (omega (arith, c.requires.1, r.edges), omega (arith, j.below, r.schema_edges))

pub returns-in-None : goal.returns-in-None
returns-in-None c =
    let l = lowest_from (rw c.in-Some.is at c.next_labels.ensures) in
    let w = rw c.in-Err.is at c.object_test.ensures in
    let n = fits_behind (object_in (graph_at c.args.p.now.graph) Edges c.args.e) (shape_in (schema_at c.args.p.now.schema) Edges) l (misfits _ w) c.find_fit.result c.find_fit.ensures in
    rw c.tell_record.ensures (tell_22_24 (sound c.args.p.now) Edges c.args.e _ _ (rw c.in-None.is at n) l w)
