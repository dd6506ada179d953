-- `tell_unfit` tells of a node or an edge that fits nothing: by the lowest schema object that has its label set, or that none has it.
use native.Mathlib.Omega.{arith}
use Rattle.layout.proofs.Search.{lowest_from, none_from}
use Rattle.fitting.proofs.Laws.{sound}
use Rattle.telling.proofs.Laws.{objects_few, shapes_few, tell_21_23, tell_22_24}
use Rattle.telling.proofs.tell_unfit.Goals as goal

pub returns-in-Nodes : goal.returns-in-Nodes
returns-in-Nodes c =
    let e = c.in-Nodes.is in
    rw e (rw e at (tell_21_23 (sound c.args.p.now) c.args.sort c.args.i (none_from (rw c.in_default.is at c.next_labels.ensures))))

pub returns-in-Edges : goal.returns-in-Edges
returns-in-Edges c =
    let e = c.in-Edges.is in
    rw e (rw e at (tell_21_23 (sound c.args.p.now) c.args.sort c.args.i (none_from (rw c.in_default.is at c.next_labels.ensures))))

pub tell_record-requires : goal.tell_record-requires
tell_record-requires c =
    let j = rw c.in-Some.is at c.next_labels.ensures in
    let r = sound c.args.p.now in
    (omega (arith, c.requires.0, objects_few r c.args.sort), omega (arith, j.below, shapes_few r c.args.sort))

pub returns : goal.returns
returns c =
    rw c.tell_record.ensures
    (tell_22_24 (sound c.args.p.now) c.args.sort c.args.i _ _ c.requires.1 (lowest_from (rw c.in-Some.is at c.next_labels.ensures)) (rw c.in-Err.is at c.object_test.ensures))
