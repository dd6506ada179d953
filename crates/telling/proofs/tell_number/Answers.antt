-- `tell_number` tells of a wrong number: below the least number across it is too few, and else, being wrong, too many.
use Rattle.layout.specs.Ways.{way_of}
use Rattle.fitting.proofs.Laws.{sound}
use Rattle.telling.proofs.Laws.{wrong_edge, tell_few, tell_many}
use Rattle.telling.proofs.tell_number.Goals as goal

pub least-least-requires : goal.least-least-requires
least-least-requires c = wrong_edge (sound c.args.p.now) _ _ _ _ c.requires

pub returns-in-Out : goal.returns-in-Out
returns-in-Out c =
    let e = c.in-Out.is in
    rw e (rw e at (tell_few (sound c.args.p.now) (way_of c.args.way) _ _ _ c.requires (rw c.least-least.ensures at c.if-k-least.true)))

pub returns-in-Out-2 : goal.returns-in-Out-2
returns-in-Out-2 c =
    let e = c.in-Out.is in
    rw e (rw e at (tell_many (sound c.args.p.now) (way_of c.args.way) _ _ _ c.requires (rw c.least-least.ensures at c.if-k-least.false)))

pub returns-in-Into : goal.returns-in-Into
returns-in-Into c =
    let e = c.in-Into.is in
    rw e (rw e at (tell_few (sound c.args.p.now) (way_of c.args.way) _ _ _ c.requires (rw c.least-least.ensures at c.if-k-least-2.true)))

pub returns-in-Into-2 : goal.returns-in-Into-2
returns-in-Into-2 c =
    let e = c.in-Into.is in
    rw e (rw e at (tell_many (sound c.args.p.now) (way_of c.args.way) _ _ _ c.requires (rw c.least-least.ensures at c.if-k-least-2.false)))
