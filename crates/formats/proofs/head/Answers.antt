-- `head` reads the head of a row of the nodes or of the edges.
use mathlib.Core.Path.{sym}
use Rattle.formats.proofs.head.Goals as goal

pub head_at-requires : goal.head_at-requires
head_at-requires c =
    let f = c.form_of-m.ensures in
    let e = c.in-Nodes.is in
    (f.1, rw (f.0, e) (rw e at c.requires))

pub head_at-requires-in-Edges : goal.head_at-requires-in-Edges
head_at-requires-in-Edges c =
    let f = c.form_of-m.ensures in
    let e = c.in-Edges.is in
    (f.1, rw (f.0, e) (rw e at c.requires))

pub returns-in-Nodes : goal.returns-in-Nodes
returns-in-Nodes c = rw (sym c.form_of-m.ensures.0, c.in-Nodes.is) c.head_at.ensures

pub returns-in-Edges : goal.returns-in-Edges
returns-in-Edges c = rw (sym c.form_of-m.ensures.0, c.in-Edges.is) c.head_at-in-Edges.ensures
