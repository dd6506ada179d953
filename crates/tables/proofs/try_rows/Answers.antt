-- `try_rows` tries the refusals of rows, in the order of their codes.
use Rattle.tables.proofs.Laws.{at_first, refuse_rest}
use Rattle.tables.proofs.try_rows.Goals as goal

pub walk_through-requires-clause-stands : goal.walk_through-requires-clause-stands
walk_through-requires-clause-stands c = at_first c.requires

pub returns-in-None : goal.returns-in-None
returns-in-None c = let w = c.in_ok-q.ensures in refuse_rest c.in_ok-p.ensures.0 w (rw c.in-None.is at w.1.bad) c.if-q-n.true
