-- `find_tables`: the refusal that the reader tells, or the tables that it gives.
use Rattle.havirozan.specs.TablePlaces.{refused, found}
use Rattle.havirozan.proofs.Laws.{small_tables}
use Rattle.havirozan.proofs.find_tables.Goals as goal

pub places_of-requires : goal.places_of-requires
places_of-requires c = let r = rw c.in-Ok.is at c.read_file.ensures in small_tables r.0 r.1

pub returns-in-Ok : goal.returns-in-Ok
returns-in-Ok c = let r = rw c.in-Ok.is at c.read_file.ensures in rw (c.places_of.ensures, r.1) (found r.0)

pub returns-in-Err : goal.returns-in-Err
returns-in-Err c = rw c.refused.ensures (refused (rw c.in-Err.is at c.read_file.ensures))
