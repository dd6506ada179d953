-- `new` takes an accepted file's tables where they lie.
use mathlib.Core.Path.{refl}
use Rattle.parts.proofs.Laws.{ordered, good_tables}
use Rattle.parts.proofs.FileTables.new.Goals as goal

pub table_bytes-requires : goal.table_bytes-requires
table_bytes-requires c = ordered c.requires

pub returns : goal.returns
returns c = record { numbers = refl; bytes = c.table_bytes.ensures; good = good_tables c.requires _ refl c.table_bytes.ensures }
