-- `check_rows`: a record is a row.
use Rattle.faults.specs.Lists.{row_of}
use Rattle.faults.proofs.check_rows.Given as goal

abbrev pub ghost-list_all : goal.ghost-list_all
ghost-list_all a = row_of
