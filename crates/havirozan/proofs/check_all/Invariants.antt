-- `check_all`: a record is what is told, as it is.
use Rattle.telling.specs.Told.{finding_of}
use Rattle.havirozan.proofs.check_all.Given as goal

abbrev pub ghost-list_all : goal.ghost-list_all
ghost-list_all a = finding_of
