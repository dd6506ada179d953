-- `put_rows` puts row after row.
use mathlib.Core.Path.{◌≡◌}
use Rattle.little.specs.Little.{written}
use Rattle.writer.specs.TableRows.{rows_up_to}
use Rattle.join.proofs.TableMoved.{row_in}
use Rattle.join.proofs.put_rows.Given as goal

abbrev pub invariant-loop-i : goal.invariant-loop-i
invariant-loop-i l = l.out ≡ written l.initial.out l.at (rows_up_to l.i (row_in l.m l.table))
