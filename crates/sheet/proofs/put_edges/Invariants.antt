-- `put_edges` writes row after row.
use mathlib.Core.Path.{◌≡◌}
use mathlib.Core.List.{List}
use Prim.Native.Nat.{ℕ, ◌+◌, ◌*◌}
use Rattle.meaning.specs.Bench as bench
use Rattle.little.specs.Little.{written}
use Rattle.writer.specs.TableRows.{rows_up_to}
use Rattle.sheet.specs.Tables.{edge_row}
use Rattle.sheet.proofs.put_edges.Given as goal

abbrev pub at_edge : ℕ → ℕ → List ℕ
at_edge n i = edge_row bench.AT 1 (2 + i) (2 + 2 * n) 0

-- behind the row of OF
abbrev pub invariant-loop-i : goal.invariant-loop-i
invariant-loop-i l = l.edges ≡ written l.initial.edges 24 (rows_up_to l.i (at_edge l.n))
