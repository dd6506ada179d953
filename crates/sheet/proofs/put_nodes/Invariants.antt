-- `put_nodes` writes row after row.
use mathlib.Core.Path.{◌≡◌}
use mathlib.Core.List.{List}
use Prim.Native.Nat.{ℕ, ◌+◌, ◌*◌}
use Rattle.meaning.specs.Bench as bench
use Rattle.little.specs.Little.{written}
use Rattle.writer.specs.TableRows.{rows_up_to}
use Rattle.sheet.specs.Tables.{node_row}
use Rattle.sheet.proofs.put_nodes.Given as goal

abbrev pub angle_node : ℕ → List ℕ
angle_node i = node_row bench.Angle (2 + 2 * i) 2

-- behind the rows of Sensor and Run
abbrev pub invariant-loop-i : goal.invariant-loop-i
invariant-loop-i l = l.nodes ≡ written l.initial.nodes 32 (rows_up_to l.i angle_node)
