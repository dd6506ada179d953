-- `put_nodes` writes row after row.
use mathlib.Core.Path.{◌≡◌, refl}
use mathlib.Core.List.{◌++◌}
use Prim.Native.Nat.{◌+◌, ◌*◌}
use native.Mathlib.Omega.{arith}
use Rattle.meaning.specs.Bench as bench
use Rattle.writer.proofs.Laws.{then}
use Rattle.writer.specs.TableRows.{rows_up_to}
use Rattle.writer.proofs.TableRows.{next_put}
use Rattle.sheet.specs.Tables.{node_row}
use Rattle.sheet.proofs.put_nodes.Invariants.{angle_node}
use Rattle.sheet.proofs.put_nodes.Goals as goal

pub loop-i-preserved : goal.loop-i-preserved
loop-i-preserved c =
    let l = c.loop-i in
    let place : 16 * (l.i + 2) ≡ 32 + 16 * l.i = omega arith in
    let first : 2 * l.i + 2 ≡ 2 + 2 * l.i = omega arith in
    next_put 16 angle_node l.i (λ i h. refl) c.put_node-2.new.nodes 32 l.nodes _ l.i (omega arith) l.invariant (rw (place, first) at c.put_node-in-loop-i.ensures)

pub returns : goal.returns
returns c =
    let l = c.loop-i in
    let s = c.args.nodes.now in
    let all : l.i ≡ c.args.n = omega arith in
    let two = then s _ _ 0 (node_row bench.Sensor 0 1) (node_row bench.Run 1 1) c.put_node.ensures c.put_node-2.ensures in
    then s _ _ 0 (node_row bench.Sensor 0 1 ++ node_row bench.Run 1 1) (rows_up_to c.args.n angle_node) two (rw all at l.invariant)
