-- `put_edges` writes row after row.
use mathlib.Core.Path.{◌≡◌, refl}
use Prim.Native.Nat.{◌+◌, ◌*◌}
use native.Mathlib.Omega.{arith}
use Rattle.meaning.specs.Bench as bench
use Rattle.writer.proofs.Laws.{then}
use Rattle.writer.specs.TableRows.{rows_up_to}
use Rattle.writer.proofs.TableRows.{next_put}
use Rattle.sheet.specs.Tables.{edge_row}
use Rattle.sheet.proofs.put_edges.Invariants.{at_edge}
use Rattle.sheet.proofs.put_edges.Goals as goal

pub loop-i-preserved : goal.loop-i-preserved
loop-i-preserved c =
    let l = c.loop-i in
    let n = c.args.n in
    let place : 24 * (l.i + 1) ≡ 24 + 24 * l.i = omega arith in
    let target : l.i + 2 ≡ 2 + l.i = omega arith in
    let first : 2 * n + 2 ≡ 2 + 2 * n = omega arith in
    next_put 24 (at_edge n) l.i (λ i h. refl) c.put_edge.new.edges 24 l.edges _ l.i (omega arith) l.invariant (rw (place, target, first) at c.put_edge-in-loop-i.ensures)

pub returns : goal.returns
returns c =
    let l = c.loop-i in
    let n = c.args.n in
    let all : l.i ≡ n = omega arith in
    let first : 2 * n + 2 ≡ 2 + 2 * n = omega arith in
    then c.args.edges.now _ _ 0 (edge_row bench.OF 1 0 (2 + 2 * n) 0) (rows_up_to n (at_edge n)) (rw first at c.put_edge.ensures) (rw all at l.invariant)
