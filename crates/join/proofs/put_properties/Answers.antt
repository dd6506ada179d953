-- `put_properties` puts the nodes' rows of both, and then the edges'.
use native.Mathlib.Omega.{arith}
use Rattle.join.proofs.Rooms.{first_good, second_good, second_sound}
use Rattle.join.proofs.TablesReady.{first_few, second_few, first_rows, second_rows, rows_fit, text_room}
use Rattle.join.proofs.Puts.{front_ready, back_ready, both_put}
use Rattle.join.proofs.put_properties.Goals as goal

pub node_rows-p-requires : goal.node_rows-p-requires
node_rows-p-requires c = first_good c.args.g.now

pub node_rows-q-requires : goal.node_rows-q-requires
node_rows-q-requires c = second_good c.args.g.now

pub overflow_mul-width : goal.overflow_mul-width
overflow_mul-width c = rw c.width_of-width.ensures (omega (arith, first_few c.args.g.now c.node_rows-p.ensures))

pub split_at-requires : goal.split_at-requires
split_at-requires c = rw c.width_of-width.ensures (first_rows c.args.g.now c.node_rows-p.ensures)

pub overflow_mul-width-2 : goal.overflow_mul-width-2
overflow_mul-width-2 c = rw c.width_of-width.ensures (omega (arith, second_few c.args.g.now c.node_rows-q.ensures))

pub split_at-requires-2 : goal.split_at-requires-2
split_at-requires-2 c = rw c.width_of-width.ensures (omega (arith, second_rows c.args.g.now c.node_rows-q.ensures, (second_sound c.args.g.now).full.rows))

pub put_behind-requires : goal.put_behind-requires
put_behind-requires c =
    let g = c.args.g.now in
    rw (rw c.width_of-width.ensures at c.split_at.ensures.front, rw c.width_of-width.ensures at c.split_at-2.ensures.front)
    (front_ready g.first.bytes.rows.now g.second.bytes.rows.now c.node_rows-p.result g.second.numbers.rows c.node_rows-q.result g.first.numbers.text (first_rows g c.node_rows-p.ensures)
    (second_sound g).full.rows (second_rows g c.node_rows-q.ensures) c.args.at _ (rows_fit g c.args.at c.args.out.now c.requires) (text_room g))

pub overflow_sub-left : goal.overflow_sub-left
overflow_sub-left c = omega (arith, second_rows c.args.g.now c.node_rows-q.ensures)

pub put_behind-requires-2 : goal.put_behind-requires-2
put_behind-requires-2 c =
    let g = c.args.g.now in
    rw
    (rw c.width_of-width.ensures at c.split_at.ensures.front, rw c.width_of-width.ensures at c.split_at-2.ensures.front, rw c.width_of-width.ensures at c.split_at.ensures.back, rw c.width_of-width.ensures at c.split_at-2.ensures.back, c.put_behind.auto.out)
    (back_ready g.first.bytes.rows.now g.second.bytes.rows.now c.node_rows-p.result g.second.numbers.rows c.node_rows-q.result g.first.numbers.text (first_rows g c.node_rows-p.ensures)
    (second_sound g).full.rows (second_rows g c.node_rows-q.ensures) c.args.at _ (rows_fit g c.args.at c.args.out.now c.requires) (text_room g))

pub returns : goal.returns
returns c =
    let g = c.args.g.now in
    let a = rw c.width_of-width.ensures at c.split_at.ensures.front in
    let b = rw c.width_of-width.ensures at c.split_at-2.ensures.front in
    let behind_a = rw c.width_of-width.ensures at c.split_at.ensures.back in
    let behind_b = rw c.width_of-width.ensures at c.split_at-2.ensures.back in
    rw (c.node_rows-p.ensures, c.node_rows-q.ensures) at
    (both_put g.first.bytes.rows.now g.second.bytes.rows.now c.node_rows-p.result g.second.numbers.rows c.node_rows-q.result g.first.numbers.text (first_rows g c.node_rows-p.ensures)
    (second_sound g).full.rows (second_rows g c.node_rows-q.ensures) c.args.at c.args.out.now _ _ (rw (a, b) at c.put_behind.ensures) (rw (a, b, behind_a, behind_b) at c.put_behind-2.ensures))
