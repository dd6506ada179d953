-- `read_further` reads line after line, and puts what each says behind what is there.
use mathlib.Core.Path.{◌≡◌, refl}
use mathlib.Core.List.{[]}
use Prim.Native.Nat.{ℕ, ◌+◌, ◌*◌}
use native.Mathlib.Omega.{arith}
use lib.ListN.{length, replicate, length-replicate}
use lib.Seq.{length-take-le}
use Rattle.sheet.specs.Tables.{property_row, angle_rows}
use Rattle.sheet.specs.Reads.{refused, says}
use Rattle.sheet.proofs.FairReading.{fair_angle}
use Rattle.writer.proofs.TableRows.{length_kept, none_put}
use Rattle.sheet.proofs.Progress.{begun, next_line, bad_line, one_too_many, all_said, whole_table, written_of, good_lent, serial_length, serial_short}
use Rattle.sheet.proofs.read_further.Goals as goal

-- the rows have room for the most angles
zeros_long : length (replicate {A = ℕ} 5792 0) ≡ 5792
zeros_long = length-replicate {A = ℕ} 5792 0

pub loop-at-init : goal.loop-at-init
loop-at-init c =
    let h = c.args.h in
    let one = length_kept (replicate {A = ℕ} 5792 0) c.put_property.new.rows 0 (property_row 0 5 h.serial 0) zeros_long (omega arith) c.put_property.ensures in
    let two = length_kept c.put_property.new.rows c.put_property-2.new.rows 16 (property_row 1 4 0 h.date) one (omega arith) c.put_property-2.ensures in
    (two, begun c.args.sheet.now c.requires c.put_property-2.new.rows (none_put 0 (λ i. []) 0 (λ i h. refl) c.put_property-2.new.rows 32))

pub returns-then-n-eq180 : goal.returns-then-n-eq180
returns-then-n-eq180 c = refused (one_too_many c.args.sheet.now c.requires c.loop-at.invariant.1 c.loop-at-test.true c.if-n-eq180.true) refl refl

pub returns-in_default : goal.returns-in_default
returns-in_default c = refused (bad_line c.args.sheet.now c.requires c.loop-at.invariant.1 c.loop-at-test.true (rw c.in_default.is at c.angle_line.ensures)) refl refl

pub put_angle-requires : goal.put_angle-requires
put_angle-requires c = (omega (arith, c.loop-at.invariant.0, c.loop-at.invariant.1.few, c.if-n-eq180.false), (fair_angle c.in-Some.ensures.says).finite)

pub loop-at-preserved : goal.loop-at-preserved
loop-at-preserved c =
    let l = c.loop-at in
    let a = c.in-Some.angle in
    let e = c.put_angle.ensures in
    (length_kept l.rows c.put_angle.new.rows (32 * l.n + 32) (angle_rows a) l.invariant.0 (omega (arith, l.invariant.1.few, c.if-n-eq180.false)) e, next_line c.args.sheet.now c.requires l.invariant.1 c.in-Some.ensures c.if-n-eq180.false c.put_angle.new.rows e)

pub write_tables-requires : goal.write_tables-requires
write_tables-requires c =
    let l = c.loop-at in
    let table = whole_table c.args.sheet.now c.requires c.loop-at.invariant.1 (replicate {A = ℕ} 5792 0) c.put_property.new.rows c.put_property.ensures c.put_property-2.ensures in
    (l.invariant.1.few, length-take-le (32 * l.n + 32) l.rows (omega (arith, l.invariant.0, l.invariant.1.few)), omega (arith, serial_length c.args.sheet.now c.requires, serial_short c.args.sheet.now c.requires), good_lent c.args.sheet.now c.requires l.invariant.1 (λ h. absurd (omega (arith, c.loop-at-test.false))) table)

pub returns : goal.returns
returns c =
    let l = c.loop-at in
    let table = whole_table c.args.sheet.now c.requires c.loop-at.invariant.1 (replicate {A = ℕ} 5792 0) c.put_property.new.rows c.put_property.ensures c.put_property-2.ensures in
    says (all_said c.args.sheet.now c.requires l.invariant.1 (λ h. absurd (omega (arith, c.loop-at-test.false)))) (written_of c.args.sheet.now c.requires l.invariant.1 table c.write_tables.ensures)
