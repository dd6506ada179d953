-- `first_line`: a serial, a semicolon, a date and the end, one behind the other.
use mathlib.Core.Path.{sym, ◌∙◌}
use native.Mathlib.Omega.{arith}
use Rattle.lines.proofs.FirstLines.{serial_read, good_first, needs_serial, needs_short, needs_semicolon, needs_date, needs_end}
use Rattle.lines.proofs.first_line.Goals as goal
use Rattle.lines.proofs.first_line.Goals.{then-serial-lt1-via-then-serial-lt1, then-serial-lt1-via-else-serial-lt1+then-serial-gt32, then-serial-lt1-via-else-serial-lt1+else-serial-gt32+then-byte_at-ne59}

pub returns-then-serial-lt1 : goal.returns-then-serial-lt1
returns-then-serial-lt1 c q =
    let s = serial_read c.args.s.now c.serial_end-serial.ensures in
    elim c.then-serial-lt1.branch [
      | then-serial-lt1-via-then-serial-lt1 w ↦ needs_serial c.args.s.now s q w.if-serial-lt1.true
      | then-serial-lt1-via-else-serial-lt1+then-serial-gt32 w ↦ needs_short c.args.s.now s q (omega arith)
      | then-serial-lt1-via-else-serial-lt1+else-serial-gt32+then-byte_at-ne59 w ↦ needs_semicolon c.args.s.now s q (rw w.byte_at.ensures at w.if-byte_at-ne59.true)
    ]

pub returns-in_err-date : goal.returns-in_err-date
returns-in_err-date c = rw c.from_residual.ensures (λ q. needs_date c.args.s.now (serial_read c.args.s.now c.serial_end-serial.ensures) q c.in_err-date.ensures)

pub returns-in_err-next : goal.returns-in_err-next
returns-in_err-next c = rw c.from_residual-in_err-next.ensures (λ q. needs_end c.args.s.now (serial_read c.args.s.now c.serial_end-serial.ensures) q c.in_err-next.ensures)

pub returns : goal.returns
returns c =
    good_first c.args.s.now (serial_read c.args.s.now c.serial_end-serial.ensures) (omega arith) (omega arith) (sym c.byte_at.ensures ∙ c.if-byte_at-ne59.false) c.in_ok-date.ensures
    c.in_ok-next.ensures
