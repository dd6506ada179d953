-- `date_at`: four digits, two and two, with a dash between.
use mathlib.Core.Path.{sym, ◌∙◌}
use Rattle.little.proofs.Promise.{said_no, said_yes}
use Rattle.lines.proofs.Dates.{parts_read, needs_month, needs_second_dash, needs_day, needs_good}
use Rattle.lines.proofs.date_at.Goals as goal

pub returns-in_err-month : goal.returns-in_err-month
returns-in_err-month c = rw c.from_residual-in_err-month.ensures (λ t rest n q e. needs_month c.args.s.now c.args.at rest q e c.in_ok-year.ensures c.in_err-month.ensures)

pub returns-then-byte_at-ne45-2 : goal.returns-then-byte_at-ne45-2
returns-then-byte_at-ne45-2 c t rest n q e = needs_second_dash c.args.s.now c.args.at rest q e c.in_ok-year.ensures c.in_ok-month.ensures (rw c.byte_at-2.ensures at c.if-byte_at-ne45-2.true)

pub returns-in_err-day : goal.returns-in_err-day
returns-in_err-day c = rw c.from_residual-in_err-day.ensures (λ t rest n q e. needs_day c.args.s.now c.args.at rest q e c.in_ok-year.ensures c.in_ok-month.ensures c.in_err-day.ensures)

pub returns-then-is_date : goal.returns-then-is_date
returns-then-is_date c =
    parts_read c.args.s.now c.args.at c.in_ok-year.ensures c.in_ok-month.ensures c.in_ok-day.ensures (sym c.byte_at.ensures ∙ c.if-byte_at-ne45.false) (sym c.byte_at-2.ensures ∙ c.if-byte_at-ne45-2.false)
    (said_yes c.is_date.result c.if-is_date.true c.is_date.ensures)

pub returns-else-is_date : goal.returns-else-is_date
returns-else-is_date c t rest n q e =
    needs_good c.args.s.now c.args.at rest q e c.in_ok-year.ensures c.in_ok-month.ensures c.in_ok-day.ensures (said_no c.is_date.result c.if-is_date.false c.is_date.ensures)
