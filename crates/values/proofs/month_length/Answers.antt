-- `month_length` reads the month's place in the year's row: 0 common, 1 leap.
use mathlib.Core.Bool.{Bool, true, false}
use Prim.Native.Nat.{ℕ}
use mir.Val.{bool_byte}
use Rattle.little.specs.Promise.{Says}
use Rattle.layout.specs.Date.{Leap, month_in, MonthLength, common, leap}
use Rattle.values.proofs.month_length.Goals as goal

month_in_lem : {y : ℕ} (m : ℕ) (b : Bool) → Says b (Leap y) → MonthLength y m (month_in (bool_byte b) m)
month_in_lem m true h = leap h
month_in_lem m false h = common h

pub returns : goal.returns
returns c = month_in_lem _ c.is_leap.result c.is_leap.ensures
