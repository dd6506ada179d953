-- What is needed of a reading so that its tables are good ones: every reading of a sheet is such.
use mathlib.Core.Path.{◌≡◌}
use Prim.Native.Nat.{ℕ, ◌^◌, ◌≤◌, ◌<◌}
use lib.ListN.{length, get_or}
use lib.IntN.{pos}
use lib.Ieee.{fin, binary64, of_bits, to_bits}
use mathlib.Core.Bool.{false}
use Rattle.layout.specs.Date.{IsDate}
use Rattle.layout.specs.Value.{signed, Finite}
use Rattle.lines.specs.declared.Angle.{Angle}
use Rattle.lines.specs.Sheet.{Reading}
use Rattle.sheet.specs.Tables.{twos}

-- values that their bits bring back
pub record FairAngle (a : Angle) : Type 0 where
  pub degrees : signed (twos a.degrees) ≡ a.degrees
  pub degrees_bits : twos a.degrees < 2 ^ 64
  pub finite : Finite a.coefficient
  pub coefficient : of_bits binary64 (to_bits binary64 a.coefficient) ≡ a.coefficient
  pub coefficient_bits : to_bits binary64 a.coefficient < 2 ^ 64

abbrev pub no_angle : Angle
no_angle = record { degrees = pos 0; coefficient = fin false 0 (pos 0) }

pub record Fair (r : Reading) : Type 0 where
  pub serial : length r.serial ≤ 32
  pub date : IsDate r.date
  pub few : length r.angles ≤ 180
  pub each : (i : ℕ) → i < length r.angles → FairAngle (get_or r.angles i no_angle)
