-- A small sheet, computed: `S;2026-01-01`, `10;1,05`, both ended by LF, and `-5;-0`, ended by CR LF. What it says, and its file byte for byte.
use mathlib.Core.Path.{◌≡◌, refl, sym, ap}
use mathlib.Core.Bool.{true, false}
use mathlib.Core.List.{List, [], ◌∷◌, ◌++◌}
use Prim.Native.Nat.{ℕ, ◌≤◌}
use native.Mathlib.Omega.{arith}
use lib.ListN.{length, drop}
use lib.IntN.{pos, negsuc}
use lib.Ieee.{round, to_bits}
use Rattle.layout.specs.Date.{common, IsDate}
use Rattle.writer.specs.GraphFile.{file_of}
use Rattle.writer.specs.Outcome.{outcome, wrote}
use Rattle.lines.specs.declared.Angle.{Angle}
use Rattle.lines.specs.Digits.{unsigned, negative}
use Rattle.lines.specs.Line.{by_lf, by_cr_lf, quotient, none, some, FirstLine, AngleLine}
use Rattle.lines.specs.Sheet.{lines_of, Reading, SheetSays}
use Rattle.sheet.specs.Tables.{sheet_tables}
use Rattle.sheet.specs.Reads.{ReadsSheet, says}
use Rattle.sheet.proofs.Written.{never_41}

-- ---- what the sheet says, line by line

abbrev first : List ℕ
first = 0x53 ∷ 0x3B ∷ 0x32 ∷ 0x30 ∷ 0x32 ∷ 0x36 ∷ 0x2D ∷ 0x30 ∷ 0x31 ∷ 0x2D ∷ 0x30 ∷ 0x31 ∷ 0x0A ∷ []

abbrev second : List ℕ
second = 0x31 ∷ 0x30 ∷ 0x3B ∷ 0x31 ∷ 0x2C ∷ 0x30 ∷ 0x35 ∷ 0x0A ∷ []

abbrev third : List ℕ
third = 0x2D ∷ 0x35 ∷ 0x3B ∷ 0x2D ∷ 0x30 ∷ 0x0D ∷ 0x0A ∷ []

abbrev pub sheet : List ℕ
sheet = first ++ second ++ third

-- "1,05" is 105 divided by 100, and "-0" is negative zero
abbrev ten : Angle
ten = record { degrees = pos 10; coefficient = quotient false 105 2 }

abbrev minus_five : Angle
minus_five = record { degrees = negsuc 4; coefficient = quotient true 0 0 }

abbrev pub reading : Reading
reading = record { serial = 0x53 ∷ []; date = 20260101; angles = ten ∷ minus_five ∷ [] }

-- 4 does not divide 2026
is_date : IsDate 20260101
is_date =
    record {
      year = 2026;
      month = 1;
      day = 1;
      last = 31;
      number = refl;
      year_from = omega arith;
      year_to = omega arith;
      month_from = omega arith;
      month_to = omega arith;
      day_from = omega arith;
      days = common (λ l. absurd (omega (arith, l.four)));
      day_to = omega arith;
    }

first_says : FirstLine first (0x53 ∷ []) 20260101
first_says =
    record {
      dated = 0x32 ∷ 0x30 ∷ 0x32 ∷ 0x36 ∷ 0x2D ∷ 0x30 ∷ 0x31 ∷ 0x2D ∷ 0x30 ∷ 0x31 ∷ [];
      end = 0x0A ∷ [];
      text = refl;
      named = omega arith;
      says =
          record {
            year = 0x32 ∷ 0x30 ∷ 0x32 ∷ 0x36 ∷ [];
            month = 0x30 ∷ 0x31 ∷ [];
            day = 0x30 ∷ 0x31 ∷ [];
            text = refl;
            year_digits = omega arith;
            month_digits = omega arith;
            day_digits = omega arith;
            value = refl;
            good = is_date;
          };
      ended = by_lf;
    }

second_says : AngleLine second ten
second_says =
    record {
      turned = 0x31 ∷ 0x30 ∷ [];
      measured = 0x31 ∷ 0x2C ∷ 0x30 ∷ 0x35 ∷ [];
      end = 0x0A ∷ [];
      text = refl;
      degrees =
          record {
            negative = false;
            digits = 0x31 ∷ 0x30 ∷ [];
            says = record { sign = []; text = refl; minus = unsigned; few = omega arith };
            value = refl;
          };
      coefficient =
          record {
            negative = false;
            whole = 0x31 ∷ [];
            fraction = 0x30 ∷ 0x35 ∷ [];
            before = 0x31 ∷ [];
            behind = 0x2C ∷ 0x30 ∷ 0x35 ∷ [];
            text = refl;
            says = record { sign = []; text = refl; minus = unsigned; few = omega arith };
            parted = some {ds = 0x30 ∷ 0x35 ∷ []} (omega arith);
            value = refl;
          };
      ended = by_lf;
    }

third_says : AngleLine third minus_five
third_says =
    record {
      turned = 0x2D ∷ 0x35 ∷ [];
      measured = 0x2D ∷ 0x30 ∷ [];
      end = 0x0D ∷ 0x0A ∷ [];
      text = refl;
      degrees =
          record {
            negative = true;
            digits = 0x35 ∷ [];
            says = record { sign = 0x2D ∷ []; text = refl; minus = negative; few = omega arith };
            value = refl;
          };
      coefficient =
          record {
            negative = true;
            whole = 0x30 ∷ [];
            fraction = [];
            before = 0x2D ∷ 0x30 ∷ [];
            behind = [];
            text = refl;
            says = record { sign = 0x2D ∷ []; text = refl; minus = negative; few = omega arith };
            parted = none;
            value = refl;
          };
      ended = by_cr_lf;
    }

pub sheet_says : SheetSays sheet reading
unfolding lines_of
sheet_says =
    record {
      first = first;
      further = second ∷ third ∷ [];
      lines = refl;
      heading = first_says;
      angles = (second_says, (third_says, tt));
      few = omega arith;
    }

-- ---- its file: the bytes are 01's layout worked out by another program

-- "nodes Sensor, Run, then the angles": label set, first row, count
abbrev nodes : List ℕ
nodes =
    (0x01 ∷ 0x00 ∷ 0x00 ∷ 0x00 ∷ 0x00 ∷ 0x00 ∷ 0x00 ∷ 0x00 ∷ 0x00 ∷ 0x00 ∷ 0x00 ∷ 0x00 ∷ 0x01 ∷ 0x00 ∷ 0x00 ∷ 0x00 ∷ [])
    ++ (0x02 ∷ 0x00 ∷ 0x00 ∷ 0x00 ∷ 0x00 ∷ 0x00 ∷ 0x00 ∷ 0x00 ∷ 0x01 ∷ 0x00 ∷ 0x00 ∷ 0x00 ∷ 0x01 ∷ 0x00 ∷ 0x00 ∷ 0x00 ∷ [])
    ++ (0x04 ∷ 0x00 ∷ 0x00 ∷ 0x00 ∷ 0x00 ∷ 0x00 ∷ 0x00 ∷ 0x00 ∷ 0x02 ∷ 0x00 ∷ 0x00 ∷ 0x00 ∷ 0x02 ∷ 0x00 ∷ 0x00 ∷ 0x00 ∷ [])
    ++ (0x04 ∷ 0x00 ∷ 0x00 ∷ 0x00 ∷ 0x00 ∷ 0x00 ∷ 0x00 ∷ 0x00 ∷ 0x04 ∷ 0x00 ∷ 0x00 ∷ 0x00 ∷ 0x02 ∷ 0x00 ∷ 0x00 ∷ 0x00 ∷ [])

-- "edges OF, then one AT for each angle": label set, source, target, first row, count
abbrev edges : List ℕ
edges =
    (0x08 ∷ 0x00 ∷ 0x00 ∷ 0x00 ∷ 0x00 ∷ 0x00 ∷ 0x00 ∷ 0x00 ∷ 0x01 ∷ 0x00 ∷ 0x00 ∷ 0x00 ∷ 0x00 ∷ 0x00 ∷ 0x00 ∷ 0x00 ∷ 0x06 ∷ 0x00 ∷ 0x00 ∷ 0x00 ∷ 0x00 ∷ 0x00 ∷ 0x00 ∷ 0x00 ∷ [])
    ++ (0x10 ∷ 0x00 ∷ 0x00 ∷ 0x00 ∷ 0x00 ∷ 0x00 ∷ 0x00 ∷ 0x00 ∷ 0x01 ∷ 0x00 ∷ 0x00 ∷ 0x00 ∷ 0x02 ∷ 0x00 ∷ 0x00 ∷ 0x00 ∷ 0x06 ∷ 0x00 ∷ 0x00 ∷ 0x00 ∷ 0x00 ∷ 0x00 ∷ 0x00 ∷ 0x00 ∷ [])
    ++ (0x10 ∷ 0x00 ∷ 0x00 ∷ 0x00 ∷ 0x00 ∷ 0x00 ∷ 0x00 ∷ 0x00 ∷ 0x01 ∷ 0x00 ∷ 0x00 ∷ 0x00 ∷ 0x03 ∷ 0x00 ∷ 0x00 ∷ 0x00 ∷ 0x06 ∷ 0x00 ∷ 0x00 ∷ 0x00 ∷ 0x00 ∷ 0x00 ∷ 0x00 ∷ 0x00 ∷ [])

-- serial, date, then degrees and coefficient of each angle: name, kind, zero, length, value
abbrev rows : List ℕ
rows =
    (0x00 ∷ 0x00 ∷ 0x05 ∷ 0x00 ∷ 0x01 ∷ 0x00 ∷ 0x00 ∷ 0x00 ∷ 0x00 ∷ 0x00 ∷ 0x00 ∷ 0x00 ∷ 0x00 ∷ 0x00 ∷ 0x00 ∷ 0x00 ∷ [])
    ++ (0x01 ∷ 0x00 ∷ 0x04 ∷ 0x00 ∷ 0x00 ∷ 0x00 ∷ 0x00 ∷ 0x00 ∷ 0x05 ∷ 0x25 ∷ 0x35 ∷ 0x01 ∷ 0x00 ∷ 0x00 ∷ 0x00 ∷ 0x00 ∷ [])
    ++ (0x03 ∷ 0x00 ∷ 0x02 ∷ 0x00 ∷ 0x00 ∷ 0x00 ∷ 0x00 ∷ 0x00 ∷ 0x0A ∷ 0x00 ∷ 0x00 ∷ 0x00 ∷ 0x00 ∷ 0x00 ∷ 0x00 ∷ 0x00 ∷ [])
    ++ (0x04 ∷ 0x00 ∷ 0x03 ∷ 0x00 ∷ 0x00 ∷ 0x00 ∷ 0x00 ∷ 0x00 ∷ 0xCD ∷ 0xCC ∷ 0xCC ∷ 0xCC ∷ 0xCC ∷ 0xCC ∷ 0xF0 ∷ 0x3F ∷ [])
    ++ (0x03 ∷ 0x00 ∷ 0x02 ∷ 0x00 ∷ 0x00 ∷ 0x00 ∷ 0x00 ∷ 0x00 ∷ 0xFB ∷ 0xFF ∷ 0xFF ∷ 0xFF ∷ 0xFF ∷ 0xFF ∷ 0xFF ∷ 0xFF ∷ [])
    ++ (0x04 ∷ 0x00 ∷ 0x03 ∷ 0x00 ∷ 0x00 ∷ 0x00 ∷ 0x00 ∷ 0x00 ∷ 0x00 ∷ 0x00 ∷ 0x00 ∷ 0x00 ∷ 0x00 ∷ 0x00 ∷ 0x00 ∷ 0x80 ∷ [])

-- 4 nodes, 3 edges, 6 rows, 1 byte of text, "Label and name counts are 5", back 233, the mark
abbrev trailer : List ℕ
trailer =
    (0x04 ∷ 0x00 ∷ 0x00 ∷ 0x00 ∷ 0x03 ∷ 0x00 ∷ 0x00 ∷ 0x00 ∷ 0x06 ∷ 0x00 ∷ 0x00 ∷ 0x00 ∷ 0x01 ∷ 0x00 ∷ 0x00 ∷ 0x00 ∷ [])
    ++ (0x05 ∷ 0x00 ∷ 0x05 ∷ 0x00 ∷ 0xE9 ∷ 0x00 ∷ 0x00 ∷ 0x00 ∷ 0x47 ∷ 0x50 ∷ 0x48 ∷ 0x31 ∷ [])

abbrev pub file : List ℕ
file = nodes ++ edges ++ rows ++ (0x53 ∷ []) ++ trailer

pub file_is : file_of (sheet_tables reading) 5 5 ≡ file
unfolding to_bits round
file_is = refl

-- what is owed for this sheet where the output has room
pub owed : (before : List ℕ) → 261 ≤ length before → ReadsSheet sheet before (outcome 0 261) (file ++ drop 261 before)
owed before room = says sheet_says (wrote (λ i l. never_41 sheet_says, (λ i l. room, tt)) refl (ap (λ (f : List ℕ). f ++ drop 261 before) (sym file_is)))
