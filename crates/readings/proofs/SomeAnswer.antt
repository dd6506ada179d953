-- Every step of reading a line has an answer, for every input: what the functions compute, composed by the same laws.
use mathlib.Core.Path.{◌≡◌, refl}
use mathlib.Core.Bool.{Bool, true, false, cond}
use mathlib.Core.List.{List}
use Prim.Native.Nat.{ℕ, zero, suc, ◌+◌, ◌*◌, ◌≤◌, ◌<◌}
use native.Mathlib.Decide.{ℕ_discrete, dec_le, dec_lt}
use native.Mathlib.Omega.{arith}
use lib.ListN.{length, get_or}
use lib.IntN.{pos, neg_ℤ}
use lib.Ieee.{Float}
use Rattle.std.specs.Prelude.{Option, Some, None}
use Rattle.meaning.proofs.Decide.{dec_iff, dec_and}
use Rattle.layout.specs.Date.{IsDate}
use Rattle.layout.proofs.Dates.{dec_date}
use Rattle.lines.specs.declared.Run as declared
use Rattle.lines.specs.declared.Numeral.{Numeral}
use Rattle.lines.specs.declared.Angle.{Angle}
use Rattle.lines.specs.declared.Heading.{Heading}
use Rattle.lines.specs.Digits.{Digit, after}
use Rattle.lines.specs.Line.{quotient}
use Rattle.lines.specs.Promise.{TellsFirst, TellsFurther}
use Rattle.lines.specs.Inner.{ReadsDigits, SomeDigits, NoDigits, TellsUnsigned, TellsFraction, ReadsNumber, TellsNumber, ReadsReal, TellsReal, ReadsPart, TellsPart, ReadsDate, TellsDate, TellsEnd}
use Rattle.lines.proofs.Texts.{within}
use Rattle.lines.proofs.DigitRuns.{Going, begun, next, stopped, all_read, some_digits, no_digits, minus_within, with_minus, without_minus}
use Rattle.lines.proofs.Ends.{ends_by_lf, ends_by_cr_lf, no_end, cr_alone}
use Rattle.lines.proofs.Coefficients.{without_comma, with_fraction, no_number}
use Rattle.lines.proofs.Dates as dates
use Rattle.lines.proofs.FirstLines.{ReadsSerial}
use Rattle.lines.proofs.FirstLines as first_lines
use Rattle.lines.proofs.FurtherLines as further_lines

-- ---- bytes

dec_digit : (x : ℕ) → Dec (Digit x)
dec_digit x = dec_iff (λ t. record { from = t.0; to = t.1 }) (λ d. (d.from, d.to)) (dec_and (dec_le 0x30 x) (dec_le x 0x39))

module _ (s : List ℕ) where
  -- ---- digits, one after another

  module _ (at most v : ℕ) where
    -- `left` more at most
    going_on : (left : ℕ) {n end : ℕ} → at + most ≤ end + left → Going s at most v n end → Dec (end < at + most) → Dec (Digit (get_or s end 0)) → (d : declared.Run) × ReadsDigits s at most v d
    going_on zero h g l d = (_, all_read s at most v g (λ k. absurd (omega arith)))
    going_on (suc left) h g (no m) d = (_, all_read s at most v g m)
    going_on (suc left) h g (yes l) (no m) = (_, stopped s at most v g m)
    going_on (suc left) h g (yes l) (yes d) = going_on left (omega arith) (next s at most v g l d) (dec_lt _ _) (dec_digit _)

    pub digits_read : at ≤ length s → (d : declared.Run) × ReadsDigits s at most v d
    digits_read h = going_on most (omega arith) (begun s at most v h) (dec_lt _ _) (dec_digit _)

    -- at least one of them, or none
    data AnyDigits : Type 0 where
      some : (d : declared.Run) (g : ReadsDigits s at most v d) → SomeDigits s at most d.end g.text → AnyDigits
      none : NoDigits s at most → AnyDigits

    any_digits : at ≤ length s → AnyDigits
    any_digits h = let d = digits_read h in by_end d.0 d.1 (ℕ_discrete _ _)
      where
        by_end : (d : declared.Run) → ReadsDigits s at most v d → Dec (d.end ≡ at) → AnyDigits
        by_end d g (yes e) = none (no_digits g e)
        by_end d g (no m) = some d g (some_digits g m)

  unsigned_told : (at most : ℕ) (b : Bool) → at ≤ length s → (r : Option Numeral) × TellsUnsigned r s at most b
  unsigned_told at most b h = by_digits (any_digits at most 0 h)
    where
      by_digits : AnyDigits at most 0 → (r : Option Numeral) × TellsUnsigned r s at most b
      by_digits (some d g digits) = (Some (record { negative = b; number = d.number; end = d.end }), (refl, record { text = g.text; digits = digits; value = g.value }))
      by_digits (none m) = (None, m)

  pub number_told : (at most : ℕ) → at ≤ length s → (r : Option Numeral) × TellsNumber r s at most
  number_told at most h = by_minus (ℕ_discrete (get_or s at 0) 45)
    where
      by_minus : Dec (get_or s at 0 ≡ 45) → (r : Option Numeral) × TellsNumber r s at most
      by_minus (yes e) = let u = unsigned_told (at + 1) most true (omega (arith, minus_within s at most e)) in (u.0, with_minus s at most u.0 e u.1)
      by_minus (no m) = let u = unsigned_told at most false h in (u.0, without_minus s at most u.0 m u.1)

  -- ---- a coefficient

  fraction_told : (at : ℕ) (b : Bool) (v : ℕ) → at ≤ length s → (r : Option (Float × ℕ)) × TellsFraction r s at b v
  fraction_told at b v h = by_digits (any_digits at 6 v h)
    where
      by_digits : AnyDigits at 6 v → (r : Option (Float × ℕ)) × TellsFraction r s at b v
      by_digits (some d g digits) = (Some (quotient b (after v g.text) (length g.text), d.end), record { text = g.text; digits = digits; value = refl })
      by_digits (none m) = (None, m)

  pub real_told : (at : ℕ) → at ≤ length s → (r : Option (Float × ℕ)) × TellsReal r s at
  real_told at h = let w = number_told at 6 h in by_number w.0 w.1
    where
      by_comma : (b : Bool) (n end : ℕ) → ReadsNumber s at 6 b n end → Dec (get_or s end 0 ≡ 44) → (r : Option (Float × ℕ)) × TellsReal r s at
      by_comma b n end g (yes e) = let f = fraction_told (end + 1) b n (omega (arith, within s end (omega arith))) in (f.0, with_fraction s at g e f.0 f.1)
      by_comma b n end g (no m) = (Some (quotient b n 0, end), without_comma s at g m refl)

      by_number : (w : Option Numeral) → TellsNumber w s at 6 → (r : Option (Float × ℕ)) × TellsReal r s at
      by_number (Some n) g = by_comma n.negative n.number n.end g (ℕ_discrete _ _)
      by_number None g = (None, no_number s at g)

  -- ---- the end of a line

  pub end_told : (at : ℕ) → (r : Option ℕ) × TellsEnd r s at
  end_told at = by_byte (ℕ_discrete (get_or s at 0) 10) (ℕ_discrete (get_or s at 0) 13) (ℕ_discrete (get_or s (at + 1) 0) 10)
    where
      by_byte : Dec (get_or s at 0 ≡ 10) → Dec (get_or s at 0 ≡ 13) → Dec (get_or s (at + 1) 0 ≡ 10) → (r : Option ℕ) × TellsEnd r s at
      by_byte (yes e) c l = (Some (at + 1), ends_by_lf s at e)
      by_byte (no m) (no n) l = (None, no_end s at m n)
      by_byte (no m) (yes e) (yes f) = (Some (at + 2), ends_by_cr_lf s at e f)
      by_byte (no m) (yes e) (no n) = (None, cr_alone s at e n)

  -- ---- an angle line

  module _ (at : ℕ) where
    module _ {b : Bool} {n end : ℕ} (g : ReadsNumber s at 3 b n end) (e : get_or s end 0 ≡ 59) where
      by_end : {x : Float} {stop : ℕ} → ReadsReal s (end + 1) x stop → (k : Option ℕ) → TellsEnd k s stop → (r : Option (Angle × ℕ)) × TellsFurther r s at
      by_end {x} m (Some next) k = (Some (record { degrees = cond b (neg_ℤ (pos n)) (pos n); coefficient = x }, next), further_lines.good_line s at g e m k refl)
      by_end m None k = (None, λ a q. further_lines.needs_end s at q g m k)

      by_coefficient : (m : Option (Float × ℕ)) → TellsReal m s (end + 1) → (r : Option (Angle × ℕ)) × TellsFurther r s at
      by_coefficient (Some r) m = let k = end_told r.1 in by_end m k.0 k.1
      by_coefficient None m = (None, λ a q. further_lines.needs_coefficient s at q g m)

    by_semicolon : {b : Bool} {n end : ℕ} → ReadsNumber s at 3 b n end → Dec (get_or s end 0 ≡ 59) → (r : Option (Angle × ℕ)) × TellsFurther r s at
    by_semicolon {end = end} g (yes e) = let m = real_told (end + 1) (omega (arith, within s end (omega arith))) in by_coefficient g e m.0 m.1
    by_semicolon g (no m) = (None, λ a q. further_lines.needs_semicolon s at q g m)

    by_degrees : (w : Option Numeral) → TellsNumber w s at 3 → (r : Option (Angle × ℕ)) × TellsFurther r s at
    by_degrees (Some n) g = by_semicolon g (ℕ_discrete _ _)
    by_degrees None g = (None, λ a q. further_lines.needs_degrees s at q g)

    pub further_told : at ≤ length s → (r : Option (Angle × ℕ)) × TellsFurther r s at
    further_told h = let w = number_told at 3 h in by_degrees w.0 w.1

  -- ---- the date

  part_told : (at size : ℕ) → at ≤ length s → (r : Option ℕ) × TellsPart r s at size
  part_told at size h = let d = digits_read at size 0 h in (_, dates.told_part d.1)

  module _ (at : ℕ) where
    module _ {y : ℕ} (gy : ReadsPart s at 4 y) (dy : get_or s (at + 4) 0 ≡ 45) where
      module _ {m : ℕ} (gm : ReadsPart s (at + 5) 2 m) (dm : get_or s (at + 7) 0 ≡ 45) where
        by_number : {d : ℕ} → ReadsPart s (at + 8) 2 d → Dec (IsDate (y * 10000 + m * 100 + d)) → (r : Option ℕ) × TellsDate r s at
        by_number gd (yes good) = (Some _, dates.parts_read s at gy gm gd dy dm good)
        by_number gd (no k) = (None, λ t rest n q e. dates.needs_good s at rest q e gy gm gd k)

        by_day : (d : Option ℕ) → TellsPart d s (at + 8) 2 → (r : Option ℕ) × TellsDate r s at
        by_day (Some d) gd = by_number gd (dec_date _)
        by_day None k = (None, λ t rest n q e. dates.needs_day s at rest q e gy gm k)

      by_second_dash : {m : ℕ} → ReadsPart s (at + 5) 2 m → Dec (get_or s (at + 7) 0 ≡ 45) → (r : Option ℕ) × TellsDate r s at
      by_second_dash gm (yes dm) = let d = part_told (at + 8) 2 (omega (arith, within s (at + 7) (omega arith))) in by_day gm dm d.0 d.1
      by_second_dash gm (no k) = (None, λ t rest n q e. dates.needs_second_dash s at rest q e gy gm k)

      by_month : (m : Option ℕ) → TellsPart m s (at + 5) 2 → (r : Option ℕ) × TellsDate r s at
      by_month (Some m) gm = by_second_dash gm (ℕ_discrete _ _)
      by_month None k = (None, λ t rest n q e. dates.needs_month s at rest q e gy k)

    by_dash : {y : ℕ} → ReadsPart s at 4 y → Dec (get_or s (at + 4) 0 ≡ 45) → (r : Option ℕ) × TellsDate r s at
    by_dash gy (yes dy) = let m = part_told (at + 5) 2 (omega (arith, within s (at + 4) (omega arith))) in by_month gy dy m.0 m.1
    by_dash gy (no k) = (None, λ t rest n q e. dates.needs_dash s at rest q e gy k)

    by_year : (y : Option ℕ) → TellsPart y s at 4 → (r : Option ℕ) × TellsDate r s at
    by_year (Some y) gy = by_dash gy (ℕ_discrete _ _)
    by_year None k = (None, λ t rest n q e. dates.needs_year s at rest q e k)

    pub date_told : at ≤ length s → (r : Option ℕ) × TellsDate r s at
    date_told h = let y = part_told at 4 h in by_year y.0 y.1

  -- ---- the first line

  module _ {n : ℕ} (g : ReadsSerial s n) where
    by_end_of_first : 1 ≤ n → n ≤ 32 → get_or s n 0 ≡ 59 → {date : ℕ} → ReadsDate s (n + 1) date → (k : Option ℕ) → TellsEnd k s (n + 11) → (r : Option Heading) × TellsFirst r s
    by_end_of_first low high e {date} d (Some next) k = (Some (record { serial = n; date = date; next = next }), first_lines.good_first s g low high e d k)
    by_end_of_first low high e d None k = (None, λ q. first_lines.needs_end s g q k)

    by_date : 1 ≤ n → n ≤ 32 → get_or s n 0 ≡ 59 → (d : Option ℕ) → TellsDate d s (n + 1) → (r : Option Heading) × TellsFirst r s
    by_date low high e (Some date) d = let k = end_told (n + 11) in by_end_of_first low high e d k.0 k.1
    by_date low high e None d = (None, λ q. first_lines.needs_date s g q d)

    by_serial : Dec (1 ≤ n) → Dec (n ≤ 32) → Dec (get_or s n 0 ≡ 59) → (r : Option Heading) × TellsFirst r s
    by_serial (yes low) (yes high) (yes e) = let d = date_told (n + 1) (omega (arith, within s n (omega arith))) in by_date low high e d.0 d.1
    by_serial (yes low) (yes high) (no m) = (None, λ q. first_lines.needs_semicolon s g q m)
    by_serial (yes low) (no m) e = (None, λ q. first_lines.needs_short s g q (omega arith))
    by_serial (no m) high e = (None, λ q. first_lines.needs_serial s g q (omega arith))

  pub first_told : (r : Option Heading) × TellsFirst r s
  first_told = by_serial (first_lines.serial_read s refl) (dec_le _ _) (dec_le _ _) (ℕ_discrete _ _)
