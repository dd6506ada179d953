-- Laws of the date in the first line: ten bytes, read part by part.
use mathlib.Core.Path.{◌≡◌, refl, sym, ap, ◌∙◌}
use mathlib.Core.Logic.{◌≢◌}
use mathlib.Core.Bool.{Bool, true, false}
use mathlib.Core.List.{List, [], ◌∷◌, ◌++◌, append_assoc}
use Prim.Native.Nat.{ℕ, ◌+◌, ◌*◌}
use native.Mathlib.Omega.{arith}
use borrow.Author.Tests.{eqb-true, eqb-false}
use lib.Dec.{eqb}
use lib.ListN.{length, get_or, drop, length-append}
use Rattle.std.specs.Prelude.{None}
use Rattle.std.specs.Bool.{then_some}
use Rattle.layout.specs.Date.{IsDate}
use Rattle.lines.specs.declared.Run as declared
use Rattle.lines.specs.Digits.{dash, Digits, number}
use Rattle.lines.specs.Line.{DateText}
use Rattle.lines.specs.Inner.{From, ReadsDigits, ReadsPart, TellsPart, ReadsDate}
use Rattle.lines.proofs.Texts.{byte_is, step, within, from_then, from_byte, rest_of, run_one, run_full}
use Rattle.lines.proofs.DigitRuns.{after_below, full}

-- ---- a part of a date

-- digits that fill their place
module _ {s : List ℕ} {at size : ℕ} {d : declared.Run} (g : ReadsDigits s at size 0 d) where
  filled : d.end ≡ at + size → ReadsPart s at size d.number
  filled e =
      record {
        text = g.text;
        from = rw (← e) g.from;
        digits = record { from = omega (arith, g.from.ends); to = g.run.few; each = g.run.each };
        value = g.value;
        below = let k = after_below size 1 0 g.text (omega arith) g.run.few g.run.each in omega (arith, g.value);
      }

  pub told_part : TellsPart (then_some (eqb d.end (at + size)) d.number) s at size
  told_part = by_end (eqb d.end (at + size)) refl
    where
      by_end : (b : Bool) → eqb d.end (at + size) ≡ b → TellsPart (then_some b d.number) s at size
      by_end true e = filled (eqb-true d.end (at + size) e)
      by_end false e = λ t rest q h. eqb-false d.end (at + size) e (full g q h).1

-- so many digits stand there once
part_one : {s : List ℕ} {at size n : ℕ} (g : ReadsPart s at size n) {u : List ℕ} (w : List ℕ) → Digits size size u → drop at s ≡ u ++ w → g.text ≡ u
part_one {size = size} g {u} w q e =
    run_one size g.text u (run_full size g.text (omega (arith, g.digits.from, g.digits.to)) g.digits.each) (run_full size u (omega (arith, q.from, q.to)) q.each)
    (sym g.from.here ∙ e)

-- a date's text has ten bytes
pub ten : {t : List ℕ} {n : ℕ} → DateText t n → length t ≡ 10
ten {t} q =
    let a = length-append q.year (dash ∷ (q.month ++ (dash ∷ q.day))) in
    let b = length-append q.month (dash ∷ q.day) in
    let e = ap length q.text in
    omega (arith, q.year_digits.from, q.year_digits.to, q.month_digits.from, q.month_digits.to, q.day_digits.from, q.day_digits.to)

module _ (s : List ℕ) (at : ℕ) where
  -- ---- a date

  module _ {y m d : ℕ} (gy : ReadsPart s at 4 y) (gm : ReadsPart s (at + 5) 2 m) (gd : ReadsPart s (at + 8) 2 d) where
    pub parts_read : get_or s (at + 4) 0 ≡ 45 → get_or s (at + 7) 0 ≡ 45 → IsDate (y * 10000 + m * 100 + d) → ReadsDate s at (y * 10000 + m * 100 + d)
    parts_read dy dm good =
        let five : at + 4 + 1 ≡ at + 5 = omega arith in
        let b : From s (at + 4) (at + 5) (45 ∷ []) = rw five at (from_byte s (within s (at + 4) (omega arith)) dy) in
        let seven : at + 5 + 2 ≡ at + 7 = omega arith in
        let c : From s (at + 5) (at + 7) gm.text = rw seven at gm.from in
        let eight : at + 7 + 1 ≡ at + 8 = omega arith in
        let f : From s (at + 7) (at + 8) (45 ∷ []) = rw eight at (from_byte s (within s (at + 7) (omega arith)) dm) in
        let ten : at + 8 + 2 ≡ at + 10 = omega arith in
        let g : From s (at + 8) (at + 10) gd.text = rw ten at gd.from in
        record {
          text = gy.text ++ (dash ∷ (gm.text ++ (dash ∷ gd.text)));
          from = from_then s gy.from (from_then s b (from_then s c (from_then s f g)));
          says =
              record {
                year = gy.text;
                month = gm.text;
                day = gd.text;
                text = refl;
                year_digits = gy.digits;
                month_digits = gm.digits;
                day_digits = gd.digits;
                value = rw (gy.value, gm.value, gd.value);
                good = good;
              };
        }

  -- the same of digits that end where their place does
  module _ {y m d : declared.Run} (gy : ReadsDigits s at 4 0 y) (gm : ReadsDigits s (at + 5) 2 0 m) (gd : ReadsDigits s (at + 8) 2 0 d) where
    pub date_read :
        y.end ≡ at + 4 → get_or s (at + 4) 0 ≡ 45 → m.end ≡ at + 7 → get_or s (at + 7) 0 ≡ 45 → d.end ≡ at + 10
        → IsDate (y.number * 10000 + m.number * 100 + d.number) → ReadsDate s at (y.number * 10000 + m.number * 100 + d.number)
    date_read ey dy em dm ed good = parts_read (filled gy ey) (filled gm (omega arith)) (filled gd (omega arith)) dy dm good

  -- ---- no date

  module _ {t : List ℕ} (rest : List ℕ) {n : ℕ} (q : DateText t n) (e : drop at s ≡ t ++ rest) where
    would : drop at s ≡ q.year ++ (dash ∷ (q.month ++ (dash ∷ (q.day ++ rest))))
    would =
        let f : (q.year ++ (dash ∷ (q.month ++ (dash ∷ q.day)))) ++ rest ≡ q.year ++ (dash ∷ (q.month ++ (dash ∷ (q.day ++ rest)))) = simp append_assoc in
        e ∙ ap (λ (l : List ℕ). l ++ rest) q.text ∙ f

    pub needs_year : TellsPart None s at 4 → ⊥
    needs_year not_so = not_so q.year _ q.year_digits would

    module _ {y : ℕ} (gy : ReadsPart s at 4 y) where
      same_year : gy.text ≡ q.year
      same_year = part_one gy _ q.year_digits would

      dash_there : drop (at + 4) s ≡ dash ∷ (q.month ++ (dash ∷ (q.day ++ rest)))
      dash_there = rest_of s gy.from same_year would

      pub needs_dash : get_or s (at + 4) 0 ≢ 45 → ⊥
      needs_dash not_so = not_so (byte_is s (at + 4) dash _ dash_there)

      month_here : drop (at + 5) s ≡ q.month ++ (dash ∷ (q.day ++ rest))
      month_here = let five : at + 4 + 1 ≡ at + 5 = omega arith in rw five at (step s (at + 4) dash _ dash_there)

      pub needs_month : TellsPart None s (at + 5) 2 → ⊥
      needs_month not_so = not_so q.month _ q.month_digits month_here

      module _ {m : ℕ} (gm : ReadsPart s (at + 5) 2 m) where
        same_month : gm.text ≡ q.month
        same_month = part_one gm _ q.month_digits month_here

        dash_here : drop (at + 7) s ≡ dash ∷ (q.day ++ rest)
        dash_here = let seven : at + 5 + 2 ≡ at + 7 = omega arith in rw seven at (rest_of s gm.from same_month month_here)

        pub needs_second_dash : get_or s (at + 7) 0 ≢ 45 → ⊥
        needs_second_dash not_so = not_so (byte_is s (at + 7) dash _ dash_here)

        day_here : drop (at + 8) s ≡ q.day ++ rest
        day_here = let eight : at + 7 + 1 ≡ at + 8 = omega arith in rw eight at (step s (at + 7) dash _ dash_here)

        pub needs_day : TellsPart None s (at + 8) 2 → ⊥
        needs_day not_so = not_so q.day _ q.day_digits day_here

        pub needs_good : {d : ℕ} → ReadsPart s (at + 8) 2 d → ¬ IsDate (y * 10000 + m * 100 + d) → ⊥
        needs_good {d} gd not_so =
            let f : y ≡ number q.year = gy.value ∙ ap number same_year in
            let g : m ≡ number q.month = gm.value ∙ ap number same_month in
            let h : d ≡ number q.day = gd.value ∙ ap number (part_one gd _ q.day_digits day_here) in
            not_so (rw (f, g, h) (rw q.value at q.good))

    -- the same of digits, wherever they end
    module _ {y m d : declared.Run} (gy : ReadsDigits s at 4 0 y) (gm : ReadsDigits s (at + 5) 2 0 m) (gd : ReadsDigits s (at + 8) 2 0 d) where
      pub needs_date : ¬ IsDate (y.number * 10000 + m.number * 100 + d.number) → ⊥
      needs_date not_so =
          let year = filled gy (full gy q.year_digits would).1 in
          let month = filled gm (full gm q.month_digits (month_here year)).1 in
          let day = filled gd (full gd q.day_digits (day_here year month)).1 in
          needs_good year month day not_so
