-- A date's number gives its year, month and day back, so that a test of these decides whether it is one.
use mathlib.Core.Path.{◌≡◌, refl}
use mathlib.Core.List.{List, [], ◌∷◌}
use Prim.Native.Nat.{ℕ, zero, suc, ◌-◌, ◌/◌, ◌%◌, ◌≤◌, zero-le}
use native.Mathlib.Decide.{ℕ_discrete, dec_le}
use native.Mathlib.Omega.{arith}
use lib.ListN.{get_or}
use Rattle.meaning.proofs.Decide.{dec_iff, dec_and, dec_imp}
use Rattle.layout.specs.Date.{Leap, months, month_in, MonthLength, common, leap, IsDate}

unfoldable pub dec_leap : (y : ℕ) → Dec (Leap y)
unfolding dec_iff dec_and dec_imp ℕ_discrete
dec_leap y =
    dec_iff (λ t. record { four = t.0; hundred = t.1 }) (λ l. (l.four, l.hundred)) (dec_and (ℕ_discrete _ _) (dec_imp (ℕ_discrete _ _) (ℕ_discrete _ _)))

abbrev pub row_by : {P : Type 0} → Dec P → ℕ
row_by (yes p) = 1
row_by (no h) = 0

-- the row of month lengths that a year takes: 0 common, 1 leap
unfoldable pub leap_row : ℕ → ℕ
unfolding dec_leap
leap_row y = row_by (dec_leap y)

-- what holds of row 1 if the year is leap, and of row 0 if it is common, holds of the year's row
pub by_row : (Q : ℕ → Type 0) (y : ℕ) → (Leap y → Q 1) → (¬ Leap y → Q 0) → Q (leap_row y)
unfolding leap_row
by_row Q y f g = go (dec_leap y)
  where
    go : (d : Dec (Leap y)) → Q (row_by d)
    go (yes h) = f h
    go (no h) = g h

pub leap_row_lem : (y : ℕ) → Leap y → leap_row y ≡ 1
leap_row_lem y h = by_row (λ r. r ≡ 1) y (λ l. refl) (λ n. absurd (n h))

pub common_row : (y : ℕ) → ¬ Leap y → leap_row y ≡ 0
common_row y h = by_row (λ r. r ≡ 0) y (λ l. absurd (h l)) (λ n. refl)

pub month_length : (y m : ℕ) → MonthLength y m (month_in (leap_row y) m)
month_length y m = by_row (λ r. MonthLength y m (month_in r m)) y leap common

pub month_length_one : {y m l : ℕ} → MonthLength y m l → l ≡ month_in (leap_row y) m
month_length_one {y} (common h) = rw (common_row y h)
month_length_one {y} (leap h) = rw (leap_row_lem y h)

-- the tests: the year is n / 10,000, the month n / 100 % 100, the day n % 100
pub record DateTests (n : ℕ) : Type 0 where
  pub year_from : 1 ≤ n / 10000
  pub year_to : n / 10000 ≤ 9999
  pub month_from : 1 ≤ n / 100 % 100
  pub month_to : n / 100 % 100 ≤ 12
  pub day_from : 1 ≤ n % 100
  pub day_to : n % 100 ≤ month_in (leap_row (n / 10000)) (n / 100 % 100)

pub date_of_tests : (n : ℕ) → DateTests n → IsDate n
date_of_tests n t =
    record {
      year = n / 10000;
      month = n / 100 % 100;
      day = n % 100;
      last = month_in (leap_row (n / 10000)) (n / 100 % 100);
      number = omega arith;
      year_from = t.year_from;
      year_to = t.year_to;
      month_from = t.month_from;
      month_to = t.month_to;
      day_from = t.day_from;
      days = month_length (n / 10000) (n / 100 % 100);
      day_to = t.day_to;
    }

-- ---- no month is longer than 31 days

abbrev AllAtMost : ℕ → List ℕ → Type 0
AllAtMost b [] = Unit {0}
AllAtMost b (x ∷ xs) = (x ≤ b) × AllAtMost b xs

at_most : (b : ℕ) (xs : List ℕ) → AllAtMost b xs → (i : ℕ) → get_or xs i 0 ≤ b
at_most b [] h i = zero-le
at_most b (x ∷ xs) h zero = h.0
at_most b (x ∷ xs) h (suc i) = at_most b xs h.1 i

pub short_month : {y m l : ℕ} → MonthLength y m l → l ≤ 31
short_month {m = m} (common h) = at_most 31 (get_or months 0 []) (omega arith) (m - 1)
short_month {m = m} (leap h) = at_most 31 (get_or months 1 []) (omega arith) (m - 1)

pub tests_of_date : (n : ℕ) → IsDate n → DateTests n
tests_of_date n d =
    let l = month_length_one d.days in
    let s = short_month d.days in
    let e = d.number in
    let f = d.day_to in
    let y : n / 10000 ≡ d.year = omega arith in
    let m : n / 100 % 100 ≡ d.month = omega arith in
    let y1 = d.year_from in
    let y2 = d.year_to in
    let m1 = d.month_from in
    let m2 = d.month_to in
    let d1 = d.day_from in
    record { year_from = omega arith; year_to = omega arith; month_from = omega arith; month_to = omega arith; day_from = omega arith; day_to = rw (y, m) (omega arith) }

unfoldable pub dec_date : (n : ℕ) → Dec (IsDate n)
unfolding dec_iff dec_and dec_le leap_row
dec_date n =
    dec_iff
    (λ t. date_of_tests n (record { year_from = t.0; year_to = t.1.0; month_from = t.1.1.0; month_to = t.1.1.1.0; day_from = t.1.1.1.1.0; day_to = t.1.1.1.1.1 }))
    (λ d. let h = tests_of_date n d in (h.year_from, (h.year_to, (h.month_from, (h.month_to, (h.day_from, h.day_to))))))
    (dec_and (dec_le _ _) (dec_and (dec_le _ _) (dec_and (dec_le _ _) (dec_and (dec_le _ _) (dec_and (dec_le _ _) (dec_le _ _))))))
