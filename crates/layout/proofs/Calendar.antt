-- The calendar, held to what is known of it from outside: a year has 365 days or 366, and 400 years in a row have 146,097. Days are counted as the numbers
-- that are dates.
use mathlib.Core.Path.{◌≡◌, refl, sym}
use Prim.Native.Nat.{ℕ, zero, suc, ◌+◌, ◌-◌, ◌*◌, ◌/◌, ◌%◌, ◌≤◌, ◌<◌}
use native.Mathlib.Omega.{arith}
use Rattle.meaning.specs.Counted.{Counted}
use Rattle.layout.specs.Date.{Leap, month_in, IsDate}
use Rattle.layout.proofs.Dates.{leap_row, by_row, leap_row_lem, common_row, month_length, short_month, date_of_tests, tests_of_date}
use Rattle.layout.proofs.Numbers.{numbers, total, Each, total_on, count_all, count_within, count_parts}

-- ---- months and years

year_total : (y : ℕ) → total (month_in (leap_row y)) 1 12 ≡ 365 + leap_row y
unfolding total
year_total y = by_row (λ r. total (month_in r) 1 12 ≡ 365 + r) y (λ h. refl) (λ h. refl)

abbrev NoDate : ℕ → Type 0
NoDate k = ¬ IsDate k

module _ (y : ℕ) (from : 1 ≤ y) (to : y ≤ 9999) where
  -- the dates of a month: the days from 1 to its length, among 100 numbers
  month_days : (m : ℕ) → 1 ≤ m → m < 13 → Counted IsDate (numbers (y * 10000 + m * 100) 100) (month_in (leap_row y) m)
  month_days m l h = rw whole at (count_within first 1 last (99 - last) no_day_0 (count_all (first + 1) last days) no_more)
    where
      first : ℕ
      first = y * 10000 + m * 100

      last : ℕ
      last = month_in (leap_row y) m

      short : last ≤ 31
      short = short_month (month_length y m)

      whole : 1 + (last + (99 - last)) ≡ 100
      whole = let s = short in omega arith

      -- the length that the tests ask for
      asked : Each (λ k. month_in (leap_row (k / 10000)) (k / 100 % 100) ≡ last) first 100
      asked k b a = let ky : k / 10000 ≡ y = omega arith in let km : k / 100 % 100 ≡ m = omega arith in rw (ky, km) refl

      no_day_0 : Each NoDate first 1
      no_day_0 k b a d = let t = (tests_of_date k d).day_from in omega arith

      days : Each IsDate (first + 1) last
      days k b a =
          let s = short in
          let r = asked k (omega arith) (omega arith) in
          date_of_tests k (record { year_from = omega arith; year_to = omega arith; month_from = omega arith; month_to = omega arith; day_from = omega arith; day_to = omega arith })

      no_more : Each NoDate (first + 1 + last) (99 - last)
      no_more k b a d = let s = short in let r = asked k (omega arith) (omega arith) in let t = (tests_of_date k d).day_to in omega arith

  year_days_lem : Counted IsDate (numbers (y * 10000) 10000) (365 + leap_row y)
  year_days_lem = rw (year_total y) at (count_within (y * 10000) 100 1200 8700 no_month_0 (count_parts (month_in (leap_row y)) (y * 10000) 100 1 12 month_days) no_month_13)
    where
      no_month_0 : Each NoDate (y * 10000) 100
      no_month_0 k b a d = let t = (tests_of_date k d).month_from in omega arith

      no_month_13 : Each NoDate (y * 10000 + 100 + 1200) 8700
      no_month_13 k b a d = let t = (tests_of_date k d).month_to in omega arith

  -- a common year has 365 days, and a leap year one more
  pub common_year : ¬ Leap y → Counted IsDate (numbers (y * 10000) 10000) 365
  common_year h = rw (common_row y h) at year_days_lem

  pub leap_year : Leap y → Counted IsDate (numbers (y * 10000) 10000) 366
  leap_year h = rw (leap_row_lem y h) at year_days_lem

-- ---- years in a row

abbrev year_days : ℕ → ℕ
year_days y = 365 + leap_row y

years_days : (y n : ℕ) → 1 ≤ y → y + n ≤ 10000 → Counted IsDate (numbers (y * 10000) (n * 10000)) (total year_days y n)
years_days y n from to =
    let e : 0 + y * 10000 ≡ y * 10000 = omega arith in
    let each : Each (λ i. Counted IsDate (numbers (0 + i * 10000) 10000) (year_days i)) y n =
    λ i b a. let k : 0 + i * 10000 ≡ i * 10000 = omega arith in rw k (year_days_lem i (omega arith) (omega arith)) in
    rw e at (count_parts {P = IsDate} year_days 0 10000 y n each)

-- the remainder by 400 says whether a year is leap
leap_by : {y z : ℕ} → z % 400 ≡ y % 400 → Leap y → Leap z
leap_by e l = record { four = let k = l.four in omega arith; hundred = λ c. let k = l.hundred (omega arith) in omega arith }

-- so 400 years later it is leap again, or not again
row_again : (y : ℕ) → leap_row (y + 400) ≡ leap_row y
row_again y =
    let e : (y + 400) % 400 ≡ y % 400 = omega arith in
    by_row (λ r. leap_row (y + 400) ≡ r) y (λ h. leap_row_lem (y + 400) (leap_by e h)) (λ h. common_row (y + 400) (λ l. h (leap_by (sym e) l)))

cycle_from_0 : total year_days 0 400 ≡ 146097
unfolding total leap_row
cycle_from_0 = refl

-- by computation from year 0 on; from one year later on, that year is gone and one like it is added
cycle_total : (y : ℕ) → total year_days y 400 ≡ 146097
cycle_total zero = cycle_from_0
cycle_total (suc y) = let t = cycle_total y in let l = rw (row_again y) at (total_on year_days y 400) in omega arith

-- any 400 years in a row have 146,097 days
pub cycle_days : (y : ℕ) → 1 ≤ y → y ≤ 9600 → Counted IsDate (numbers (y * 10000) (400 * 10000)) 146097
cycle_days y from to = rw (cycle_total y) at (years_days y 400 from (omega arith))

all_from_1 : total year_days 1 9999 ≡ 3652059
unfolding total leap_row
all_from_1 = refl

-- and all years, 1 to 9999, have 3,652,059
pub all_days : Counted IsDate (numbers (1 * 10000) (9999 * 10000)) 3652059
all_days = rw all_from_1 at (years_days 1 9999 (omega arith) (omega arith))
