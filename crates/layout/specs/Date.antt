-- Dates as numbers (01, kind 4), in the calendar of ISO 8601 (02, Ask 3).
use Rattle.std.specs.Prelude.{◌≡◌, List, [], ◌∷◌, ℕ, ◌+◌, ◌-◌, ◌*◌, ◌%◌, ◌≤◌, get_or}

-- year y is leap
pub record Leap (y : ℕ) : Type 0 where
  -- "a year is leap if four divides it"
  pub four : y % 4 ≡ 0
  -- "a year that 100 divides is leap only if 400 divides it" (02, Ask 3)
  pub hundred : y % 100 ≡ 0 → y % 400 ≡ 0

-- "Month lengths stand as two rows of twelve, common and leap"
abbrev pub months : List (List ℕ)
months =
    (31 ∷ 28 ∷ 31 ∷ 30 ∷ 31 ∷ 30 ∷ 31 ∷ 31 ∷ 30 ∷ 31 ∷ 30 ∷ 31 ∷ [])
    ∷ (31 ∷ 29 ∷ 31 ∷ 30 ∷ 31 ∷ 30 ∷ 31 ∷ 31 ∷ 30 ∷ 31 ∷ 30 ∷ 31 ∷ [])
    ∷ []

-- the length of month m in a row of them
abbrev pub month_in : ℕ → ℕ → ℕ
month_in row m = get_or (get_or months row []) (m - 1) 0

-- month m of year y has l days
pub data MonthLength (y m : ℕ) : ℕ → Type 0 where
  common : ¬ Leap y → MonthLength y m (month_in 0 m)
  leap : Leap y → MonthLength y m (month_in 1 m)

-- "year x 10,000 + month x 100 + day, year 1 to 9999, month 1 to 12, day 1 to the month's length"
pub record IsDate (n : ℕ) : Type 0 where
  pub year : ℕ
  pub month : ℕ
  pub day : ℕ
  pub last : ℕ
  pub number : n ≡ year * 10000 + month * 100 + day
  pub year_from : 1 ≤ year
  pub year_to : year ≤ 9999
  pub month_from : 1 ≤ month
  pub month_to : month ≤ 12
  pub day_from : 1 ≤ day
  pub days : MonthLength year month last
  pub day_to : day ≤ last
