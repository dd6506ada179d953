-- `is_date` says whether a number is that of a date: its year, month and day are tested one by one.
use native.Mathlib.Omega.{arith}
use Rattle.layout.proofs.Dates.{month_length_one, date_of_tests, tests_of_date}
use Rattle.values.proofs.is_date.Goals as goal

pub returns-in-1-to-9999-1-to-12-1-to-18446744073709551615 : goal.returns-in-1-to-9999-1-to-12-1-to-18446744073709551615
returns-in-1-to-9999-1-to-12-1-to-18446744073709551615 c =
    date_of_tests
    _
    (record {
      year_from = omega arith;
      year_to = omega arith;
      month_from = omega arith;
      month_to = omega arith;
      day_from = omega arith;
      day_to = omega (arith, month_length_one c.month_length.ensures);
    })

pub returns-in_default-4 : goal.returns-in_default-4
returns-in_default-4 c d = let t = tests_of_date _ d in omega (arith, month_length_one c.month_length.ensures)
