-- The date text of a moment (RFC 5322, 3.3), as `Mon, 01 Jan 2024 00:00:00 +0000`.
use Rattle.std.specs.Prelude.{ℕ, zero, suc, ◌+◌, ◌-◌, ◌/◌, ◌%◌, Bool, if◌then◌else◌, pos, ◌-ℤ◌, int_le, unsigned_abs, List, [], ◌∷◌, slice_index_or, codes}
use Rattle.std.specs.List.{concat}
use Rattle.jiff_core.specs.declared.civil.date.Date.{Date}
use Rattle.jiff_core.specs.Calendar.{days_from_civil, weekday_number}
use Rattle.jiff_core.specs.Date.{weekday_of}

-- a number below 100 in two digits
abbrev pub two_digits : ℕ → List ℕ
two_digits n = (48 + n / 10) ∷ (48 + n % 10) ∷ []

-- the name of a day of the week, where Monday is 0
abbrev pub weekday_name : ℕ → List ℕ
weekday_name n = slice_index_or (codes "Mon" ∷ codes "Tue" ∷ codes "Wed" ∷ codes "Thu" ∷ codes "Fri" ∷ codes "Sat" ∷ codes "Sun" ∷ []) n []

-- the name of a month, where January is 1
abbrev pub month_name : ℕ → List ℕ
month_name n = slice_index_or (codes "Jan" ∷ codes "Feb" ∷ codes "Mar" ∷ codes "Apr" ∷ codes "May" ∷ codes "Jun" ∷ codes "Jul" ∷ codes "Aug" ∷ codes "Sep" ∷ codes "Oct" ∷ codes "Nov" ∷ codes "Dec" ∷ []) (n - 1) []

-- the line of a date, and of the seconds since its midnight
unfoldable pub line_of : (weekday year month day second : ℕ) → List ℕ
line_of weekday year month day second =
    concat (weekday_name weekday ∷ codes ", " ∷ two_digits day ∷ codes " " ∷ month_name month ∷ codes " "
    ∷ two_digits (year / 100) ∷ two_digits (year % 100) ∷ codes " "
    ∷ two_digits (second / 3_600) ∷ codes ":" ∷ two_digits (second / 60 % 60) ∷ codes ":" ∷ two_digits (second % 60) ∷ codes " +0000" ∷ [])

-- a month has begun by the day of this number
abbrev pub has_begun : ℕ → ℕ → ℕ → Bool
has_begun day year month = int_le (days_from_civil (pos year) month 1) (pos day)

-- the last of the years from 1970 to 1970 + n that has begun by the day
unfoldable pub year_by : ℕ → ℕ → ℕ
year_by day zero = 1970
year_by day (suc n) = if has_begun day (1971 + n) 1 then 1971 + n else year_by day n

-- the year of a day: each year has 365 days or more
abbrev pub year_of : ℕ → ℕ
year_of day = year_by day (day / 365)

-- the last of the first n months of a year that has begun by the day, and January at least
unfoldable pub month_by : ℕ → ℕ → ℕ → ℕ
month_by day year zero = 1
month_by day year (suc n) = if has_begun day year (suc n) then suc n else month_by day year n

abbrev pub month_of : ℕ → ℕ
month_of day = month_by day (year_of day) 12

-- the day of the month, from 1
abbrev pub day_of : ℕ → ℕ
day_of day = unsigned_abs (pos day -ℤ days_from_civil (pos (year_of day)) (month_of day) 1) + 1

-- the day number of a moment, and the seconds since that day's midnight, without the milliseconds
abbrev pub day_number : ℕ → ℕ
day_number moment = moment / 86_400_000

abbrev pub second_of_day : ℕ → ℕ
second_of_day moment = moment / 1_000 % 86_400

-- the date text of a moment
abbrev pub date_text_of : ℕ → List ℕ
date_text_of moment =
    let day = day_number moment in
    line_of (weekday_number (pos day)) (year_of day) (month_of day) (day_of day) (second_of_day moment)

-- the same by a civil date
abbrev pub date_text_on : Date → ℕ → List ℕ
date_text_on d moment = line_of (weekday_of d) (unsigned_abs d.year) d.month d.day (second_of_day moment)
