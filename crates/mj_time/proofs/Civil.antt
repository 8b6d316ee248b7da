-- The year, the month and the day that a day number is counted off to are those of the calendar's date.
use Rattle.std.proofs.Common.{◌≡◌, ℕ, zero, suc, ◌+◌, ◌-◌, ◌*◌, ◌/◌, ◌<◌, ◌≤◌, Bool, true, false, cond, ltb, ℤ, pos, negsuc, ◌-ℤ◌, ◌≤ℤ◌, ◌<ℤ◌, unsigned_abs, refl, sym, ap, ◌∙◌, arith, subst}
use Rattle.std.specs.Prelude.{int_le}
use Rattle.std.proofs.lemmas.Bool.Decides.{nat_tests}
use Rattle.jiff_core.specs.declared.civil.date.Date.{Date}
use Rattle.jiff_core.specs.Calendar.{IsCivilDate, day_count, days_from_civil, weekday_number}
use Rattle.jiff_core.specs.Date.{epoch_day, weekday_of}
use Rattle.jiff_core.proofs.CalendarLemmas.{days_from_civil-day_count, days_in_year_bounds, day_count-day, day_count-day_of_year, day_count-epoch, day_count-lt_month, day_count-lt_year, day_count-next_year}
use Rattle.jiff_core.proofs.SignedLemmas.{signed_arith}
use Rattle.mj_time.specs.DateText.{day_of, line_of, has_begun, month_by, month_of, year_by, year_of}

begun_by : (a b : ℤ) (t : Bool) → int_le a b ≡ t → a ≤ℤ b → int_le a b ≡ true
begun_by a b true e h = e
begun_by a b false e h = absurd (omega (arith, signed_arith))

later_by : (a b : ℤ) (t : Bool) → int_le a b ≡ t → b <ℤ a → int_le a b ≡ false
later_by a b true e h = absurd (omega (arith, signed_arith))
later_by a b false e h = e

begun : (day y m : ℕ) → days_from_civil (pos y) m 1 ≤ℤ pos day → has_begun day y m ≡ true
begun day y m h = begun_by (days_from_civil (pos y) m 1) (pos day) _ refl h

not_begun : (day y m : ℕ) → pos day <ℤ days_from_civil (pos y) m 1 → has_begun day y m ≡ false
not_begun day y m h = later_by (days_from_civil (pos y) m 1) (pos day) _ refl h

year_step : (day y n : ℕ) (t : Bool) → ltb y (1971 + n) ≡ t → y ≤ 1971 + n → has_begun day y 1 ≡ true → ((k : ℕ) → y < k → has_begun day k 1 ≡ false) → (y ≤ 1970 + n → year_by day n ≡ y) → cond (has_begun day (1971 + n) 1) (1971 + n) (year_by day n) ≡ y
year_step day y n true e le here later ih =
    let lt : y < 1971 + n = grind (arith, nat_tests) in
    rw (later (1971 + n) lt) (ih (omega arith))
year_step day y n false e le here later ih =
    let same : y ≡ 1971 + n = grind (arith, nat_tests) in
    let test : has_begun day (1971 + n) 1 ≡ true = subst (λ k. has_begun day k 1 ≡ true) same here in
    rw test (sym same)

-- the last year that has begun is the one that has begun where none after it has
year_by_is : (day y n : ℕ) → 1970 ≤ y → y ≤ 1970 + n → has_begun day y 1 ≡ true → ((k : ℕ) → y < k → has_begun day k 1 ≡ false) → year_by day n ≡ y
unfolding year_by
year_by_is day y zero low le here later = omega arith
year_by_is day y (suc n) low le here later = year_step day y n (ltb y (1971 + n)) refl (omega arith) here later (λ less. year_by_is day y n low less here later)

month_step : (day y m n : ℕ) (t : Bool) → ltb m (suc n) ≡ t → m ≤ suc n → has_begun day y m ≡ true → ((k : ℕ) → m < k → has_begun day y k ≡ false) → (m ≤ n → month_by day y n ≡ m) → cond (has_begun day y (suc n)) (suc n) (month_by day y n) ≡ m
month_step day y m n true e le here later ih =
    let lt : m < suc n = grind (arith, nat_tests) in
    rw (later (suc n) lt) (ih (omega arith))
month_step day y m n false e le here later ih =
    let same : m ≡ suc n = grind (arith, nat_tests) in
    let test : has_begun day y (suc n) ≡ true = subst (λ k. has_begun day y k ≡ true) same here in
    rw test (sym same)

-- the same of months
month_by_is : (day y m n : ℕ) → 1 ≤ m → m ≤ n → has_begun day y m ≡ true → ((k : ℕ) → m < k → has_begun day y k ≡ false) → month_by day y n ≡ m
unfolding month_by
month_by_is day y m zero low le here later = omega arith
month_by_is day y m (suc n) low le here later = month_step day y m n (ltb m (suc n)) refl le here later (λ less. month_by_is day y m n low less here later)

-- each year has 365 days or more
years_long : (k : ℕ) → 4_371_953 + 365 * k ≤ day_count (pos (1970 + k)) 1 1
years_long zero = omega (arith, day_count-epoch)
years_long (suc k) =
    let next = day_count-next_year (pos (1970 + k)) (pos (1970 + suc k)) (omega (arith, signed_arith)) (omega (arith, signed_arith)) in
    omega (arith, next, years_long k, days_in_year_bounds (pos (1970 + k)))

-- a date from 1970 on, with its day number
pub record IsDay (y m d day : ℕ) : Type 0 where
  pub civil : IsCivilDate (pos y) m d
  pub from : 1970 ≤ y
  pub number : days_from_civil (pos y) m d ≡ pos day

year_begun : (y m d day : ℕ) → IsDay y m d day → has_begun day y 1 ≡ true
year_begun y m d day h = begun day y 1 (omega (arith, signed_arith, h.number, h.civil.2.0, days_from_civil-day_count (pos y) m d, days_from_civil-day_count (pos y) 1 1, day_count-day_of_year (pos y) m d h.civil.2.0))

year_later : (y m d day k : ℕ) → IsDay y m d day → y < k → has_begun day k 1 ≡ false
year_later y m d day k h lt = not_begun day k 1 (omega (arith, signed_arith, h.number, days_from_civil-day_count (pos y) m d, days_from_civil-day_count (pos k) 1 1, day_count-lt_year (pos y) m d (pos k) 1 1 h.civil (omega arith) (omega (arith, signed_arith))))

month_begun : (y m d day : ℕ) → IsDay y m d day → has_begun day y m ≡ true
month_begun y m d day h = begun day y m (omega (arith, signed_arith, h.number, h.civil.2.0, days_from_civil-day_count (pos y) m d, days_from_civil-day_count (pos y) m 1, day_count-day (pos y) m d 1 h.civil.2.0 (omega arith)))

month_later : (y m d day k : ℕ) → IsDay y m d day → m < k → has_begun day y k ≡ false
month_later y m d day k h lt = not_begun day y k (omega (arith, signed_arith, h.number, days_from_civil-day_count (pos y) m d, days_from_civil-day_count (pos y) k 1, day_count-lt_month (pos y) m d k 1 h.civil (omega arith) lt))

year_bound : (y m d day : ℕ) → IsDay y m d day → y ≤ 1970 + day / 365
year_bound y m d day h =
    let k : ℕ = y - 1970 in
    let year : 1970 + k ≡ y = omega (arith, h.from) in
    let long : 4_371_953 + 365 * k ≤ day_count (pos y) 1 1 = subst (λ z. 4_371_953 + 365 * k ≤ day_count (pos z) 1 1) year (years_long k) in
    omega (arith, signed_arith, h.number, h.civil.2.0, long, days_from_civil-day_count (pos y) m d, day_count-day_of_year (pos y) m d h.civil.2.0)

pub year_of_is : (y m d day : ℕ) → IsDay y m d day → year_of day ≡ y
year_of_is y m d day h = year_by_is day y (day / 365) h.from (year_bound y m d day h) (year_begun y m d day h) (λ k lt. year_later y m d day k h lt)

pub month_of_is : (y m d day : ℕ) → IsDay y m d day → month_of day ≡ m
month_of_is y m d day h =
    rw (year_of_is y m d day h) (month_by_is day y m 12 (h.civil.1.0) (h.civil.1.1) (month_begun y m d day h) (λ k lt. month_later y m d day k h lt))

pub day_of_is : (y m d day : ℕ) → IsDay y m d day → day_of day ≡ d
day_of_is y m d day h =
    let before : pos day -ℤ days_from_civil (pos y) m 1 ≡ pos (d - 1) = omega (arith, signed_arith, h.number, h.civil.2.0, days_from_civil-day_count (pos y) m d, days_from_civil-day_count (pos y) m 1, day_count-day (pos y) m d 1 h.civil.2.0 (omega arith)) in
    let last : d - 1 + 1 ≡ d = omega (arith, h.civil.2.0) in
    rw (month_of_is y m d day h, year_of_is y m d day h) (ap (λ z. unsigned_abs z + 1) before ∙ last)

late_year_by : (n m d : ℕ) (t : Bool) → ltb n 1970 ≡ t → IsCivilDate (pos n) m d → pos 0 ≤ℤ days_from_civil (pos n) m d → 1970 ≤ n
late_year_by n m d true e civil h =
    let lt : n < 1970 = grind (arith, nat_tests) in
    absurd (omega (arith, signed_arith, days_from_civil-day_count (pos n) m d, day_count-epoch, day_count-lt_year (pos n) m d (pos 1970) 1 1 civil (omega arith) (omega (arith, signed_arith))))
late_year_by n m d false e civil h = grind (arith, nat_tests)

-- a day number that isn't negative is of a year from 1970 on
pub late_year_of : (y : ℤ) (m d : ℕ) → IsCivilDate y m d → pos 0 ≤ℤ days_from_civil y m d → (pos (unsigned_abs y) ≡ y) × (1970 ≤ unsigned_abs y)
late_year_of (pos n) m d civil h = (refl, late_year_by n m d (ltb n 1970) refl civil h)
late_year_of (negsuc n) m d civil h =
    absurd (omega (arith, signed_arith, days_from_civil-day_count (negsuc n) m d, day_count-epoch, day_count-lt_year (negsuc n) m d (pos 1970) 1 1 civil (omega arith) (omega (arith, signed_arith))))

-- the line of a date is the date text of a moment of that day
pub line_is : (d : Date) (day second : ℕ) → epoch_day d ≡ pos day → line_of (weekday_of d) (unsigned_abs d.year) d.month d.day second ≡ line_of (weekday_number (pos day)) (year_of day) (month_of day) (day_of day) second
line_is d day second e =
    let late = late_year_of d.year d.month d.day (d.year_in, d.month_in, d.day_in) (subst (λ z. pos 0 ≤ℤ z) (sym e) (omega (arith, signed_arith))) in
    let number : days_from_civil (pos (unsigned_abs d.year)) d.month d.day ≡ pos day = ap (λ z. days_from_civil z d.month d.day) late.0 ∙ e in
    let civil : IsCivilDate (pos (unsigned_abs d.year)) d.month d.day = subst (λ z. IsCivilDate z d.month d.day) (sym late.0) (d.year_in, d.month_in, d.day_in) in
    let h : IsDay (unsigned_abs d.year) d.month d.day day = record { civil = civil; from = late.1; number = number } in
    sym (λ k. line_of (weekday_number (sym e k)) (year_of_is (unsigned_abs d.year) d.month d.day day h k) (month_of_is (unsigned_abs d.year) d.month d.day day h k) (day_of_is (unsigned_abs d.year) d.month d.day day h k) second)
