-- Day numbers from 1970 on.
use Rattle.std.proofs.Common.{◌≡◌, ℕ, ◌<◌, ◌≤◌, Bool, true, false, ltb, ℤ, pos, ◌≤ℤ◌, ◌&&◌, nat_le, IsTrue, to_z, w8, w16, refl, sym, ap, arith, subst}
use Rattle.std.proofs.lemmas.Bool.Decides.{nat_tests}
use Rattle.jiff_core.specs.declared.civil.date.Date.{Date}
use Rattle.jiff_core.specs.Calendar.{IsBetween, IsDate, IsYear, days_in_month, day_count, days_from_civil}
use Rattle.jiff_core.specs.Date.{epoch_day, IsYmd}
use Rattle.jiff_core.proofs.CalendarLemmas.{days_from_civil-day_count, day_count-day_of_year, day_count-epoch, day_count-later_year}
use Rattle.jiff_core.proofs.SignedLemmas.{back_small, signed_arith}
use Rattle.mj_time.specs.declared.moments.Fields.{Fields}
use Rattle.mj_time.specs.Fields.{HasFewDigits}
use Rattle.mj_time.specs.Moment.{is_date, is_in_range}

pub year_from_epoch : (y : ℕ) (later : Bool) → ltb 1970 y ≡ later → 1970 ≤ y → 4_371_953 ≤ day_count (pos y) 1 1
year_from_epoch y true e from =
    let lt : 1970 < y = grind (arith, nat_tests) in
    omega (arith, day_count-epoch, day_count-later_year (pos 1970) (pos y) (omega (arith, signed_arith)) (omega (arith, signed_arith)))
year_from_epoch y false e from =
    let same : y ≡ 1970 = grind (arith, nat_tests) in
    omega (arith, day_count-epoch, ap (λ k. day_count (pos k) 1 1) same)

from_epoch : (y : ℕ) (m d : ℕ) → 1970 ≤ y → 1 ≤ d → pos 0 ≤ℤ days_from_civil (pos y) m d
from_epoch y m d from first =
    omega (arith, signed_arith, days_from_civil-day_count (pos y) m d, day_count-day_of_year (pos y) m d first, year_from_epoch y (ltb 1970 y) refl from)

-- the day number of a date by its parts
pub epoch_day_is : (d : Date) (year month day : ℕ) → IsYmd (pos year) (pos month) (pos day) d → epoch_day d ≡ days_from_civil (pos year) month day
epoch_day_is d year month day h = cc

-- from 1970 on a day number isn't negative
pub not_negative : (d : Date) (year month day : ℕ) → IsYmd (pos year) (pos month) (pos day) d → 1970 ≤ year → pos 0 ≤ℤ epoch_day d
not_negative d year month day h from =
    let day_is : d.day ≡ day = cc in
    let first : 1 ≤ day = omega (arith, d.day_in.0, day_is) in
    subst (λ e. pos 0 ≤ℤ e) (sym (epoch_day_is d year month day h)) (from_epoch year month day from first)

-- the parts of a date, as a test and as a fact
pub test_parts : (m d days : ℕ) → (nat_le 1 m && nat_le m 12 && nat_le 1 d && nat_le d days) ≡ true → (1 ≤ m) × (m ≤ 12) × (1 ≤ d) × (d ≤ days)
test_parts m d days e = (grind (arith, nat_tests), grind (arith, nat_tests), grind (arith, nat_tests), grind (arith, nat_tests))

parts_test : (m d days : ℕ) → 1 ≤ m → m ≤ 12 → 1 ≤ d → d ≤ days → (nat_le 1 m && nat_le m 12 && nat_le 1 d && nat_le d days) ≡ true
parts_test m d days a b c e = grind (arith, nat_tests)

date_parts : (y m d days : ℕ) → y < 10_000 → (1 ≤ m) × (m ≤ 12) × (1 ≤ d) × (d ≤ days) → IsYear (pos y) × IsBetween (pos 1) (pos 12) (pos m) × IsBetween (pos 1) (pos days) (pos d)
date_parts y m d days few h = ((omega (arith, signed_arith), omega (arith, signed_arith)), (omega (arith, signed_arith), omega (arith, signed_arith)), (omega (arith, signed_arith), omega (arith, signed_arith)))

parts_date : (m d days : ℕ) → IsBetween (pos 1) (pos 12) (pos m) × IsBetween (pos 1) (pos days) (pos d) → (1 ≤ m) × (m ≤ 12) × (1 ≤ d) × (d ≤ days)
parts_date m d days h = (omega (arith, signed_arith), omega (arith, signed_arith), omega (arith, signed_arith), omega (arith, signed_arith))

-- the calendar has a date whose test is true
pub date_from_test : (f : Fields) → HasFewDigits f → is_date f ≡ true → IsDate (pos f.year) (pos f.month) (pos f.day)
date_from_test f few e = date_parts f.year f.month f.day (days_in_month (pos f.year) f.month) few.year (test_parts f.month f.day (days_in_month (pos f.year) f.month) e)

-- and no other
pub test_from_date : (f : Fields) → IsDate (pos f.year) (pos f.month) (pos f.day) → is_date f ≡ true
test_from_date f h =
    let parts = parts_date f.month f.day (days_in_month (pos f.year) f.month) (h.1, h.2) in
    parts_test f.month f.day (days_in_month (pos f.year) f.month) parts.0 parts.1 parts.2 parts.3

-- two tests that follow from each other are the same
pub same_test : (a b : Bool) → (a ≡ true → b ≡ true) → (b ≡ true → a ≡ true) → a ≡ b
same_test true b to from = sym (to refl)
same_test false true to from = from refl
same_test false false to from = refl

pub late_year : (f : Fields) → IsTrue (is_in_range f) → 1970 ≤ f.year
late_year f h = grind (arith, nat_tests)

-- the parts of a date as signed numbers
pub signed_parts : (f : Fields) → HasFewDigits f → (to_z w16 f.year ≡ pos f.year) × (to_z w8 f.month ≡ pos f.month) × (to_z w8 f.day ≡ pos f.day)
signed_parts f few = (back_small w16 (pos f.year) (omega (arith, few.year)), back_small w8 (pos f.month) (omega (arith, few.month)), back_small w8 (pos f.day) (omega (arith, few.day)))

-- a date by parts that are equal
pub same_date : (y y' m m' d d' : ℤ) → y ≡ y' → m ≡ m' → d ≡ d' → IsDate y m d → IsDate y' m' d'
same_date y y' m m' d d' e f g h = subst (λ z. IsDate y' m' z) g (subst (λ z. IsDate y' z d) f (subst (λ z. IsDate z m d) e h))
