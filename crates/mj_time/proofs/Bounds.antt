-- A moment of a year up to 2100 is below the first one of 2101.
use Rattle.std.proofs.Common.{◌≡◌, ℕ, ◌+◌, ◌<◌, ◌≤◌, Bool, true, false, ℤ, pos, negsuc, unsigned_abs, List, Option, Some, None, Result, Ok, Err, ◌&&◌, nat_le, nat_lt, refl, ap, ◌∙◌, subst, arith}
use Rattle.std.specs.Prelude.{if◌then◌else◌, IsTrue}
use Rattle.std.proofs.lemmas.Bool.Decides.{nat_tests}
use Rattle.std.proofs.lemmas.Bool.{and_parts}
use borrow.Author.Differences.{up, down}
use Rattle.jiff_core.specs.declared.civil.date.Date.{Date}
use Rattle.jiff_core.specs.Date.{epoch_day, IsYmd}
use Rattle.jiff_core.specs.Calendar.{IsCivilDate, days_in_month, day_count, days_from_civil}
use Rattle.jiff_core.proofs.CalendarLemmas.{days_from_civil-day_count, day_count-day_of_year, day_count-lt_year}
use Rattle.jiff_core.proofs.MarchLemmas.{day_count-early}
use Rattle.jiff_core.proofs.SignedLemmas.{signed_arith}
use Rattle.mj_time.specs.declared.moments.Fields.{Fields}
use Rattle.mj_time.specs.declared.moments.MomentFault.{MomentFault}
use Rattle.mj_time.specs.declared.moments.MomentFault.TheVariants.{Bad, OutOfRange}
use Rattle.mj_time.specs.Moment.{fields_of, is_date, is_time, is_in_range, milliseconds_at, moment_at, moment_of}
use Rattle.mj_time.proofs.Days.{epoch_day_is, test_parts, year_from_epoch}

year_2101 : day_count (pos 2101) 1 1 ≡ 4_419_800
year_2101 = day_count-early (pos 2101) 12100 1 1 refl (omega arith) (omega arith) (omega arith)

counted : (z : ℤ) (count : ℕ) → up z + 4_371_953 ≡ down z + count → 4_371_953 ≤ count → count < 4_419_800 → unsigned_abs z < 47_847
counted (pos n) count e low high = omega (arith, signed_arith)
counted (negsuc n) count e low high = absurd (omega (arith, signed_arith))

civil : (y m d : ℕ) → 1970 ≤ y → y ≤ 2100 → (1 ≤ m) × (m ≤ 12) × (1 ≤ d) × (d ≤ days_in_month (pos y) m) → IsCivilDate (pos y) m d
civil y m d low high h = ((omega (arith, signed_arith), omega (arith, signed_arith)), (h.0, h.1), (h.2, h.3))

-- the days from 1970-01-01 to a date of these years
day_small : (y m d : ℕ) → 1970 ≤ y → y ≤ 2100 → (1 ≤ m) × (m ≤ 12) × (1 ≤ d) × (d ≤ days_in_month (pos y) m) → unsigned_abs (days_from_civil (pos y) m d) < 47_847
day_small y m d low high h =
    let next = day_count-lt_year (pos y) m d (pos 2101) 1 1 (civil y m d low high h) (omega arith) (omega (arith, signed_arith)) in
    counted (days_from_civil (pos y) m d) (day_count (pos y) m d) (days_from_civil-day_count (pos y) m d)
    (omega (arith, h.2, day_count-day_of_year (pos y) m d h.2, year_from_epoch y _ refl low))
    (omega (arith, next, year_2101))

pub clock : (h m s : ℕ) → (nat_lt h 24 && nat_lt m 60 && nat_lt s 60) ≡ true → (h < 24) × (m < 60) × (s < 60)
clock h m s e = (grind (arith, nat_tests), grind (arith, nat_tests), grind (arith, nat_tests))

years : (y : ℕ) → (nat_le 1970 y && nat_le y 2100) ≡ true → (1970 ≤ y) × (y ≤ 2100)
years y e = (grind (arith, nat_tests), grind (arith, nat_tests))

-- the moment of a date and a time
moment_by_parts : (f : Fields) → (1 ≤ f.month) × (f.month ≤ 12) × (1 ≤ f.day) × (f.day ≤ days_in_month (pos f.year) f.month) → is_time f ≡ true → is_in_range f ≡ true
    → milliseconds_at f < 4_133_980_800_000
moment_by_parts f date time range =
    let late = years f.year range in
    let day = day_small f.year f.month f.day late.0 late.1 date in
    let seconds = clock f.hour f.minute f.second time in
    omega (arith, day, seconds.0, seconds.1, seconds.2)

calendar_parts : (d : Date) (y m day : ℕ) → IsYmd (pos y) (pos m) (pos day) d → (1 ≤ m) × (m ≤ 12) × (1 ≤ day) × (day ≤ days_in_month (pos y) m)
calendar_parts d y m day h =
    let year_is : d.year ≡ pos y = cc in
    let month_is : d.month ≡ m = cc in
    let day_is : d.day ≡ day = cc in
    let days : d.day ≤ days_in_month (pos y) m = subst (λ z. d.day ≤ days_in_month z m) year_is (subst (λ k. d.day ≤ days_in_month d.year k) month_is d.day_in.1) in
    (omega (arith, d.month_in.0), omega (arith, d.month_in.1), omega (arith, d.day_in.0), omega arith)

-- the day number of a date of these years
pub day_below : (d : Date) (f : Fields) (day : ℕ) → pos day ≡ epoch_day d → IsYmd (pos f.year) (pos f.month) (pos f.day) d → IsTrue (is_in_range f) → day < 47_847
day_below d f day e date range =
    let late = years f.year range in
    let same : day ≡ unsigned_abs (days_from_civil (pos f.year) f.month f.day) = ap unsigned_abs (e ∙ epoch_day_is d f.year f.month f.day date) in
    omega (arith, same, day_small f.year f.month f.day late.0 late.1 (calendar_parts d f.year f.month f.day date))

by_tests : (f : Fields) (there in_range : Bool) → (is_date f && is_time f) ≡ there → is_in_range f ≡ in_range
    → (m : ℕ) → ◌≡◌ {A = Result ℕ MomentFault} (if there then (if in_range then Ok (milliseconds_at f) else Err OutOfRange) else Err Bad) (Ok m) → m < 4_133_980_800_000
by_tests f false in_range e range m is = absurd cc
by_tests f true false e range m is = absurd cc
by_tests f true true e range m is =
    let parts = and_parts (is_date f) (is_time f) e in
    let same : milliseconds_at f ≡ m = cc in
    omega (arith, same, moment_by_parts f (test_parts f.month f.day (days_in_month (pos f.year) f.month) parts.0) parts.1 range)

of_fields : (fields : Option Fields) (m : ℕ) → moment_at fields ≡ Ok m → m < 4_133_980_800_000
of_fields None m e = absurd cc
of_fields (Some f) m e = by_tests f (is_date f && is_time f) (is_in_range f) refl refl m e

pub moment_small : (text : List ℕ) (m : ℕ) → moment_of text ≡ Ok m → m < 4_133_980_800_000
moment_small text m e = of_fields (fields_of text) m e
