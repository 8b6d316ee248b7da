-- Moments in the form `YYYY-MM-DDTHH:MM:SSZ`.
use Rattle.std.specs.Prelude.{ℕ, ◌+◌, ◌*◌, ◌==◌, ◌&&◌, Bool, nat_lt, nat_le, if◌then◌else◌, pos, unsigned_abs, List, length, slice_index, slice_range, Option, Some, None, Result, Ok, Err}
use Rattle.jiff_core.specs.Calendar.{days_in_month, days_from_civil}
use Rattle.mj_delays.specs.Digits.{numeral_of}
use Rattle.mj_delays.specs.Steps.{◌>>=◌}
use Rattle.mj_time.specs.declared.moments.Fields.{Fields}
use Rattle.mj_time.specs.declared.moments.MomentFault.{MomentFault}
use Rattle.mj_time.specs.declared.moments.MomentFault.TheVariants.{Bad, OutOfRange}

-- twenty bytes, with `-`, `-`, `T`, `:`, `:` and `Z` at their places
abbrev pub has_separators : List ℕ → Bool
has_separators text =
    length text == 20 && slice_index text 4 == 45 && slice_index text 7 == 45 && slice_index text 10 == 84
    && slice_index text 13 == 58 && slice_index text 16 == 58 && slice_index text 19 == 90

-- the number that the digits from one place of a text up to another spell
abbrev pub field : List ℕ → ℕ → ℕ → Option ℕ
field text from to = numeral_of (slice_range text from to)

-- the six numbers of a text of the form, and nothing for a text of another form
unfoldable pub fields_of : List ℕ → Option Fields
fields_of text = if has_separators text then (do
  year ← field text 0 4
  month ← field text 5 7
  day ← field text 8 10
  hour ← field text 11 13
  minute ← field text 14 16
  second ← field text 17 19
  Some (record { year = year; month = month; day = day; hour = hour; minute = minute; second = second }))
    else None

-- the calendar has this day
abbrev pub is_date : Fields → Bool
is_date f = nat_le 1 f.month && nat_le f.month 12 && nat_le 1 f.day && nat_le f.day (days_in_month (pos f.year) f.month)

-- a clock shows this time
abbrev pub is_time : Fields → Bool
is_time f = nat_lt f.hour 24 && nat_lt f.minute 60 && nat_lt f.second 60

-- a year from 1970 to 2100
abbrev pub is_in_range : Fields → Bool
is_in_range f = nat_le 1970 f.year && nat_le f.year 2100

-- the milliseconds from 1970-01-01T00:00:00Z on; from 1970 on, a day's number isn't negative
abbrev pub milliseconds_at : Fields → ℕ
milliseconds_at f =
    (unsigned_abs (days_from_civil (pos f.year) f.month f.day) * 86_400 + f.hour * 3_600 + f.minute * 60 + f.second) * 1_000

-- the moment of the numbers: first there has to be such a date and time, and then the year has to be in range
abbrev pub moment_at : Option Fields → Result ℕ MomentFault
moment_at None = Err Bad
moment_at (Some f) =
    if is_date f && is_time f then (if is_in_range f then Ok (milliseconds_at f) else Err OutOfRange) else Err Bad

-- the moment that a text spells, or why it spells none
abbrev pub moment_of : List ℕ → Result ℕ MomentFault
moment_of text = moment_at (fields_of text)
