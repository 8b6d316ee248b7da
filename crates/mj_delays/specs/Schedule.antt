-- The list of delays that a delay text and a number of retries give.
use Rattle.std.specs.Prelude.{ℕ, ◌+◌, ◌-◌, ◌==◌, max, Bool, nat_lt, if◌then◌else◌, List, [], ◌∷◌, ◌++◌, length, replicate, slice_index, Option, Some, None, Result, Ok, Err}
use Rattle.std.specs.List.{slice_split}
use Rattle.mj_terms.specs.Answers.{◌>>=◌, GivesBy}
use Rattle.mj_delays.specs.Delays.{entry_of}
use Rattle.mj_delays.specs.declared.delays.Entry.{Entry}
use Rattle.mj_delays.specs.declared.schedules.ScheduleFault.{ScheduleFault}
use Rattle.mj_delays.specs.declared.schedules.ScheduleFault.TheVariants.{BadDelay, TooLong, TooMany, Memory}

-- the entry at a place: a text that spells none is a bad delay, and the longest delay is seven days
abbrev pub checked : ℕ → Option Entry → Result Entry ScheduleFault
checked place None = Err (BadDelay place)
checked place (Some entry) = if nat_lt 604_800_000 entry.delay then Err (TooLong place) else Ok entry

-- the entries of the texts, whose places are counted from this one on; the first fault from the left counts
abbrev pub entries_from : ℕ → List (List ℕ) → Result (List Entry) ScheduleFault
entries_from place [] = Ok []
entries_from place (text ∷ texts) = do
  entry ← checked place (entry_of text)
  entries ← entries_from (place + 1) texts
  Ok (entry ∷ entries)

-- how many attempts the entries have together
abbrev pub attempts : List Entry → ℕ
attempts [] = 0
attempts (entry ∷ entries) = entry.attempts + attempts entries

-- each delay as often as its entry has attempts
abbrev pub written_out : List Entry → List ℕ
written_out [] = []
written_out (entry ∷ entries) = replicate entry.attempts entry.delay ++ written_out entries

-- the last delay again and again, until the list has n members
abbrev pub extended : ℕ → List ℕ → List ℕ
extended n delays = delays ++ replicate (n - length delays) (slice_index delays (length delays - 1))

-- the list of the entries for n retries, which has at least n members and at most 100
abbrev pub list_of : ℕ → List Entry → Result (List ℕ) ScheduleFault
list_of n entries = if nat_lt 100 (max (attempts entries) n) then Err TooMany else Ok (extended n (written_out entries))

abbrev pub is_comma : ℕ → Bool
is_comma byte = byte == 44

-- without a text there is the one entry of six hours
abbrev pub default_entry : Entry
default_entry = record { attempts = 1; delay = 21_600_000 }

-- the schedule of a delay text, if there is one, for n retries
abbrev pub schedule_of : Option (List ℕ) → ℕ → Result (List ℕ) ScheduleFault
schedule_of None n = list_of n (default_entry ∷ [])
schedule_of (Some text) n = entries_from 1 (slice_split is_comma text) >>= list_of n

-- a fault but want of memory
abbrev pub told : ScheduleFault → Option ScheduleFault
told Memory = None
told fault = Some fault

-- what was answered is the schedule, or the fault that there is in place of one, unless memory ran out
abbrev pub Gives : Result (List ℕ) ScheduleFault → Result (List ℕ) ScheduleFault → Type 0
Gives answer schedule = GivesBy told (λ delays. delays) answer schedule
