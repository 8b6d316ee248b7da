-- A schedule while its text is read: how many attempts there are so far, and their delays, which count only up to 100.
use Rattle.std.specs.Prelude.{ℕ, ◌+◌, ◌++◌, max, nat_lt, if◌then◌else◌, List, [], length, Option, Some, None, Result, Ok, Err}
use Rattle.std.specs.List.{slice_split}
use Rattle.mj_delays.specs.Schedule.{attempts, written_out, extended, is_comma}
use Rattle.mj_delays.specs.declared.delays.Entry.{Entry}
use Rattle.mj_delays.specs.declared.schedules.ScheduleFault.{ScheduleFault}
use Rattle.mj_delays.specs.declared.schedules.ScheduleFault.TheVariants.{TooMany}

-- the schedule for n retries, once the entries that are left are read
unfoldable pub completed : ℕ → ℕ → List ℕ → List Entry → Result (List ℕ) ScheduleFault
completed n count delays entries = if nat_lt 100 (max (count + attempts entries) n) then Err TooMany else Ok (extended n (delays ++ written_out entries))

-- the parts of a text between its commas, and none where there is no text
abbrev pub parts_of : Option (List ℕ) → List (List ℕ)
parts_of None = []
parts_of (Some text) = slice_split is_comma text

-- what is left to read: the bytes of a text and its end, and nothing where there is no text
abbrev pub left : Option (List ℕ) → ℕ
left None = 0
left (Some text) = length text + 1
