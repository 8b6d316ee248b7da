use Rattle.std.proofs.Common.{◌≡◌, ◌+◌, ◌≤◌, length, Some}
use Rattle.std.specs.Option.{option_copied}
use Rattle.mj_terms.specs.Answers.{◌>>=◌}
use Rattle.mj_delays.specs.Schedule.{entries_from, schedule_of}
use Rattle.mj_delays.specs.Draft.{completed, left, parts_of}
use Rattle.mj_delays.proofs.schedules.read_text.Given as goal

-- the draft, completed by the entries that are left, is the schedule of the text
abbrev pub invariant-loop-rest : goal.invariant-loop-rest
invariant-loop-rest l = record {
  whole : (entries_from l.place (parts_of (option_copied l.rest)) >>= completed l.max_retries l.draft.attempts l.draft.delays.items) ≡ schedule_of (Some l.fn.text) l.max_retries;
  begun : 1 ≤ l.draft.attempts + left (option_copied l.rest);
  room : l.place + left (option_copied l.rest) ≤ length l.fn.text + 2;
}

abbrev pub decreases-loop-rest : goal.decreases-loop-rest
decreases-loop-rest l = left (option_copied l.rest)
