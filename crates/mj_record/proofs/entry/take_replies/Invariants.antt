use Rattle.std.proofs.Common.{◌≡◌, ◌-◌, true}
use Rattle.mj_entry_rows.specs.Items.{reply_in}
use Rattle.mj_entry_rows.specs.Readings.{list_in, more_in}
use Rattle.mj_record.proofs.entry.take_replies.Given as goal

abbrev pub invariant-loop : goal.invariant-loop
invariant-loop l = more_in reply_in (λ so_far item. true) l.replies (l.count - l.counter) l.reader ≡ list_in reply_in l.fn.reader
