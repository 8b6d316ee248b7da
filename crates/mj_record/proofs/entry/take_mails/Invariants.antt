use Rattle.std.proofs.Common.{◌≡◌, ◌-◌, true}
use Rattle.mj_entry_rows.specs.Items.{mail_in}
use Rattle.mj_entry_rows.specs.Readings.{list_in, more_in}
use Rattle.mj_record.proofs.entry.take_mails.Given as goal

abbrev pub invariant-loop : goal.invariant-loop
invariant-loop l = more_in mail_in (λ so_far item. true) l.mails (l.count - l.counter) l.reader ≡ list_in mail_in l.fn.reader
