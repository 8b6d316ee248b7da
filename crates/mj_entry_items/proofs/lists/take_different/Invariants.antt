use Rattle.std.proofs.Common.{◌≡◌, ◌-◌}
use Rattle.mj_entry_rows.specs.Items.{address_in, is_new_recipient}
use Rattle.mj_entry_rows.specs.Readings.{fitting_in, more_in}
use Rattle.mj_entry_items.proofs.lists.take_different.Given as goal

abbrev pub invariant-loop : goal.invariant-loop
invariant-loop l = more_in address_in is_new_recipient l.recipients (l.count - l.counter) l.reader ≡ fitting_in address_in is_new_recipient l.fn.reader
