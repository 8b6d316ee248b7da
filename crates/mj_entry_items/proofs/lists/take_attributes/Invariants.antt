use Rattle.std.proofs.Common.{◌≡◌, ◌-◌}
use Rattle.mj_entry_rows.specs.Items.{attributes_in, is_next_attribute}
use Rattle.mj_entry_rows.specs.Readings.{more_in, pair_in}
use Rattle.mj_entry_items.proofs.lists.take_attributes.Given as goal

abbrev pub invariant-loop : goal.invariant-loop
invariant-loop l = more_in pair_in is_next_attribute l.attributes (l.count - l.counter) l.reader ≡ attributes_in l.fn.reader
