use Rattle.std.proofs.Common.{◌≡◌, ◌-◌}
use Rattle.mj_entry_rows.specs.Items.{head_in, is_next_field}
use Rattle.mj_entry_rows.specs.Readings.{more_in, pair_in}
use Rattle.mj_entry_items.proofs.lists.take_head.Given as goal

abbrev pub invariant-loop : goal.invariant-loop
invariant-loop l = more_in pair_in is_next_field l.head (l.count - l.counter) l.reader ≡ head_in l.fn.reader
