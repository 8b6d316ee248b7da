use Rattle.std.proofs.Common.{◌≡◌, ◌-◌, true}
use Rattle.std.specs.Int.{w32}
use Rattle.mj_entry_rows.specs.Readings.{list_in, more_in, number_in}
use Rattle.mj_entry_items.proofs.lists.take_path.Given as goal

abbrev pub invariant-loop : goal.invariant-loop
invariant-loop l = more_in (number_in w32) (λ so_far item. true) l.path (l.count - l.counter) l.reader ≡ list_in (number_in w32) l.fn.reader
