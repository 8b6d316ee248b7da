use Rattle.std.proofs.Common.{◌≡◌, ◌-◌, true}
use Rattle.mj_entry_rows.specs.Items.{fact_in}
use Rattle.mj_entry_rows.specs.Readings.{list_in, more_in}
use Rattle.mj_record.proofs.entry.take_facts.Given as goal

abbrev pub invariant-loop : goal.invariant-loop
invariant-loop l = more_in fact_in (λ so_far item. true) l.facts (l.count - l.counter) l.reader ≡ list_in fact_in l.fn.reader
