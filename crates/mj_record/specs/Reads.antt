-- What the reading of a whole entry answers.
use Rattle.std.specs.Prelude.{◌≡◌, Option, Some, None, Result, Ok, Err}
use Rattle.mj_entry_items.specs.declared.fault.EntryFault.{EntryFault}
use Rattle.mj_entry_items.specs.declared.fault.EntryFault.TheVariants.{Bad, Memory}

-- What was read is the item, or there is none. Only want of memory comes beside it.
abbrev pub Reads : {X : Type 0} → Result X EntryFault → Option X → Type 0
Reads (Ok item) found = found ≡ Some item
Reads (Err Bad) found = found ≡ None
Reads (Err Memory) found = Unit {0}
