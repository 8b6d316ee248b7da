-- What taking an item off the front of some bytes answers.
use Rattle.std.specs.Prelude.{◌≡◌, ℕ, List, Option, Some, None, Result, Ok, Err}
use Rattle.mj_entry_items.specs.declared.fault.EntryFault.{EntryFault}
use Rattle.mj_entry_items.specs.declared.fault.EntryFault.TheVariants.{Bad, Memory}

-- An item was taken off the front of some bytes, of which `rest` is left; or there is none of its form. Only want of
-- memory comes beside it.
abbrev pub Takes : {X : Type 0} → Result X EntryFault → Option (X × List ℕ) → List ℕ → Type 0
Takes (Ok item) reading rest = reading ≡ Some (item, rest)
Takes (Err Bad) reading rest = reading ≡ None
Takes (Err Memory) reading rest = Unit {0}
