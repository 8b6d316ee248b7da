-- What a fault of an address is for an entry.
use Rattle.mj_address.specs.declared.fault.AddressFault.{AddressFault}
use Rattle.mj_address.specs.declared.fault.AddressFault.TheVariants.{Memory as NoRoom}
use Rattle.mj_entry_items.specs.declared.fault.EntryFault.{EntryFault}
use Rattle.mj_entry_items.specs.declared.fault.EntryFault.TheVariants.{Bad, Memory}

abbrev pub fault_by : AddressFault → EntryFault
fault_by NoRoom = Memory
fault_by fault = Bad
