-- What a gate and the length behind it say.
use Rattle.std.specs.Prelude.{◌≡◌, ℕ, ◌+◌, ◌-◌, ◌<◌, ◌≤◌, Bool, false, nat_le, nat_lt, ◌&&◌, List, length, take, drop, get_or, Option, Some, None}
use Rattle.mj_log.specs.Journal.{number_of}
use Rattle.mj_log.specs.FrameLaws.{four}
use Rattle.mj_log.specs.declared.fault.LogFault.{LogFault}
use Rattle.mj_log.specs.declared.fault.LogFault.TheVariants.{NotAJournal, Damaged, Full, DiskFault, Stopped, Memory}

-- a number in four bytes is the first of these, or there are fewer
abbrev pub HasSize : Option ℕ → List ℕ → Type 0
HasSize None rest = length rest < 4
HasSize (Some size) rest = (take 4 rest ≡ four size) × (size < 4294967296)

-- the gate at a place, and the length behind it where its bytes are there
abbrev pub IsHeader : List ℕ → ℕ → ℕ → Option ℕ → Type 0
IsHeader bytes at gate size = (get_or bytes at 0 ≡ gate) × HasSize size (drop (at + 1) bytes)

-- the gate is open and its frame ends at the next place
pub record IsFrame (bytes : List ℕ) (gate next : ℕ) : Type 0 where
  pub is_open : 0 < get_or bytes gate 0
  pub size : take 4 (drop (gate + 1) bytes) ≡ four (next - (gate + 5))
  pub short : next - (gate + 5) ≤ 134217728

-- a length that isn't too great, its payload, and one byte more
abbrev pub is_whole : List ℕ → Bool
is_whole rest = nat_le 4 (length rest) && (nat_le (number_of (take 4 rest)) 134217728 && nat_lt (4 + number_of (take 4 rest)) (length rest))

-- the gate is open, and no whole frame follows
abbrev pub IsBroken : List ℕ → ℕ → Type 0
IsBroken bytes gate = (0 < get_or bytes gate 0) × (is_whole (drop (gate + 1) bytes) ≡ false)

-- what a fault at the gate of this number says of the file
abbrev pub StopsAt : LogFault → ℕ → List ℕ → ℕ → Type 0
StopsAt NotAJournal number bytes gate = ⊥
StopsAt (Damaged n) number bytes gate = (n ≡ number) × IsBroken bytes gate
StopsAt (Full end need) number bytes gate = ⊥
StopsAt (DiskFault faults) number bytes gate = Unit {0}
StopsAt (Stopped faults) number bytes gate = ⊥
StopsAt Memory number bytes gate = Unit {0}
