-- A log as its parts, and the payloads that it has.
use Rattle.std.specs.Prelude.{◌≡◌, ℕ, ◌+◌, ◌-◌, ◌<◌, ◌≤◌, ◌^◌, List, [], ◌∷◌, ◌++◌, length, take, min, Option, None, option_map, Result, IsErrOf}
use Rattle.mj_terms.specs.Causes.{Rose}
use Rattle.mj_disk.specs.Media.{Media, settled}
use Rattle.mj_disk.specs.Moments.{Now, bytes_now}
use Rattle.mj_log.specs.Journal.{Reading, damaged, not_a_journal, payloads}
use Rattle.mj_log.specs.declared.fault.LogFault.{LogFault}
use Rattle.mj_log.specs.declared.fault.LogFault.TheVariants.{NotAJournal, Damaged, Full, DiskFault, Stopped, Memory}
use Rattle.mj_log.specs.FrameLaws.{framed}
use Rattle.mj_log.specs.Log.{IsAt}
use Rattle.mj_log.specs.Places.{listed, size_at, AreSpaced, IsJournal, IsHeld}

-- the places of the gates of its payloads and of the closing one, and what the next append finds room for: so many bytes,
-- and so many places in all
pub record LogView (D : Type 0) : Type 0 where
  pub disk : D
  pub places : List ℕ
  pub end : ℕ
  pub limit : ℕ
  pub stop : Option ℕ
  pub room : ℕ
  pub slots : ℕ

-- the first so many payloads of the disk as it reads, where it tells
abbrev pub told_of : List Media → ℕ → Option (List (List ℕ))
told_of moments count = option_map (λ bytes. take count (listed (payloads bytes))) (bytes_now moments)

-- the payloads that a log tells
abbrev pub told : {D : Type 0} → (D → List Media) → LogView D → Option (List (List ℕ))
told moments log = told_of (moments log.disk) (length log.places)

-- a log that isn't stopped has these payloads, and a crash now leaves them
abbrev pub Has : {D : Type 0} → (D → List Media) → LogView D → List (List ℕ) → Type 0
Has moments log ps = IsAt (told moments log) log.stop (moments log.disk) ps

-- the length of the payload of this number
abbrev pub size_of : {D : Type 0} → LogView D → ℕ → ℕ
size_of log number = size_at log.places log.end number

-- there is room for the append of a payload of this length
abbrev pub IsPrepared : {D : Type 0} → LogView D → ℕ → Type 0
IsPrepared log len = (len + 5 ≤ log.room) × (length log.places + 1 ≤ log.slots)

-- of every log
pub record IsLog (moments : List Media) (places : List ℕ) (end limit : ℕ) (stop : Option ℕ) : Type 0 where
  pub journal : stop ≡ None → Now moments (IsJournal places end)
  pub held : Now moments (IsHeld places end)
  pub spaced : AreSpaced places end
  pub fits : end < 2 ^ 63
  pub limited : limit < 2 ^ 63

-- an open gate and a frame for each payload
abbrev pub joined : List (List ℕ) → List ℕ
joined [] = []
joined (q ∷ qs) = 1 ∷ framed q ++ joined qs

-- how many bytes they take
abbrev pub spread : List (List ℕ) → ℕ
spread [] = 0
spread (q ∷ qs) = 5 + length q + spread qs

-- the length of the file with these payloads behind the end, up to the last value of its type
abbrev pub need_of : ℕ → List (List ℕ) → ℕ
need_of end qs = min (end + 1 + spread qs) (2 ^ 64 - 1)

-- a disk's count of faults never falls, and a disk fault carries it and comes only where it rose
pub record IsCounted {T : Type 0} (before now : ℕ) (result : Result T LogFault) : Type 0 where
  pub later : before ≤ now
  pub failed : (n : ℕ) → IsErrOf result (DiskFault n) → (n ≡ now) × Rose before now

-- the disk is at rest: all of its bytes are synced
abbrev pub IsAtRest : Media → Type 0
IsAtRest m = m ≡ settled m.bytes

-- the file reads as the disk does at the last of these moments
abbrev pub ReadsLike : List Media → List ℕ → Type 0
ReadsLike moments image = Now moments (λ m. payloads image ≡ payloads m.bytes)

-- what a refused reopening says of the file
abbrev pub Refuses : LogFault → Reading → Type 0
Refuses NotAJournal reading = reading ≡ not_a_journal
Refuses (Damaged number) reading = reading ≡ damaged number
Refuses (Full end need) reading = ⊥
Refuses (DiskFault faults) reading = Unit {0}
Refuses (Stopped faults) reading = ⊥
Refuses Memory reading = Unit {0}

-- where the file is refused for what it holds, it reads as before
abbrev pub Keeps : LogFault → List Media → List Media → Type 0
Keeps NotAJournal old new = bytes_now new ≡ bytes_now old
Keeps (Damaged number) old new = bytes_now new ≡ bytes_now old
Keeps (Full end need) old new = Unit {0}
Keeps (DiskFault faults) old new = Unit {0}
Keeps (Stopped faults) old new = Unit {0}
Keeps Memory old new = Unit {0}
