-- Where the payloads of a journal stand: each by the place of its gate, and the end by the closing gate.
use Rattle.std.specs.Prelude.{◌≡◌, ℕ, ◌+◌, ◌-◌, ◌<◌, ◌≤◌, List, [], ◌∷◌, ◌++◌, length, take, drop, get_or}
use Rattle.mj_disk.specs.Media.{Media, settled}
use Rattle.mj_log.specs.Journal.{Reading, reads, damaged, not_a_journal, payloads}
use Rattle.mj_log.specs.FrameLaws.{Leads}

-- the length of the payload of this number: its gate and its length take five bytes
abbrev pub size_at : List ℕ → ℕ → ℕ → ℕ
size_at places end number = get_or places (number + 1) end - (get_or places number end + 5)

-- the bytes of that payload
abbrev pub bytes_at : List ℕ → ℕ → ℕ → List ℕ → List ℕ
bytes_at places end number bytes = take (size_at places end number) (drop (get_or places number end + 5) bytes)

-- the gates of these payloads, of which the first stands at this place
abbrev pub gates_of : ℕ → List (List ℕ) → List ℕ
gates_of at [] = []
gates_of at (q ∷ qs) = at ∷ gates_of (at + (5 + length q)) qs

-- each gate is behind the frame of the one before it, and none is past the end
pub record AreSpaced (places : List ℕ) (end : ℕ) : Type 0 where
  pub rise : (k : ℕ) → k < length places → get_or places k end + 5 ≤ get_or places (k + 1) end
  pub below : (k : ℕ) → k ≤ length places → get_or places k end ≤ end

-- a journal begins with the front, up to the end, and has these payloads at these places
pub record ArePlaced (places : List ℕ) (end : ℕ) (payloads_are : List (List ℕ)) (front : List ℕ) : Type 0 where
  pub leads : Leads payloads_are front
  pub size : length front ≡ end
  pub number : length places ≡ length payloads_are
  pub spaced : AreSpaced places end
  pub each : (k : ℕ) → k < length places → bytes_at places end k front ≡ get_or payloads_are k []

-- the payloads of a file that reads as some
abbrev pub listed : Reading → List (List ℕ)
listed (reads ps) = ps
listed (damaged n) = []
listed not_a_journal = []

-- the disk is at rest with payloads at these places and a closed gate at the end
pub record IsJournal (places : List ℕ) (end : ℕ) (m : Media) : Type 0 where
  pub front : List ℕ
  pub payloads_are : List (List ℕ)
  pub placed : ArePlaced places end payloads_are front
  pub rests : m ≡ settled (front ++ 0 ∷ [])

-- the disk reads with payloads at these places, whatever stands behind the end
pub record IsHeld (places : List ℕ) (end : ℕ) (m : Media) : Type 0 where
  pub front : List ℕ
  pub junk : List ℕ
  pub payloads_are : List (List ℕ)
  pub placed : ArePlaced places end payloads_are front
  pub whole : m.bytes ≡ front ++ junk
  pub told : take (length places) (listed (payloads m.bytes)) ≡ payloads_are

-- the file has payloads at these places and a closed gate at the end
pub record IsWalked (places : List ℕ) (end : ℕ) (bytes : List ℕ) : Type 0 where
  pub front : List ℕ
  pub junk : List ℕ
  pub payloads_are : List (List ℕ)
  pub placed : ArePlaced places end payloads_are front
  pub whole : bytes ≡ front ++ 0 ∷ junk
