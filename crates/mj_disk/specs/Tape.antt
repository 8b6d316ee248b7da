-- How a disk in memory keeps its last moment.
use Rattle.std.specs.Prelude.{◌≡◌, ℕ, ◌<◌, ◌≤◌, List, [], ◌∷◌, length, drop, get_or}
use Rattle.mj_disk.specs.declared.tape.DiskCall.{DiskCall}
use Rattle.mj_disk.specs.declared.tape.DiskCall.TheVariants.{Write, Cut, Sync}
use Rattle.mj_disk.specs.Media.{IsOutside}
use Rattle.mj_disk.specs.Moments.{Now}
use Rattle.mj_disk.specs.Past.{moments_of}

-- the ranges that these calls wrote
abbrev pub ranges : List DiskCall → List (ℕ × ℕ)
ranges [] = []
ranges (Write at bytes ∷ calls) = (at, length bytes) ∷ ranges calls
ranges (Cut size ∷ calls) = ranges calls
ranges (Sync ∷ calls) = ranges calls

-- what is kept is the last moment of the past
pub record IsTaped (first : List ℕ) (calls : List DiskCall) (bytes : List ℕ) (synced least greatest : ℕ) : Type 0 where
  pub last : Now (moments_of (record { first = first; calls = calls })) (λ m. m ≡ record { bytes = bytes; least = least; greatest = greatest; touched = ranges (drop synced calls) })
  pub made : synced ≤ length calls

-- each place below the least length that none of the calls wrote has the byte that reads there
abbrev pub IsKept : List DiskCall → List ℕ → ℕ → List ℕ → Type 0
IsKept calls bytes least image = (place : ℕ) → place < least → IsOutside (ranges calls) place → place < length image → get_or image place 0 ≡ get_or bytes place 0
