-- A disk at one moment, and what a crash at that moment may leave.
use Rattle.std.specs.Prelude.{◌≡◌, ◌⊎◌, ℕ, ◌+◌, ◌<◌, ◌≤◌, min, max, List, [], ◌∷◌, ◌++◌, length, take, drop, get_or}

-- what a read gives, the least and the greatest length since the last sync, and the ranges that were written
-- since, in order (the place and the number of bytes)
pub record Media : Type 0 where
  pub bytes : List ℕ
  pub least : ℕ
  pub greatest : ℕ
  pub touched : List (ℕ × ℕ)

-- the place lies in none of the ranges
abbrev pub IsOutside : List (ℕ × ℕ) → ℕ → Type 0
IsOutside [] place = Unit {0}
IsOutside (range ∷ ranges) place = ((place < range.0) ⊎ (range.0 + range.1 ≤ place)) × IsOutside ranges place

-- A crash may leave this: any length between the least and the greatest, and the bytes that were on the disk
-- throughout and weren't written since the last sync as they are.
pub record IsImage (media : Media) (image : List ℕ) : Type 0 where
  pub no_shorter : media.least ≤ length image
  pub no_longer : length image ≤ media.greatest
  pub same : (place : ℕ) → place < media.least → IsOutside media.touched place → get_or image place 0 ≡ get_or media.bytes place 0

-- these bytes at this place, over what stood there and past the end
abbrev pub overwritten : ℕ → List ℕ → List ℕ → List ℕ
overwritten at piece bytes = take at bytes ++ piece ++ drop (at + length piece) bytes

-- after a write
abbrev pub written : ℕ → List ℕ → Media → Media
written at piece m = record {
  bytes = overwritten at piece m.bytes;
  least = m.least;
  greatest = max m.greatest (at + length piece);
  touched = m.touched ++ (at, length piece) ∷ [];
}

-- after a cut to a length
abbrev pub shortened : ℕ → Media → Media
shortened len m = record { bytes = take len m.bytes; least = min m.least len; greatest = m.greatest; touched = m.touched }

-- after a sync: a crash leaves what a read gives
abbrev pub synced : Media → Media
synced m = record { bytes = m.bytes; least = length m.bytes; greatest = length m.bytes; touched = [] }

-- at rest: all of these bytes are synced
abbrev pub settled : List ℕ → Media
settled bytes = record { bytes = bytes; least = length bytes; greatest = length bytes; touched = [] }
