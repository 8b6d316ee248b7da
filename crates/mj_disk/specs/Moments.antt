-- The moments of a disk so far, the newest first; none where the disk tells nothing. A moment is named by the
-- moments up to it.
use Rattle.std.specs.Prelude.{◌≡◌, ◌⊎◌, ℕ, ◌+◌, ◌-◌, length, take, List, [], ◌∷◌, ◌++◌, Option, Some, None, Result, OnOk, OnErr}
use Rattle.mj_disk.specs.Media.{Media, IsImage, settled}

-- P of the disk as it is now, where it tells
abbrev pub Now : List Media → (Media → Type 0) → Type 0
Now [] P = Unit {0}
Now (m ∷ past) P = P m

-- what a read gives, where the disk tells
abbrev pub bytes_now : List Media → Option (List ℕ)
bytes_now [] = None
bytes_now (m ∷ past) = Some m.bytes

-- each image has P
abbrev pub Images : (List ℕ → Type 0) → Media → Type 0
Images P m = (image : List ℕ) → IsImage m image → P image

-- a crash now leaves what has P
abbrev pub LeavesNow : List Media → (List ℕ → Type 0) → Type 0
LeavesNow moments P = Now moments (Images P)

-- each image at each of these moments has P
abbrev pub AllImages : (List ℕ → Type 0) → List Media → Type 0
AllImages P [] = Unit {0}
AllImages P (m ∷ ms) = Images P m × AllImages P ms

-- From the moment old until the moment new, both included, a crash leaves what has P.
pub record LeavesOnly (old new : List Media) (P : List ℕ → Type 0) : Type 0 where
  pub passed : List Media
  pub goes_on : new ≡ passed ++ old
  pub tells : old ≡ [] → new ≡ []
  pub first : LeavesNow old P
  pub each : AllImages P passed

-- What a call that changes the disk leaves: done where it is Ok; where it failed, a crash since leaves what it
-- might leave after the whole work (which is at least what it might leave before).
abbrev pub Changes : {T E : Type 0} → (Media → Media) → (Media → Media) → List Media → List Media → Result T E → Type 0
Changes done at_most [] new result = new ≡ []
Changes done at_most (m ∷ past) new result =
    OnOk result (new ≡ done m ∷ m ∷ past) × OnErr result (LeavesOnly (m ∷ past) new (IsImage (at_most m)))

-- an image of one of these moments
abbrev pub AnyImage : List Media → List ℕ → Type 0
AnyImage [] image = ⊥
AnyImage (m ∷ ms) image = IsImage m image ⊎ AnyImage ms image

-- what a crash at a moment from since on, since itself included, might have left
abbrev pub LeftSince : List Media → List Media → List ℕ → Type 0
LeftSince since now image = AnyImage (take (length now - length since + 1) now) image

-- the disk is at rest with these bytes, where it tells
abbrev pub RestsAt : List Media → List ℕ → Type 0
RestsAt moments bytes = Now moments (λ m. m ≡ settled bytes)
