-- What a log says of its disk.
use Rattle.std.specs.Prelude.{◌≡◌, ◌⊎◌, ℕ, List, [], ◌∷◌, ◌++◌, map, Option, Some, None, Vec}
use Rattle.std.specs.declared.alloc.Global.{Global}
use Rattle.mj_disk.specs.Media.{Media, IsImage}
use Rattle.mj_disk.specs.Moments.{LeavesNow}
use Rattle.mj_log.specs.Journal.{payloads, reads}

-- the bytes read as these payloads
abbrev pub ReadsAs : List (List ℕ) → List ℕ → Type 0
ReadsAs ps bytes = payloads bytes ≡ reads ps

-- as these, with those that are added or without
abbrev pub WithOrWithout : List (List ℕ) → List (List ℕ) → List ℕ → Type 0
WithOrWithout ps more bytes = ReadsAs ps bytes ⊎ ReadsAs (ps ++ more) bytes

-- the bytes read as an image of the last of these moments does
abbrev pub ReadsAsAt : List Media → List ℕ → Type 0
ReadsAsAt [] bytes = Unit {0}
ReadsAsAt (m ∷ past) bytes = (image : List ℕ) × IsImage m image × (payloads bytes ≡ payloads image)

-- the payloads of a slice
abbrev pub texts : List (Vec ℕ Global) → List (List ℕ)
texts vs = map (λ v. v.items) vs

-- the log has these payloads, a crash now leaves them, and no append has stopped it
pub record IsAt (told : Option (List (List ℕ))) (stop : Option ℕ) (moments : List Media) (ps : List (List ℕ)) : Type 0 where
  pub has : told ≡ Some ps
  pub open_yet : stop ≡ None
  pub durable : LeavesNow moments (ReadsAs ps)
