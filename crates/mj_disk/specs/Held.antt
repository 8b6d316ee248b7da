-- What a disk in memory holds: its past, the numbers of the calls that are to fail, how many calls still go on
-- where it is to stop, and two counts.
use Rattle.std.specs.Prelude.{ℕ, suc, zero, ◌-◌, Bool, true, false, ◌||◌, List, Option, Some, None, option_map}
use Rattle.mj_fields.specs.Calls.{next, is_named}
use Rattle.mj_disk.specs.Past.{Past}

pub record HeldDisk : Type 0 where
  pub past : Past
  pub failing : List ℕ
  pub left : Option ℕ
  pub calls : ℕ
  pub faults : ℕ

-- no call goes on any more
abbrev pub has_stopped : Option ℕ → Bool
has_stopped None = false
has_stopped (Some zero) = true
has_stopped (Some (suc n)) = false

-- the next call is to fail
abbrev pub fails_next : HeldDisk → Bool
fails_next h = has_stopped h.left || is_named h.failing h.calls

-- after a call that went on, and left this past
abbrev pub went_on : HeldDisk → Past → HeldDisk
went_on h past = record { past = past; failing = h.failing; left = option_map (λ n. n - 1) h.left; calls = next h.calls; faults = h.faults }

-- after a call that failed
abbrev pub failed_once : HeldDisk → HeldDisk
failed_once h = record { past = h.past; failing = h.failing; left = option_map (λ n. n - 1) h.left; calls = next h.calls; faults = next h.faults }
