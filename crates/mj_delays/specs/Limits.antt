-- What holds of every list of delays that a schedule has.
use Rattle.std.specs.Prelude.{◌≡◌, ℕ, ◌≤◌, Bool, true, nat_le, List, length}
use Rattle.std.specs.List.{list_all}

-- a delay in milliseconds of at most seven days
abbrev pub is_short : ℕ → Bool
is_short delay = nat_le delay 604_800_000

-- 1 to 100 delays, each of at most seven days
pub record IsSchedule (delays : List ℕ) : Type 0 where
  pub some : 1 ≤ length delays
  pub few : length delays ≤ 100
  pub short : list_all is_short delays ≡ true
