-- The numbers of a moment's text.
use Rattle.std.specs.Prelude.{◌<◌}
use Rattle.mj_time.specs.declared.moments.Fields.{Fields}

-- a year of four digits, and two digits for each other number
pub record HasFewDigits (f : Fields) : Type 0 where
  pub year : f.year < 10_000
  pub month : f.month < 100
  pub day : f.day < 100
  pub hour : f.hour < 100
  pub minute : f.minute < 100
  pub second : f.second < 100
