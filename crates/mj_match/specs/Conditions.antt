-- Words on single conditions.
use Rattle.std.specs.Prelude.{ℕ, Bool, true, false, List, Option, Some, None, if◌then◌else◌}
use Rattle.std.specs.Str.Parse.{digits_value}
use Rattle.mj_plan.specs.declared.condition.Condition.{Condition}
use Rattle.mj_plan.specs.declared.condition.Condition.TheVariants.{RecipientIs, RecipientIsLocal, HostIs, HostIsLocal, UserIs}
use Rattle.mj_container.specs.Matching.{is_long_numeral}

-- the condition looks at the recipient
abbrev pub is_of_recipient : Condition → Bool
is_of_recipient (RecipientIs addresses) = true
is_of_recipient RecipientIsLocal = true
is_of_recipient (HostIs hosts) = true
is_of_recipient HostIsLocal = true
is_of_recipient (UserIs users) = true
is_of_recipient other = false

-- the number that a text of 1 to 18 digits spells
abbrev pub long_number : List ℕ → Option ℕ
long_number text = if is_long_numeral text then Some (digits_value 10 text) else None
