-- What the values of a configuration say. Each is read to what it says, or to its first fault.
use Rattle.std.specs.Prelude.{ℕ, ◌+◌, nat_le, nat_lt, unsigned_abs, Bool, true, false, not, ◌&&◌, ◌||◌, if◌then◌else◌, List, [], ◌∷◌, length, codes, Option, Some, None, Result, Ok, Err}
use Rattle.std.specs.Int.{is_negative}
use Rattle.std.specs.List.{list_any}
use Rattle.std.specs.Str.{bytes_eq}
use Rattle.toml.specs.Data.{Data, string, integer, boolean, array, table, Items, no_items, item, Members, get_member}
use Rattle.mj_terms.specs.Answers as answers
use Rattle.mj_terms.specs.Answers.{◌>>=◌}
use Rattle.mj_address.specs.declared.fault.AddressFault.{AddressFault}
use Rattle.mj_address.specs.Reading.{address_of, domain_of, local_of}
use Rattle.mj_time.specs.declared.moments.MomentFault.{MomentFault}
use Rattle.mj_delays.specs.Digits.{numeral_of}
use Rattle.mj_time.specs.Moment.{moment_of}
use Rattle.mj_config_walk.specs.declared.fault.PlanKind.{PlanKind}
use Rattle.mj_config_walk.specs.declared.fault.PlanKind.TheVariants.{Missing, WrongType, BadAddress, BadMoment, BadArgument, UnknownProcessor}
use Rattle.mj_config_walk.specs.declared.fault.Refusal.{Refusal}
use Rattle.mj_config_walk.specs.declared.fault.Refusal.TheVariants.{Kind, Memory}

-- the value, where it is as it should be
abbrev pub checked : {X : Type 0} → Bool → PlanKind → X → Result X PlanKind
checked good kind x = if good then Ok x else Err kind

-- the value, where there is one
abbrev pub some_or : {X : Type 0} → PlanKind → Option X → Result X PlanKind
some_or kind None = Err kind
some_or kind (Some x) = Ok x

-- a fault but want of memory
abbrev pub told : Refusal → Option PlanKind
told (Kind kind) = Some kind
told Memory = None

-- what a call answered, seen so, is what was said, unless memory ran out
abbrev pub GivesBy : {X Y : Type 0} → (X → Y) → Result X Refusal → Result Y PlanKind → Type 0
GivesBy seen answer said = answers.GivesBy told seen answer said

abbrev pub Gives : {X : Type 0} → Result X Refusal → Result X PlanKind → Type 0
Gives answer said = GivesBy (λ x. x) answer said

-- ---- Keys of a table

abbrev pub required : List ℕ → Members → Result Data PlanKind
required key members = some_or Missing (get_member key members)

-- what a value says, or the default where there is none
abbrev pub optional : {X : Type 0} → X → (Data → Result X PlanKind) → Option Data → Result X PlanKind
optional default form None = Ok default
optional default form (Some value) = form value

-- what a value says, if there is one
abbrev pub maybe : {X : Type 0} → (Data → Result X PlanKind) → Option Data → Result (Option X) PlanKind
maybe form None = Ok None
maybe form (Some value) = do
  x ← form value
  Ok (Some x)

-- ---- Types

abbrev pub text : Data → Result (List ℕ) PlanKind
text (string s) = Ok s
text other = Err WrongType

-- a number is an integer from 0 to 999,999,999, or a text of 1 to 9 decimal digits
abbrev pub whole : Data → Result ℕ PlanKind
whole (integer z) = checked (not (is_negative z) && nat_lt (unsigned_abs z) 1_000_000_000) BadArgument (unsigned_abs z)
whole (string s) = some_or BadArgument (numeral_of s)
whole other = Err WrongType

-- and it stands between these two
abbrev pub number : ℕ → ℕ → Data → Result ℕ PlanKind
number least most value = do
  n ← whole value
  checked (nat_le least n && nat_le n most) BadArgument n

-- a truth value is a boolean, or the text `true` or `false`
abbrev pub truth : Data → Result Bool PlanKind
truth (boolean b) = Ok b
truth (string s) = if bytes_eq s (codes "true") then Ok true else (if bytes_eq s (codes "false") then Ok false else Err BadArgument)
truth other = Err WrongType

-- an array of texts
abbrev pub is_text : Data → Bool
is_text (string s) = true
is_text other = false

abbrev pub are_texts : Items → Bool
are_texts no_items = true
are_texts (item value items) = is_text value && are_texts items

abbrev pub texts : Data → Result Items PlanKind
texts (array items) = checked (are_texts items) WrongType items
texts other = Err WrongType

-- how many items there are
abbrev pub items_len : Items → ℕ
items_len no_items = 0
items_len (item value items) = items_len items + 1

-- an array of tables
abbrev pub tables_in : Items → Result (List Members) PlanKind
tables_in no_items = Ok []
tables_in (item (table members) items) = do
  rest ← tables_in items
  Ok (members ∷ rest)
tables_in (item other items) = Err WrongType

abbrev pub tables : Data → Result (List Members) PlanKind
tables (array items) = tables_in items
tables other = Err WrongType

-- ---- Forms of texts

abbrev pub in_address : {X : Type 0} → Result X AddressFault → Result X PlanKind
in_address (Ok x) = Ok x
in_address (Err fault) = Err BadAddress

abbrev pub address : List ℕ → Result (List ℕ × List ℕ) PlanKind
address s = in_address (address_of s)

abbrev pub domain : List ℕ → Result (List ℕ) PlanKind
domain s = in_address (domain_of s)

abbrev pub domain_value : Data → Result (List ℕ) PlanKind
domain_value value = do
  s ← text value
  domain s

abbrev pub local_part : List ℕ → Result (List ℕ) PlanKind
local_part s = in_address (local_of s)

abbrev pub in_moment : Result ℕ MomentFault → Result ℕ PlanKind
in_moment (Ok moment) = Ok moment
in_moment (Err fault) = Err BadMoment

abbrev pub moment : List ℕ → Result ℕ PlanKind
moment s = in_moment (moment_of s)

-- a text with this form
abbrev pub formed : (List ℕ → Bool) → List ℕ → Result (List ℕ) PlanKind
formed form s = checked (form s) BadArgument s

-- a name of a processor that is there, or `ghost`
abbrev pub target : List (List ℕ) → List ℕ → Result (List ℕ) PlanKind
target names s = checked (bytes_eq s (codes "ghost") || list_any (bytes_eq s) names) UnknownProcessor s

-- each text of an array in order
abbrev pub each_text : {X : Type 0} → (List ℕ → Result X PlanKind) → Items → Result (List X) PlanKind
each_text form no_items = Ok []
each_text form (item value items) = do
  s ← text value
  x ← form s
  xs ← each_text form items
  Ok (x ∷ xs)

-- each of some texts, tables or whatever else, in order
abbrev pub each : {A X : Type 0} → (A → Result X PlanKind) → List A → Result (List X) PlanKind
each form [] = Ok []
each form (a ∷ rest) = do
  x ← form a
  xs ← each form rest
  Ok (x ∷ xs)

abbrev pub is_filled : List ℕ → Bool
is_filled s = nat_le 1 (length s)

-- one to 100 items
abbrev pub few : {X : Type 0} → List X → Result (List X) PlanKind
few xs = checked (nat_le 1 (length xs) && nat_le (length xs) 100) BadArgument xs
