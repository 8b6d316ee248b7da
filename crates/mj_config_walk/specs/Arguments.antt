-- Conditions: a name, and maybe an argument. Here are the arguments.
use Rattle.std.specs.Prelude.{ℕ, ◌-◌, ◌*◌, nat_le, ◌==◌, ◌&&◌, Bool, if◌then◌else◌, List, [], ◌∷◌, length, take, map, filter, slice_index, codes, Option, Some, None, Result, Ok, Err}
use Rattle.std.specs.Char.{is_ascii_digit}
use Rattle.std.specs.List.{list_all, slice_split}
use Rattle.std.specs.Str.{bytes_eq}
use Rattle.std.specs.Str.Parse.{digits_value}
use Rattle.mj_terms.specs.Text.{before, behind_byte, trimmed}
use Rattle.mj_head.specs.Head.{is_field_name}
use Rattle.mj_plan.specs.declared.condition.Condition.{Condition}
use Rattle.mj_plan.specs.declared.condition.Condition.TheVariants.{HasHeader, HasMailAttributeWithValue, CompareNumericHeaderValue}
use Rattle.mj_plan.specs.declared.condition.Relation.{Relation}
use Rattle.mj_plan.specs.declared.condition.Relation.TheVariants.{Less, AtMost, Equal, AtLeast, Greater}
use Rattle.mj_plan.specs.Forms.{is_attribute_name, is_attribute_value}
use Rattle.mj_config_walk.specs.declared.fault.PlanKind.{PlanKind}
use Rattle.mj_config_walk.specs.declared.fault.PlanKind.TheVariants.{BadArgument}
use Rattle.mj_terms.specs.Answers.{◌>>=◌}
use Rattle.mj_config_walk.specs.Values.{checked, some_or, formed, each, few, is_filled}

-- ---- Parts of texts

-- the items between commas, without the blanks round them
abbrev pub is_comma : ℕ → Bool
is_comma b = b == 44

abbrev pub items : List ℕ → List (List ℕ)
items s = map trimmed (slice_split is_comma s)

-- the words between spaces
abbrev pub is_space : ℕ → Bool
is_space b = b == 32

abbrev pub words : List ℕ → List (List ℕ)
words s = filter is_filled (slice_split is_space s)

-- ---- Arguments

-- no argument is wanted
abbrev pub bare : Condition → Option (List ℕ) → Result Condition PlanKind
bare condition None = Ok condition
bare condition (Some argument) = Err BadArgument

-- an argument is wanted, and isn't empty
abbrev pub given : Option (List ℕ) → Result (List ℕ) PlanKind
given None = Err BadArgument
given (Some argument) = formed is_filled argument

-- a list of one to 100 items of this form
abbrev pub listed : {X : Type 0} → (List ℕ → Result X PlanKind) → List ℕ → Result (List X) PlanKind
listed form argument = do
  xs ← each form (items argument)
  few xs

-- the number that 1 to so many decimal digits spell
abbrev pub digits : ℕ → List ℕ → Option ℕ
digits most s = if (nat_le 1 (length s) && nat_le (length s) most) && list_all is_ascii_digit s then Some (digits_value 10 s) else None

-- a number of bytes: 1 to 9 digits, and maybe `k` for 1,024 or `m` for 1,048,576
abbrev pub unit : ℕ → ℕ
unit b = if b == 107 then 1_024 else (if b == 109 then 1_048_576 else 1)

abbrev pub last : List ℕ → ℕ
last s = slice_index s (length s - 1)

abbrev pub without_unit : List ℕ → List ℕ
without_unit s = if unit (last s) == 1 then s else take (length s - 1) s

abbrev pub size : List ℕ → Result ℕ PlanKind
size s = do
  n ← some_or BadArgument (digits 9 (without_unit s))
  Ok (n * unit (last s))

-- a count from 1 to 9,999
abbrev pub count : List ℕ → Result ℕ PlanKind
count s = do
  n ← some_or BadArgument (digits 9 s)
  checked (nat_le 1 n && nat_le n 9_999) BadArgument n

-- a field, and maybe the value behind `=`
abbrev pub header : List ℕ → Result Condition PlanKind
header s = do
  field ← formed is_field_name (before 61 s)
  Ok (HasHeader field (behind_byte 61 s))

-- an attribute and its value with a comma between them
abbrev pub attribute_value : List ℕ → Result Condition PlanKind
attribute_value s = do
  value ← some_or BadArgument (behind_byte 44 s)
  name ← formed is_attribute_name (trimmed (before 44 s))
  value ← formed is_attribute_value (trimmed value)
  Ok (HasMailAttributeWithValue name value)

abbrev pub relation : List ℕ → Option Relation
relation s =
    if bytes_eq s (codes "<") then Some Less
    else (if bytes_eq s (codes "<=") then Some AtMost
    else (if bytes_eq s (codes "=") then Some Equal
    else (if bytes_eq s (codes "==") then Some Equal
    else (if bytes_eq s (codes ">=") then Some AtLeast
    else (if bytes_eq s (codes ">") then Some Greater else None)))))

-- a field, a relation and a number of 1 to 18 digits, with spaces between them
abbrev pub comparison : List (List ℕ) → Result Condition PlanKind
comparison (field ∷ sign ∷ number ∷ []) = do
  field ← formed is_field_name field
  relation ← some_or BadArgument (relation sign)
  number ← some_or BadArgument (digits 18 number)
  Ok (CompareNumericHeaderValue field relation number)
comparison words = Err BadArgument

-- a text, whatever it is
abbrev pub whole_text : List ℕ → Result (List ℕ) PlanKind
whole_text s = Ok s
