-- Conditions: a name, and maybe an argument. Some names take none, and the others want one.
use Rattle.std.specs.Prelude.{ℕ, if◌then◌else◌, List, [], ◌∷◌, codes, Option, Some, None, Result, Ok, Err}
use Rattle.std.specs.Str.{bytes_eq}
use Rattle.mj_plan.specs.declared.condition.Condition.{Condition}
use Rattle.mj_plan.specs.declared.condition.Condition.TheVariants.{All, RecipientIs, RecipientIsLocal, HostIs, HostIsLocal, UserIs, SenderIs, SenderHostIs, SenderIsNull, SizeGreaterThan, SubjectIs, SubjectStartsWith, HasMailAttribute, RelayLimit, IsSingleRecipient, TooManyRecipients, IsRemoteDeliveryPermanentError, IsRemoteDeliveryTemporaryError, RemoteDeliveryFailedWithSMTPCode, Fail}
use Rattle.mj_terms.specs.Text.{before, behind_byte, trimmed}
use Rattle.mj_plan.specs.Forms.{is_attribute_name, is_reply_code}
use Rattle.mj_config_walk.specs.declared.names.Argued.{Argued}
use Rattle.mj_config_walk.specs.declared.names.Argued.TheVariants as argued
use Rattle.mj_config_walk.specs.declared.names.Name.{Name}
use Rattle.mj_config_walk.specs.declared.names.Name.TheVariants as name
use Rattle.mj_config_walk.specs.declared.names.Plain.{Plain}
use Rattle.mj_config_walk.specs.declared.names.Plain.TheVariants as plain
use Rattle.mj_config_walk.specs.declared.fault.PlanKind.{PlanKind}
use Rattle.mj_config_walk.specs.declared.fault.PlanKind.TheVariants.{UnknownMatcher}
use Rattle.mj_config_walk.specs.Arguments.{attribute_value, bare, comparison, count, given, header, listed, size, whole_text, words}
use Rattle.mj_terms.specs.Answers.{◌>>=◌}
use Rattle.mj_config_walk.specs.Values.{address, domain, formed, is_filled}

-- one row a name
abbrev pub name_rows : List (List ℕ × Name)
name_rows =
    (codes "All", name.Plain plain.All) ∷
    (codes "RecipientIs", name.Argued argued.RecipientIs) ∷
    (codes "RecipientIsLocal", name.Plain plain.RecipientIsLocal) ∷
    (codes "HostIs", name.Argued argued.HostIs) ∷
    (codes "HostIsLocal", name.Plain plain.HostIsLocal) ∷
    (codes "UserIs", name.Argued argued.UserIs) ∷
    (codes "SenderIs", name.Argued argued.SenderIs) ∷
    (codes "SenderHostIs", name.Argued argued.SenderHostIs) ∷
    (codes "SenderIsNull", name.Plain plain.SenderIsNull) ∷
    (codes "SizeGreaterThan", name.Argued argued.SizeGreaterThan) ∷
    (codes "SubjectIs", name.Argued argued.SubjectIs) ∷
    (codes "SubjectStartsWith", name.Argued argued.SubjectStartsWith) ∷
    (codes "HasHeader", name.Argued argued.HasHeader) ∷
    (codes "HasMailAttribute", name.Argued argued.HasMailAttribute) ∷
    (codes "HasMailAttributeWithValue", name.Argued argued.HasMailAttributeWithValue) ∷
    (codes "RelayLimit", name.Argued argued.RelayLimit) ∷
    (codes "IsSingleRecipient", name.Plain plain.IsSingleRecipient) ∷
    (codes "TooManyRecipients", name.Argued argued.TooManyRecipients) ∷
    (codes "CompareNumericHeaderValue", name.Argued argued.CompareNumericHeaderValue) ∷
    (codes "IsRemoteDeliveryPermanentError", name.Plain plain.IsRemoteDeliveryPermanentError) ∷
    (codes "IsRemoteDeliveryTemporaryError", name.Plain plain.IsRemoteDeliveryTemporaryError) ∷
    (codes "RemoteDeliveryFailedWithSMTPCode", name.Argued argued.RemoteDeliveryFailedWithSMTPCode) ∷
    (codes "Fail", name.Plain plain.Fail) ∷
    []

-- the name that stands first in the rows, of those with this text
abbrev pub name_in : List (List ℕ × Name) → List ℕ → Option Name
name_in [] s = None
name_in (row ∷ rows) s = if bytes_eq s row.0 then Some row.1 else name_in rows s

-- the condition of a name that takes no argument
abbrev pub plain_condition : Plain → Condition
plain_condition plain.All = All
plain_condition plain.RecipientIsLocal = RecipientIsLocal
plain_condition plain.HostIsLocal = HostIsLocal
plain_condition plain.SenderIsNull = SenderIsNull
plain_condition plain.IsSingleRecipient = IsSingleRecipient
plain_condition plain.IsRemoteDeliveryPermanentError = IsRemoteDeliveryPermanentError
plain_condition plain.IsRemoteDeliveryTemporaryError = IsRemoteDeliveryTemporaryError
plain_condition plain.Fail = Fail

-- the condition of a name that wants an argument, and of that argument
abbrev pub made : {X : Type 0} → (X → Condition) → (List ℕ → Result X PlanKind) → List ℕ → Result Condition PlanKind
made condition form s = do
  x ← form s
  Ok (condition x)

abbrev pub argued_condition : Argued → List ℕ → Result Condition PlanKind
argued_condition argued.RecipientIs s = made RecipientIs (listed address) s
argued_condition argued.HostIs s = made HostIs (listed domain) s
argued_condition argued.UserIs s = made UserIs (listed (formed is_filled)) s
argued_condition argued.SenderIs s = made SenderIs (listed address) s
argued_condition argued.SenderHostIs s = made SenderHostIs (listed domain) s
argued_condition argued.SizeGreaterThan s = made SizeGreaterThan size s
argued_condition argued.SubjectIs s = made SubjectIs whole_text s
argued_condition argued.SubjectStartsWith s = made SubjectStartsWith whole_text s
argued_condition argued.HasHeader s = made (λ c. c) header s
argued_condition argued.HasMailAttribute s = made HasMailAttribute (formed is_attribute_name) s
argued_condition argued.HasMailAttributeWithValue s = made (λ c. c) attribute_value s
argued_condition argued.RelayLimit s = made RelayLimit count s
argued_condition argued.TooManyRecipients s = made TooManyRecipients count s
argued_condition argued.CompareNumericHeaderValue s = made (λ c. c) (λ t. comparison (words t)) s
argued_condition argued.RemoteDeliveryFailedWithSMTPCode s = made RemoteDeliveryFailedWithSMTPCode (formed is_reply_code) s

abbrev pub named : Name → Option (List ℕ) → Result Condition PlanKind
named (name.Plain plain) argument = bare (plain_condition plain) argument
named (name.Argued argued) argument = do
  s ← given argument
  argued_condition argued s

-- the condition of a name, where it is known
abbrev pub known : Option (List ℕ) → Option Name → Result Condition PlanKind
known argument None = Err UnknownMatcher
known argument (Some name) = named name argument

abbrev pub condition_named : List ℕ → Option (List ℕ) → Result Condition PlanKind
condition_named s argument = known argument (name_in name_rows s)

-- a matcher's text is a name, or a name, `=` and an argument without the blanks round it
abbrev pub trimmed_argument : Option (List ℕ) → Option (List ℕ)
trimmed_argument None = None
trimmed_argument (Some argument) = Some (trimmed argument)

abbrev pub condition : List ℕ → Result Condition PlanKind
condition s = condition_named (before 61 s) (trimmed_argument (behind_byte 61 s))
