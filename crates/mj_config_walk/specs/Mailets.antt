-- Mailets: a class with its parameters. Here are the parameters, and what the classes read of them.
use Rattle.std.specs.Prelude.{ℕ, nat_le, Bool, true, false, not, ◌&&◌, List, [], ◌∷◌, length, codes, Option, Result, Ok, Err}
use Rattle.std.specs.List.{list_any}
use Rattle.std.specs.Str.{bytes_eq}
use Rattle.toml.specs.Data.{Data, table, Members, no_members, member, get_member}
use Rattle.mj_terms.specs.Text.{before, behind_byte, trimmed}
use Rattle.mj_head.specs.Head.{is_field_name}
use Rattle.mj_delays.specs.declared.schedules.ScheduleFault.{ScheduleFault}
use Rattle.mj_delays.specs.Schedule.{schedule_of}
use Rattle.mj_plan.specs.declared.mailet.MailetKind.{MailetKind}
use Rattle.mj_plan.specs.declared.mailet.MailetKind.TheVariants.{ToProcessor, SetMailAttribute, RemoveMailAttribute, SetMimeHeader, RemoveMimeHeader, MailAttributesToMimeHeaders, AddSubjectPrefix, Forward, Bounce, NotifyPostmaster, ToRepository, RemoteDelivery, Fail}
use Rattle.mj_plan.specs.declared.mailet.Named.{Named}
use Rattle.mj_plan.specs.Forms.{is_attribute_name, is_attribute_value, is_line, is_processor_name, is_repository}
use Rattle.mj_config_walk.specs.declared.fault.PlanKind.{PlanKind}
use Rattle.mj_config_walk.specs.declared.fault.PlanKind.TheVariants.{WrongType, Twice, BadArgument, TooMany}
use Rattle.mj_terms.specs.Answers.{◌>>=◌}
use Rattle.mj_config_walk.specs.Values.{required, optional, maybe, checked, some_or, text, texts, number, truth, address, domain_value, formed, target, each, each_text, few, is_filled}
use Rattle.mj_config_walk.specs.Arguments.{items}

-- ---- Parameters

-- a text of this form at a key
abbrev pub param : (List ℕ → Bool) → List ℕ → Members → Result (List ℕ) PlanKind
param form key step = do
  value ← required key step
  s ← text value
  formed form s

abbrev pub formed_value : (List ℕ → Bool) → Data → Result (List ℕ) PlanKind
formed_value form value = do
  s ← text value
  formed form s

abbrev pub target_value : List (List ℕ) → Data → Result (List ℕ) PlanKind
target_value names value = do
  s ← text value
  target names s

-- items between commas at a key: a text of nothing but blanks has none
abbrev pub list_text : Data → Result (List (List ℕ)) PlanKind
list_text value = do
  s ← text value
  filled ← formed is_filled (trimmed s)
  Ok (items filled)

abbrev pub names_param : (List ℕ → Bool) → Members → Result (List (List ℕ)) PlanKind
names_param form step = do
  value ← required (codes "name") step
  names ← list_text value
  read ← each (formed form) names
  few read

-- attributes and their values: the members of a table of texts, in the order of their names
abbrev pub named_texts : Members → Result (List Named) PlanKind
named_texts no_members = Ok []
named_texts (member name value rest) = do
  s ← text value
  others ← named_texts rest
  Ok (record { name = name; value = s } ∷ others)

abbrev pub table_of_texts : Data → Result (List Named) PlanKind
table_of_texts (table members) = named_texts members
table_of_texts other = Err WrongType

abbrev pub attribute : Named → Result Named PlanKind
attribute named = checked (is_attribute_name named.name && is_attribute_value named.value) BadArgument named

abbrev pub attributes_param : Members → Result (List Named) PlanKind
attributes_param step = do
  value ← required (codes "attributes") step
  named ← table_of_texts value
  read ← each attribute named
  few read

-- an attribute and a field with a semicolon between them
abbrev pub header_mapping : List ℕ → Result Named PlanKind
header_mapping s = do
  field ← some_or BadArgument (behind_byte 59 s)
  name ← formed is_attribute_name (before 59 s)
  field ← formed is_field_name field
  Ok (record { name = name; value = field })

abbrev pub mapping_param : Members → Result (List Named) PlanKind
mapping_param step = do
  value ← required (codes "simplemapping") step
  pairs ← texts value
  read ← each_text header_mapping pairs
  few read

-- addresses between commas, at most 500
abbrev pub forward_param : Members → Result (List (List ℕ × List ℕ)) PlanKind
forward_param step = do
  value ← required (codes "forwardTo") step
  names ← list_text value
  read ← each address names
  checked (nat_le (length read) 500) TooMany read

abbrev pub pass_through : Bool → Members → Result Bool PlanKind
pass_through default step = optional default truth (get_member (codes "passThrough") step)

-- the name of a remote delivery, which no earlier one has
abbrev pub new_outgoing : List (List ℕ) → List ℕ → Result (List ℕ) PlanKind
new_outgoing taken s = checked (not (list_any (bytes_eq s) taken)) Twice s

abbrev pub outgoing_param : List (List ℕ) → Members → Result (List ℕ) PlanKind
outgoing_param taken step = do
  s ← optional (codes "outgoing") (formed_value is_processor_name) (get_member (codes "outgoing") step)
  new_outgoing taken s

-- the schedule of a delay text, if there is one, and of a number of retries
abbrev pub in_schedule : Result (List ℕ) ScheduleFault → Result (List ℕ) PlanKind
in_schedule (Ok delays) = Ok delays
in_schedule (Err fault) = Err BadArgument

abbrev pub schedule : Option (List ℕ) → ℕ → Result (List ℕ) PlanKind
schedule delays retries = in_schedule (schedule_of delays retries)

abbrev pub schedule_param : Members → Result (List ℕ) PlanKind
schedule_param step = do
  delays ← maybe text (get_member (codes "delayTime") step)
  retries ← optional 5 (number 0 999_999_999) (get_member (codes "maxRetries") step)
  schedule delays retries

-- ---- Classes

abbrev pub to_processor : List (List ℕ) → Members → Result MailetKind PlanKind
to_processor names step = do
  value ← required (codes "processor") step
  processor ← target_value names value
  Ok (ToProcessor processor)

abbrev pub set_mail_attribute : Members → Result MailetKind PlanKind
set_mail_attribute step = do
  attributes ← attributes_param step
  Ok (SetMailAttribute attributes)

abbrev pub remove_mail_attribute : Members → Result MailetKind PlanKind
remove_mail_attribute step = do
  names ← names_param is_attribute_name step
  Ok (RemoveMailAttribute names)

abbrev pub set_mime_header : Members → Result MailetKind PlanKind
set_mime_header step = do
  name ← param is_field_name (codes "name") step
  value ← param is_line (codes "value") step
  Ok (SetMimeHeader name value)

abbrev pub remove_mime_header : Members → Result MailetKind PlanKind
remove_mime_header step = do
  names ← names_param is_field_name step
  Ok (RemoveMimeHeader names)

abbrev pub attributes_to_headers : Members → Result MailetKind PlanKind
attributes_to_headers step = do
  mapping ← mapping_param step
  Ok (MailAttributesToMimeHeaders mapping)

abbrev pub add_subject_prefix : Members → Result MailetKind PlanKind
add_subject_prefix step = do
  prefix ← param is_line (codes "subjectPrefix") step
  Ok (AddSubjectPrefix prefix)

abbrev pub forward : Members → Result MailetKind PlanKind
forward step = do
  to ← forward_param step
  goes_on ← pass_through false step
  Ok (Forward to goes_on)

abbrev pub bounce : Members → Result MailetKind PlanKind
bounce step = do
  message ← optional (codes "Bounced") (formed_value is_line) (get_member (codes "message") step)
  goes_on ← pass_through true step
  Ok (Bounce message goes_on)

abbrev pub notify_postmaster : Members → Result MailetKind PlanKind
notify_postmaster step = do
  goes_on ← pass_through true step
  Ok (NotifyPostmaster goes_on)

abbrev pub to_repository : Members → Result MailetKind PlanKind
to_repository step = do
  path ← param is_repository (codes "repositoryPath") step
  goes_on ← pass_through false step
  Ok (ToRepository path goes_on)

abbrev pub remote_delivery : List (List ℕ) → List (List ℕ) → Members → Result MailetKind PlanKind
remote_delivery names taken step = do
  outgoing ← outgoing_param taken step
  delays ← schedule_param step
  gateway ← maybe domain_value (get_member (codes "gateway") step)
  bounces ← maybe (target_value names) (get_member (codes "bounceProcessor") step)
  Ok (RemoteDelivery outgoing delays gateway bounces)

abbrev pub fail : Members → Result MailetKind PlanKind
fail step = do
  s ← optional (codes "Fail") (formed_value is_line) (get_member (codes "text") step)
  Ok (Fail s)
