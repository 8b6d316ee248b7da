-- What mailets change of a mail that goes on: its attributes, the fields of its head, and its recipients.
use Rattle.std.specs.Prelude.{ℕ, ◌==◌, not, ◌&&◌, ◌||◌, if◌then◌else◌, List, [], ◌∷◌, ◌++◌, map, filter, codes, Option, Some, None}
use Rattle.std.specs.List.{filter_map}
use Rattle.std.specs.Option.{option_map}
use Rattle.std.specs.Str.{str_to_ascii_lowercase}
use Rattle.mj_terms.specs.Text.{same_text}
use Rattle.mj_address.specs.Grammar.{Mailbox}
use Rattle.mj_address.specs.Reading.{spelled}
use Rattle.mj_head.specs.Head.{RawField}
use Rattle.mj_head.specs.Fields.{is_named, replaced_first, unfolded}
use Rattle.mj_mail.specs.Attributes.{attribute_value, with_attribute, without_attribute}
use Rattle.mj_plan.specs.declared.mailet.Named.{Named}
use Rattle.mj_plan.specs.declared.plan.Plan.{Plan}
use Rattle.mj_container.specs.Matching.{is_host_of}

-- ---- Attributes

-- with each of these, one after another
abbrev pub with_each : List Named → List (List ℕ × List ℕ) → List (List ℕ × List ℕ)
with_each [] attributes = attributes
with_each (named ∷ more) attributes = with_each more (with_attribute named.name named.value attributes)

-- without any of these names
abbrev pub without_each : List (List ℕ) → List (List ℕ × List ℕ) → List (List ℕ × List ℕ)
without_each [] attributes = attributes
without_each (name ∷ more) attributes = without_each more (without_attribute name attributes)

-- ---- Fields

-- a field as it is added: a space stands in front of its value
abbrev pub field_of : List ℕ → List ℕ → RawField
field_of name value = (name, 32 ∷ value)

-- the fields without any of these names
abbrev pub without_fields : List (List ℕ) → List RawField → List RawField
without_fields [] head = head
without_fields (name ∷ more) head = without_fields more (filter (λ field. not (is_named name field)) head)

-- a field for each of these attributes that the mail has, where a pair names the attribute and the field
abbrev pub fields_from : List Named → List (List ℕ × List ℕ) → List RawField
fields_from mapping attributes = filter_map (λ pair. option_map (field_of pair.value) (attribute_value pair.name attributes)) mapping

-- what no value of a field may hold is a space
abbrev pub on_one_line : List ℕ → List ℕ
on_one_line text = map (λ b. if b == 13 || b == 10 then 32 else b) text

-- a prefix and what the Subject says, if it says something
abbrev pub prefixed : List ℕ → Option (List ℕ) → List ℕ
prefixed prefix None = prefix
prefixed prefix (Some []) = prefix
prefixed prefix (Some (b ∷ subject)) = prefix ++ 32 ∷ on_one_line (b ∷ subject)

-- the fields with this prefix in front of the Subject
abbrev pub with_prefix : List ℕ → List RawField → List RawField
with_prefix prefix head = replaced_first (codes "Subject") (32 ∷ prefixed prefix (unfolded (codes "Subject") head)) head

-- ---- Recipients

-- the postmaster of a local host is the plan's postmaster (RFC 5321, 4.5.1)
abbrev pub postmaster_alias : Plan → Mailbox → Mailbox
postmaster_alias plan r = if same_text (codes "postmaster") r.0 && is_host_of plan.local_hosts r.1 then plan.postmaster else r

-- the repository of a recipient: `mailbox/` and the address in lower case
abbrev pub mailbox_of : Mailbox → List ℕ
mailbox_of r = codes "mailbox/" ++ str_to_ascii_lowercase (spelled r)
