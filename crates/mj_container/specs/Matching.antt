-- Which recipients of a mail a matcher takes, and where it fails. A condition speaks of one recipient; most don't look at
-- it, and hold for all recipients or for none. Names of fields, hosts, users and addresses are compared without regard to
-- ASCII case, other texts byte for byte.
use Rattle.std.specs.Prelude.{ℕ, nat_le, nat_lt, ◌==◌, Bool, true, false, not, ◌&&◌, List, [], ◌∷◌, length, codes, take, filter, count_by, Option, is_none}
use Rattle.std.specs.Char.{is_ascii_digit}
use Rattle.std.specs.List.{flat_map, list_all, list_any, position_from}
use Rattle.std.specs.Option.{option_map_or}
use Rattle.std.specs.Str.{bytes_eq}
use Rattle.std.specs.Str.Parse.{digits_value}
use Rattle.mj_terms.specs.Text.{same_text}
pub use Rattle.mj_address.specs.Grammar.{Mailbox}
use Rattle.mj_address.specs.Same.{same_address}
use Rattle.mj_head.specs.Fields.{is_named, unfolded}
use Rattle.mj_mail.specs.declared.mail.Mail.{Mail}
use Rattle.mj_mail.specs.Attributes.{attribute_value}
use Rattle.mj_mail.specs.Mail.{size}
use Rattle.mj_plan.specs.declared.condition.Condition.{Condition}
use Rattle.mj_plan.specs.declared.condition.Condition.TheVariants.{All, RecipientIs, RecipientIsLocal, HostIs, HostIsLocal, UserIs, SenderIs, SenderHostIs, SenderIsNull, SizeGreaterThan, SubjectIs, SubjectStartsWith, HasHeader, HasMailAttribute, HasMailAttributeWithValue, RelayLimit, IsSingleRecipient, TooManyRecipients, CompareNumericHeaderValue, IsRemoteDeliveryPermanentError, IsRemoteDeliveryTemporaryError, RemoteDeliveryFailedWithSMTPCode, Fail}
use Rattle.mj_plan.specs.declared.condition.Relation.{Relation}
use Rattle.mj_plan.specs.declared.condition.Relation.TheVariants.{Less, AtMost, Equal, AtLeast, Greater}
use Rattle.mj_plan.specs.declared.matcher.MatchExpr.{MatchExpr}
use Rattle.mj_plan.specs.declared.matcher.MatchExpr.TheOpen.{MatchExpr-F}
use Rattle.mj_plan.specs.declared.matcher.MatchExpr.TheFolds.{fold-MatchExpr}
use Rattle.mj_plan.specs.declared.plan.Plan.{Plan}
use Rattle.mj_plan.specs.Sound.{is_between}

-- ---- What conditions look at

abbrev pub is_host_of : List (List ℕ) → List ℕ → Bool
is_host_of hosts host = list_any (same_text host) hosts

abbrev pub is_user_of : List (List ℕ) → List ℕ → Bool
is_user_of users user = list_any (same_text user) users

abbrev pub is_address_of : List Mailbox → Mailbox → Bool
is_address_of addresses address = list_any (same_address address) addresses

-- there is a sender, and it is so
abbrev pub has_sender : (Mailbox → Bool) → Mail → Bool
has_sender is mail = option_map_or is mail.sender false

-- there is a field of this name, and what the first one unfolds to is so
abbrev pub has_field : (List ℕ → Bool) → List ℕ → Mail → Bool
has_field is field mail = option_map_or is (unfolded field mail.head) false

-- there is an attribute of this name, and its value is so
abbrev pub has_attribute : (List ℕ → Bool) → List ℕ → Mail → Bool
has_attribute is name mail = option_map_or is (attribute_value name mail.attributes) false

abbrev pub begins_with : List ℕ → List ℕ → Bool
begins_with front text = bytes_eq (take (length front) text) front

-- how many fields have this name
abbrev pub count_of : List ℕ → Mail → ℕ
count_of field mail = count_by (is_named field) mail.head

-- a text of 1 to 18 decimal digits, and the number that it spells
abbrev pub is_long_numeral : List ℕ → Bool
is_long_numeral text = is_between 1 18 (length text) && list_all is_ascii_digit text

abbrev pub stands_to : Relation → ℕ → ℕ → Bool
stands_to Less number other = nat_lt number other
stands_to AtMost number other = nat_le number other
stands_to Equal number other = number == other
stands_to AtLeast number other = nat_le other number
stands_to Greater number other = nat_lt other number

-- ---- Conditions

-- the condition holds for this recipient of the mail
abbrev pub holds : Plan → Mail → Mailbox → Condition → Bool
holds plan mail r All = true
holds plan mail r (RecipientIs addresses) = is_address_of addresses r
holds plan mail r RecipientIsLocal = is_host_of plan.local_hosts r.1 && is_user_of plan.local_users r.0
holds plan mail r (HostIs hosts) = is_host_of hosts r.1
holds plan mail r HostIsLocal = is_host_of plan.local_hosts r.1
holds plan mail r (UserIs users) = is_user_of users r.0
holds plan mail r (SenderIs addresses) = has_sender (is_address_of addresses) mail
holds plan mail r (SenderHostIs hosts) = has_sender (λ sender. is_host_of hosts sender.1) mail
holds plan mail r SenderIsNull = is_none mail.sender
holds plan mail r (SizeGreaterThan bytes) = nat_lt bytes (size mail.head mail.body)
holds plan mail r (SubjectIs text) = has_field (bytes_eq text) (codes "Subject") mail
holds plan mail r (SubjectStartsWith front) = has_field (begins_with front) (codes "Subject") mail
holds plan mail r (HasHeader field value) = has_field (λ text. option_map_or (bytes_eq text) value true) field mail
holds plan mail r (HasMailAttribute name) = has_attribute (λ value. true) name mail
holds plan mail r (HasMailAttributeWithValue name value) = has_attribute (bytes_eq value) name mail
holds plan mail r (RelayLimit most) = nat_le most (count_of (codes "Received") mail)
holds plan mail r IsSingleRecipient = length mail.recipients == 1
holds plan mail r (TooManyRecipients most) = nat_lt most (length mail.recipients)
holds plan mail r (CompareNumericHeaderValue field relation number) = has_field (λ text. is_long_numeral text && stands_to relation (digits_value 10 text) number) field mail
holds plan mail r IsRemoteDeliveryPermanentError = has_attribute (bytes_eq (codes "true")) (codes "is-delivery-permanent-error") mail
holds plan mail r IsRemoteDeliveryTemporaryError = has_attribute (bytes_eq (codes "false")) (codes "is-delivery-permanent-error") mail
holds plan mail r (RemoteDeliveryFailedWithSMTPCode code) = has_attribute (bytes_eq code) (codes "delivery-error-code") mail
holds plan mail r Fail = false

-- the condition fails on the mail, whoever the recipient is
abbrev pub fails : Mail → Condition → Bool
fails mail (CompareNumericHeaderValue field relation number) = has_field (λ text. not (is_long_numeral text)) field mail
fails mail Fail = true
fails mail other = false

-- ---- Matchers

-- exactly one of them
abbrev pub is_one : List Bool → Bool
is_one children = length (filter (λ child. child) children) == 1

abbrev pub hits_at : Plan → Mail → Mailbox → MatchExpr-F Bool → Bool
hits_at plan mail r (MatchExpr-F.One condition) = holds plan mail r condition
hits_at plan mail r (MatchExpr-F.And children) = list_all (λ child. child) children
hits_at plan mail r (MatchExpr-F.Or children) = list_any (λ child. child) children
hits_at plan mail r (MatchExpr-F.Not children) = not (list_any (λ child. child) children)
hits_at plan mail r (MatchExpr-F.Xor children) = is_one children

-- the matcher takes this recipient of the mail
abbrev pub hits : Plan → Mail → Mailbox → MatchExpr → Bool
hits plan mail r matcher = fold-MatchExpr Bool (hits_at plan mail r) matcher

abbrev pub conditions_at : MatchExpr-F (List Condition) → List Condition
conditions_at (MatchExpr-F.One condition) = condition ∷ []
conditions_at (MatchExpr-F.And children) = flat_map (λ child. child) children
conditions_at (MatchExpr-F.Or children) = flat_map (λ child. child) children
conditions_at (MatchExpr-F.Not children) = flat_map (λ child. child) children
conditions_at (MatchExpr-F.Xor children) = flat_map (λ child. child) children

-- the conditions of a matcher, from the left
abbrev pub conditions_of : MatchExpr → List Condition
conditions_of matcher = fold-MatchExpr (List Condition) conditions_at matcher

-- the number of the first condition that fails, counted from 1
abbrev pub first_failed : Mail → MatchExpr → Option ℕ
first_failed mail matcher = position_from (fails mail) 1 (conditions_of matcher)
