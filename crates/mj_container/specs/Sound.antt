-- When a mail is sound for a plan, and how far it may still go.
use Rattle.std.specs.Prelude.{◌≡◌, ℕ, ◌+◌, ◌-◌, ◌*◌, ◌^◌, ◌<◌, nat_le, Bool, true, ◌&&◌, List, length}
use Rattle.std.specs.List.{list_all, list_any}
use Rattle.std.specs.Str.{bytes_eq}
use Rattle.mj_address.specs.Short.{is_short}
use Rattle.mj_head.specs.Head.{written}
use Rattle.mj_mail.specs.declared.attributes.TheConstants.{MAX_ATTRIBUTES}
use Rattle.mj_mail.specs.declared.limits.TheConstants.{MAX_ERROR, MAX_HEAD}
use Rattle.mj_mail.specs.declared.mail.Mail.{Mail}
use Rattle.mj_mail.specs.declared.mail.Stage.{Stage}
use Rattle.mj_mail.specs.declared.mail.Stage.TheVariants.{Process, Remote}
use Rattle.mj_mail.specs.Mail.{body_len}
use Rattle.mj_mail.specs.Rules.{has_recipients, is_short_sender, is_small_body}
use Rattle.mj_plan.specs.declared.plan.Plan.{Plan}
use Rattle.mj_plan.specs.Forms.{is_attribute_name, is_attribute_value}
use Rattle.mj_plan.specs.Sound.{deliveries_of, is_between, names_of}

-- ---- How far a mail may still go

-- the attempt that is next; a mail in a processor has none
abbrev pub attempt_of : Stage → ℕ
attempt_of (Process state) = 0
attempt_of (Remote delivery host attempt) = attempt

-- A mail is sent on at most 1,001 times, and tried at most 101 times in between.
unfoldable pub measure : Mail → ℕ
measure mail = (1_001 - mail.hops) * 102 + (101 - attempt_of mail.stage)

-- ---- Limits

-- an attribute with the forms of its name and its value
abbrev pub is_attribute : List ℕ × List ℕ → Bool
is_attribute attribute = is_attribute_name attribute.0 && is_attribute_value attribute.1

-- at most 100 attributes of these forms
abbrev pub are_attributes : List (List ℕ × List ℕ) → Bool
are_attributes attributes = nat_le (length attributes) MAX_ATTRIBUTES && list_all is_attribute attributes

-- the mail keeps the limits of what it carries
abbrev pub keeps_limits : Mail → Bool
keeps_limits mail =
    has_recipients mail.recipients
    && (list_all is_short mail.recipients
    && (is_short_sender mail.sender
    && (are_attributes mail.attributes
    && (nat_le (length mail.error) MAX_ERROR && (nat_le (length (written mail.head)) MAX_HEAD && is_small_body (body_len mail.body))))))

-- the plan has a processor of this name
abbrev pub names_processor : Plan → List ℕ → Bool
names_processor plan state = list_any (bytes_eq state) (names_of plan.processors)

-- the plan has a remote delivery of this name
abbrev pub names_delivery : Plan → List ℕ → Bool
names_delivery plan delivery = list_any (bytes_eq delivery) (deliveries_of plan.processors)

-- The latest moment at which a mail of so many hops is due: a mail waits at most 700 days between two hops. A plan
-- starts before the end of the year 2100.
unfoldable pub latest : ℕ → ℕ
latest hops = 4_133_980_800_000 + hops * 60_480_000_000

-- the same of a mail that is sent to a host: it waits at most seven days before each attempt but the first
unfoldable pub latest_attempt : ℕ → ℕ → ℕ
latest_attempt hops number = 4_133_980_800_000 + (hops - 1) * 60_480_000_000 + (number - 1) * 604_800_000

-- the mail has only such a name that each mail which it becomes has a name within the limits
abbrev pub has_room : Mail → Bool
has_room mail = nat_le (length mail.name.path + measure mail) 102_203

-- a mail waits for a processor or for a remote delivery of the plan, within the bounds of hops, attempts, moments and names
abbrev pub may_stand : Plan → Stage → Mail → Bool
may_stand plan (Process state) mail = names_processor plan state && (nat_le mail.hops 1_001 && (nat_le mail.due (latest mail.hops) && has_room mail))
may_stand plan (Remote delivery host number) mail =
    names_delivery plan delivery
    && ((is_between 1 1_000 mail.hops && is_between 1 101 number) && (nat_le mail.due (latest_attempt mail.hops number) && has_room mail))

-- the mail is sound for the plan
abbrev pub is_sound : Plan → Mail → Bool
is_sound plan mail = keeps_limits mail && may_stand plan mail.stage mail

-- ---- On its way through a processor

-- A mail that a mailet may serve: it keeps the limits, may take one hop more, and is due at a moment that has a date.
pub record IsFit (mail : Mail) : Type 0 where
  pub limits : keeps_limits mail ≡ true
  pub hops : mail.hops + 1 < 2 ^ 32
  pub due : mail.due < 253_402_300_800_000
