-- The rules by which mails are carried: what one step makes of a mail, and what each set of rules owes.
use Rattle.std.specs.Prelude.{◌≡◌, ℕ, ◌+◌, nat_le, Bool, true, ◌&&◌, if◌then◌else◌, List, [], ◌∷◌, length, map, Option}
use Rattle.std.specs.List.{list_all}
use Rattle.std.specs.Option.{option_map_or}
use Rattle.mj_address.specs.Grammar.{Mailbox}
use Rattle.mj_address.specs.Short.{is_short}
use Rattle.mj_head.specs.Head.{written}
use Rattle.mj_mail.specs.declared.fact.Fact.{Fact}
use Rattle.mj_mail.specs.declared.fact.Fact.TheVariants.{Deposit, Sent, Retry, Bounce, Dropped, FellOff, Looped, Overrun}
use Rattle.mj_mail.specs.declared.fact.Outcome.{Outcome}
use Rattle.mj_mail.specs.declared.limits.TheConstants.{MAX_BODY, MAX_HEAD, MAX_RECIPIENTS}
use Rattle.mj_mail.specs.declared.mail.Body.{Body}
use Rattle.mj_mail.specs.declared.mail.Body.TheVariants.{Original, Made}
use Rattle.mj_mail.specs.declared.mail.Mail.{Mail}
use Rattle.mj_mail.specs.declared.mail.NewMail.{NewMail}
use Rattle.mj_mail.specs.declared.mail.Stage.{Stage}
use Rattle.mj_mail.specs.declared.mail.Stage.TheVariants.{Process, Remote}
use Rattle.mj_mail.specs.declared.name.Name.{Name}
use Rattle.mj_mail.specs.declared.reply.Reply.{Reply}
use Rattle.mj_mail.specs.Mail.{body_len}
use Rattle.mj_mail.specs.Name.{child_name}
use Rattle.mj_mail.specs.Outcome.{nothing}
use Rattle.mj_mail.specs.Reply.{is_reply}

-- one to 500 recipients
abbrev pub has_recipients : List (List ℕ × List ℕ) → Bool
has_recipients recipients = nat_le 1 (length recipients) && nat_le (length recipients) MAX_RECIPIENTS

-- the sender is a short address, if there is one
abbrev pub is_short_sender : Option Mailbox → Bool
is_short_sender sender = option_map_or is_short sender true

abbrev pub is_small_body : ℕ → Bool
is_small_body bytes = nat_le bytes MAX_BODY

-- a mail that may be accepted: it has a recipient, its addresses are short, and it keeps the limits
abbrev pub is_acceptable : NewMail → Bool
is_acceptable new =
    has_recipients new.recipients
    && (list_all is_short new.recipients
    && (is_short_sender new.sender && (nat_le (length (written new.head)) MAX_HEAD && is_small_body (length new.body))))

-- what hosts answer: to each host, recipient and attempt its reply
abbrev pub Replying : Type 0
Replying = List ℕ → Mailbox → ℕ → Reply

-- what is answered for these recipients where their mail stands: it isn't sent while it waits for a processor
abbrev pub replies_at : Replying → List Mailbox → Stage → List Reply
replies_at reply recipients (Process state) = []
replies_at reply recipients (Remote delivery host attempt) = map (λ r. reply host r attempt) recipients

-- what is answered for each recipient of a mail, in order
abbrev pub replies_to : Replying → Mail → List Reply
replies_to reply mail = replies_at reply mail.recipients mail.stage

-- what one step makes of a mail, by rules with these meanings: nothing of one that isn't sound for them
abbrev pub step_by : {R : Type 0} → (R → Mail → Bool) → (R → Replying) → (R → Mail → List Reply → Outcome) → R → Mail → Outcome
step_by is_sound reply_of outcome_of rules mail = if is_sound rules mail then outcome_of rules mail (replies_to (reply_of rules) mail) else nothing

-- ---- What is owed

-- each child's name is that of the mail with the child's number, where the first has this number
abbrev pub AreNumbered : Name → ℕ → List Mail → Type 0
AreNumbered name number [] = Unit {0}
AreNumbered name number (child ∷ children) = (child.name ≡ child_name name number) × AreNumbered name (number + 1) children

-- a body that was accepted is the mail's own
abbrev pub IsOwnBody : Body → Body → Type 0
IsOwnBody own (Original number len) = own ≡ Original number len
IsOwnBody own (Made bytes) = Unit {0}

abbrev pub HasOwnBody : Body → Fact → Type 0
HasOwnBody own (Deposit repository sender recipients head body) = IsOwnBody own body
HasOwnBody own other = Unit {0}

-- a fact names one to 500 recipients, what is deposited keeps the limits, and a reply has its form
abbrev pub is_storable : Fact → Bool
is_storable (Deposit repository sender recipients head body) =
    has_recipients recipients && (nat_le (length (written head)) MAX_HEAD && is_small_body (body_len body))
is_storable (Sent host recipient reply) = is_reply reply
is_storable (Retry host recipients attempt due) = has_recipients recipients
is_storable (Bounce recipients) = has_recipients recipients
is_storable (Dropped why recipients) = has_recipients recipients
is_storable (FellOff processor recipients) = has_recipients recipients
is_storable (Looped recipients) = has_recipients recipients
is_storable Overrun = true

-- a child has one to 500 recipients, and its body keeps the limit
abbrev pub is_storable_child : Mail → Bool
is_storable_child child = has_recipients child.recipients && is_small_body (body_len child.body)
