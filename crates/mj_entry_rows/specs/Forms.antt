-- What the items of an entry are: their numbers fit, lists and strings can be counted in four bytes, and each item has the
-- form that its type asks for. A list of recipients isn't empty, and a reply has the form of one.
use Rattle.std.specs.Prelude.{◌≡◌, ℕ, ◌<◌, ◌≤◌, ◌^◌, true, List, length, Option, Some, None}
use Rattle.std.specs.List.{AllByRecursion}
use Rattle.mj_address.specs.Grammar.{IsAddress, IsDomain, Mailbox}
use Rattle.mj_address.specs.Same.{AreRecipients}
use Rattle.mj_head.specs.Head.{is_head}
use Rattle.mj_mail.specs.Attributes.{AreAttributes}
use Rattle.mj_mail.specs.Reply.{is_reply}
use Rattle.mj_mail.specs.declared.entry.Entry.{Entry}
use Rattle.mj_mail.specs.declared.entry.Entry.TheVariants.{Setup, Accept, Done}
use Rattle.mj_mail.specs.declared.fact.Fact.{Fact}
use Rattle.mj_mail.specs.declared.fact.Fact.TheVariants.{Deposit, Sent, Retry, Bounce, Dropped, FellOff, Looped, Overrun}
use Rattle.mj_mail.specs.declared.fact.Outcome.{Outcome}
use Rattle.mj_mail.specs.declared.mail.Body.{Body}
use Rattle.mj_mail.specs.declared.mail.Body.TheVariants.{Original, Made}
use Rattle.mj_mail.specs.declared.mail.Mail.{Mail}
use Rattle.mj_mail.specs.declared.mail.NewMail.{NewMail}
use Rattle.mj_mail.specs.declared.mail.Stage.{Stage}
use Rattle.mj_mail.specs.declared.mail.Stage.TheVariants.{Process, Remote}
use Rattle.mj_mail.specs.declared.name.Name.{Name}
use Rattle.mj_mail.specs.declared.reply.Reply.{Reply}

-- ---- Numbers, strings and lists

-- a number of four bytes
abbrev pub IsWord : ℕ → Type 0
IsWord n = n < 2 ^ 32

-- a number of eight bytes
abbrev pub IsLong : ℕ → Type 0
IsLong n = n < 2 ^ 64

-- a string or a list whose length is a number of four bytes
abbrev pub IsCounted : {X : Type 0} → List X → Type 0
IsCounted items = IsWord (length items)

-- a list that can be counted, each item of which is such a one
pub record AreEach {X : Type 0} (Is : X → Type 0) (items : List X) : Type 0 where
  pub counted : IsCounted items
  pub each : AllByRecursion Is items

-- ---- Mails

abbrev pub IsSender : Option Mailbox → Type 0
IsSender None = Unit {0}
IsSender (Some address) = IsAddress address

-- one recipient or more, no two the same
pub record AreAddressed (recipients : List Mailbox) : Type 0 where
  pub some : 1 ≤ length recipients
  pub counted : IsCounted recipients
  pub different : AreRecipients recipients

-- attributes, of which each name and each value can be counted
pub record AreStrings (attributes : List (List ℕ × List ℕ)) : Type 0 where
  pub sorted : AreAttributes attributes
  pub each : AllByRecursion (λ pair. IsCounted pair.0 × IsCounted pair.1) attributes

pub record IsName (name : Name) : Type 0 where
  pub number : IsLong name.number
  pub path : AreEach IsWord name.path

abbrev pub IsBody : Body → Type 0
IsBody (Original number len) = IsLong number × IsWord len
IsBody (Made bytes) = IsCounted bytes

abbrev pub IsStage : Stage → Type 0
IsStage (Process state) = IsCounted state
IsStage (Remote delivery host attempt) = IsCounted delivery × (IsDomain host × IsWord attempt)

pub record IsMail (mail : Mail) : Type 0 where
  pub name : IsName mail.name
  pub sender : IsSender mail.sender
  pub recipients : AreAddressed mail.recipients
  pub attributes : AreStrings mail.attributes
  pub stage : IsStage mail.stage
  pub error : IsCounted mail.error
  pub head : is_head mail.head ≡ true
  pub body : IsBody mail.body
  pub hops : IsWord mail.hops
  pub due : IsLong mail.due

pub record IsNewMail (new : NewMail) : Type 0 where
  pub sender : IsSender new.sender
  pub recipients : AreAddressed new.recipients
  pub head : is_head new.head ≡ true
  pub body : IsCounted new.body

-- ---- Steps

abbrev pub IsReply : Reply → Type 0
IsReply reply = is_reply reply ≡ true

abbrev pub IsFact : Fact → Type 0
IsFact (Deposit repository sender recipients head body) =
    IsCounted repository × (IsSender sender × (AreAddressed recipients × ((is_head head ≡ true) × IsBody body)))
IsFact (Sent host recipient reply) = IsDomain host × (IsAddress recipient × IsReply reply)
IsFact (Retry host recipients attempt due) = IsDomain host × (AreAddressed recipients × (IsWord attempt × IsLong due))
IsFact (Bounce recipients) = AreAddressed recipients
IsFact (Dropped why recipients) = AreAddressed recipients
IsFact (FellOff processor recipients) = IsCounted processor × AreAddressed recipients
IsFact (Looped recipients) = AreAddressed recipients
IsFact Overrun = Unit {0}

-- ---- Entries

pub record IsAccept (number : ℕ) (file : List ℕ) (new : NewMail) : Type 0 where
  pub long : IsLong number
  pub named : IsCounted file
  pub mail : IsNewMail new

pub record IsDone (name : Name) (replies : List Reply) (outcome : Outcome) : Type 0 where
  pub named : IsName name
  pub answered : AreEach IsReply replies
  pub facts : AreEach IsFact outcome.facts
  pub children : AreEach IsMail outcome.children

abbrev pub IsEntry : Entry → Type 0
IsEntry (Setup plan) = IsCounted plan
IsEntry (Accept number file new) = IsAccept number file new
IsEntry (Done name replies outcome) = IsDone name replies outcome
