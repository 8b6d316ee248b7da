-- Notices about a mail: to its sender, who learns to whom it couldn't be delivered and why (RFC 5321, 6.1), and to the postmaster,
-- about the mail's error. All lines end in CRLF.
use Rattle.std.specs.Prelude.{ℕ, ◌+◌, List, [], ◌∷◌, ◌++◌, map, codes, Option, None}
use Rattle.std.specs.List.{flat_map}
use Rattle.std.specs.Option.{option_map}
use Rattle.mj_address.specs.Grammar.{Mailbox}
use Rattle.mj_address.specs.Reading.{spelled}
use Rattle.mj_head.specs.Head.{RawField, written}
use Rattle.mj_mail.specs.declared.failure.Failure.{Failure}
use Rattle.mj_mail.specs.declared.mail.Body.TheVariants.{Made}
use Rattle.mj_mail.specs.declared.mail.Mail.{Mail}
use Rattle.mj_mail.specs.declared.mail.Stage.TheVariants.{Process}
use Rattle.mj_mail.specs.Mail.{root}
use Rattle.mj_plan.specs.declared.plan.Plan.{Plan}
use Rattle.mj_time.specs.DateText.{date_text_of}
use Rattle.mj_container.specs.Changes.{field_of}

-- ---- The head (RFC 5322, 3.6; RFC 3834, 5)

abbrev pub notice_head : Plan → Mailbox → List ℕ → ℕ → List RawField
notice_head plan to subject moment =
    field_of (codes "From") (spelled plan.postmaster)
    ∷ field_of (codes "To") (spelled to)
    ∷ field_of (codes "Subject") subject
    ∷ field_of (codes "Date") (date_text_of moment)
    ∷ field_of (codes "Auto-Submitted") (codes "auto-replied")
    ∷ []

-- ---- The body

abbrev pub line : List ℕ → List ℕ
line text = text ++ 13 ∷ 10 ∷ []

abbrev pub opening : Plan → List ℕ
opening plan = line (codes "This is the mail system at " ++ plan.host_name ++ codes ".") ++ line []

-- a recipient in angle brackets, and the reason
abbrev pub failure_line : Failure → List ℕ
failure_line failure = line (60 ∷ spelled failure.recipient ++ codes ">: " ++ failure.reason)

abbrev pub closing : Mail → List ℕ
closing mail = line (codes "The head of your message follows.") ++ line [] ++ written mail.head

-- that it couldn't be delivered to each of these, all for the same reason
abbrev pub failures : List ℕ → List Mailbox → List Failure
failures message recipients = map (λ r. record { recipient = r; reason = message }) recipients

-- to whom it couldn't be delivered
abbrev pub undelivered : Plan → Mail → List Failure → List ℕ
undelivered plan mail failed =
    opening plan ++ line (codes "Your message could not be delivered to:") ++ line [] ++ flat_map failure_line failed ++ line [] ++ closing mail

-- what its error is
abbrev pub troubled : Plan → Mail → List ℕ
troubled plan mail = opening plan ++ line (codes "Error: " ++ mail.error) ++ line [] ++ closing mail

-- ---- Notices

-- a mail about another one, which keeps that one's name and moment and has one hop more: it has a null sender, so that no notice
-- answers it (RFC 5321, 4.5.5)
abbrev pub notice : Plan → Mail → Mailbox → List ℕ → List ℕ → Mail
notice plan mail to subject body = record {
  name = mail.name;
  sender = None;
  recipients = to ∷ [];
  attributes = [];
  stage = Process root;
  error = [];
  head = notice_head plan to subject mail.due;
  body = Made body;
  hops = mail.hops + 1;
  due = mail.due;
}

-- the notice to the sender, and none where the sender is null
abbrev pub bounce_of : Plan → Mail → List Failure → Option Mail
bounce_of plan mail failed =
    option_map (λ sender. notice plan mail sender (codes "Undelivered mail returned to sender") (undelivered plan mail failed)) mail.sender

-- the notice to the postmaster
abbrev pub postmaster_notice : Plan → Mail → Mail
postmaster_notice plan mail = notice plan mail plan.postmaster (codes "Notice to the postmaster") (troubled plan mail)
