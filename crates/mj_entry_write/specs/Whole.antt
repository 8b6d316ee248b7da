-- Which entries can be written.
use Rattle.std.specs.Prelude.{◌==◌, Bool, true, ◌&&◌, not, List, length}
use Rattle.std.specs.List.{list_all}
use Rattle.mj_address.specs.Grammar.{Mailbox}
use Rattle.mj_mail.specs.Reply.{is_reply}
use Rattle.mj_mail.specs.declared.entry.Entry.{Entry}
use Rattle.mj_mail.specs.declared.entry.Entry.TheVariants.{Setup, Accept, Done}
use Rattle.mj_mail.specs.declared.fact.Fact.{Fact}
use Rattle.mj_mail.specs.declared.fact.Fact.TheVariants.{Deposit, Sent, Retry, Bounce, Dropped, FellOff, Looped, Overrun}
use Rattle.mj_mail.specs.declared.fact.Outcome.{Outcome}
use Rattle.mj_mail.specs.declared.mail.Mail.{Mail}

-- there is a recipient
abbrev pub is_addressed : List Mailbox → Bool
is_addressed recipients = not (length recipients == 0)

-- a fact with a recipient, whose reply, if it has one, has the form of one
abbrev pub is_whole_fact : Fact → Bool
is_whole_fact (Deposit repository sender recipients head body) = is_addressed recipients
is_whole_fact (Sent host recipient reply) = is_reply reply
is_whole_fact (Retry host recipients attempt due) = is_addressed recipients
is_whole_fact (Bounce recipients) = is_addressed recipients
is_whole_fact (Dropped why recipients) = is_addressed recipients
is_whole_fact (FellOff processor recipients) = is_addressed recipients
is_whole_fact (Looped recipients) = is_addressed recipients
is_whole_fact Overrun = true

abbrev pub is_whole_outcome : Outcome → Bool
is_whole_outcome outcome = list_all is_whole_fact outcome.facts && list_all (λ (child : Mail). is_addressed child.recipients) outcome.children

-- an entry in which no list of recipients is empty, and each reply has the form of one
abbrev pub is_whole : Entry → Bool
is_whole (Setup plan) = true
is_whole (Accept number file new) = is_addressed new.recipients
is_whole (Done name replies outcome) = list_all is_reply replies && is_whole_outcome outcome
