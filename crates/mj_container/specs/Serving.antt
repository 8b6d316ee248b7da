-- What a mailet makes of a mail, and how a mail leaves a processor. A child keeps its parent's name here; its number
-- comes at the end of the step.
use Rattle.std.specs.Prelude.{ℕ, ◌+◌, nat_le, Bool, if◌then◌else◌, List, [], ◌∷◌, ◌++◌, length, map, codes, Option, Some, None, Result, Ok, Err}
use Rattle.std.specs.Str.{bytes_eq}
use Rattle.mj_address.specs.Same.{distinct, with_lower_local}
use Rattle.mj_head.specs.Head.{RawField, written}
use Rattle.mj_mail.specs.declared.attributes.TheConstants.{MAX_ATTRIBUTES}
use Rattle.mj_mail.specs.declared.fact.Fact.{Fact}
use Rattle.mj_mail.specs.declared.fact.Fact.TheVariants as fact
use Rattle.mj_mail.specs.declared.fact.Fact.TheVariants.{Deposit, Dropped}
use Rattle.mj_mail.specs.declared.fact.Outcome.{Outcome}
use Rattle.mj_mail.specs.declared.fact.Why.TheVariants.{Discarded, NoReturnPath}
use Rattle.mj_mail.specs.declared.limits.TheConstants.{MAX_HEAD}
use Rattle.mj_mail.specs.declared.mail.Mail.{Mail}
use Rattle.mj_mail.specs.declared.mail.Stage.TheVariants.{Process, Remote}
use Rattle.mj_mail.specs.Mail.{restrict, root}
use Rattle.mj_mail.specs.Outcome.{one_child, one_fact}
use Rattle.mj_plan.specs.declared.mailet.MailetKind.{MailetKind}
use Rattle.mj_plan.specs.declared.mailet.MailetKind.TheVariants.{ToProcessor, Null, SetMailAttribute, RemoveMailAttribute, RemoveAllMailAttributes, SetMimeHeader, RemoveMimeHeader, MailAttributesToMimeHeaders, AddSubjectPrefix, RecipientToLowerCase, PostmasterAlias, RecipientRewriteTable, Forward, Bounce, NotifyPostmaster, LocalDelivery, ToRepository, RemoteDelivery, Fail}
use Rattle.mj_plan.specs.declared.plan.Plan.{Plan}
use Rattle.mj_groups.specs.Groups.{grouped}
use Rattle.mj_terms.specs.Answers.{GivesBy}
use Rattle.mj_terms.specs.Text.{same_text}
use Rattle.mj_container.specs.declared.rewrite_fault.RewriteFault.{RewriteFault}
use Rattle.mj_container.specs.declared.service.Onward.{Onward}
use Rattle.mj_container.specs.declared.service.Onward.TheVariants.{GoOn, Leave, End}
use Rattle.mj_container.specs.declared.service.ServeError.{ServeError}
use Rattle.mj_container.specs.declared.service.ServeError.TheVariants.{Failed, Memory}
use Rattle.mj_container.specs.declared.service.Served.{Served}
use Rattle.mj_container.specs.declared.service.Unserved.{Unserved}
use Rattle.mj_container.specs.Changes.{field_of, fields_from, mailbox_of, postmaster_alias, with_each, with_prefix, without_each, without_fields}
use Rattle.mj_container.specs.Expansion.{fault_text, rewritten}
use Rattle.mj_container.specs.Matching.{Mailbox}
use Rattle.mj_container.specs.Notices.{bounce_of, failures, postmaster_notice}
use Rattle.mj_container.specs.Sound.{IsFit}

-- ---- Leaving

-- the state in which all processing ends
abbrev pub ghost_state : List ℕ
ghost_state = codes "ghost"

-- the mail is sent to a processor, with one hop more
abbrev pub sent_to : List ℕ → Mail → Mail
sent_to state mail = record mail { stage = Process state; hops = mail.hops + 1 }

-- the mail leaves with a state: with `ghost` it is dropped, and else it becomes one child in that processor
abbrev pub leave : List ℕ → Mail → Outcome
leave state mail = if bytes_eq state ghost_state then one_fact (Dropped Discarded mail.recipients) else one_child (sent_to state mail)

-- ---- What a mailet gives

-- the mail goes somewhere, and nothing else comes of it
abbrev pub goes : Onward → Result Served Unserved
goes onward = Ok (record { facts = []; children = []; onward = onward })

-- the mail stays as it was, for a reason
abbrev pub fails : List ℕ → Mail → Result Served Unserved
fails text mail = Err (record { mail = mail; text = text })

-- the mail goes on by itself, or ends here
abbrev pub passed : Bool → Mail → Onward
passed pass_through mail = if pass_through then GoOn mail else End

-- the mail goes on with these attributes, if there aren't too many
abbrev pub with_attributes : Mail → List (List ℕ × List ℕ) → Result Served Unserved
with_attributes mail attributes =
    if nat_le (length attributes) MAX_ATTRIBUTES then goes (GoOn (record mail { attributes = attributes })) else fails (codes "TooManyAttributes") mail

-- the mail goes on with these fields, if their written form isn't too long
abbrev pub with_head : Mail → List RawField → Result Served Unserved
with_head mail head = if nat_le (length (written head)) MAX_HEAD then goes (GoOn (record mail { head = head })) else fails (codes "HeadTooLong") mail

-- the mail goes on for what became of its recipients
abbrev pub with_rewritten : Mail → Result (List Mailbox) RewriteFault → Result Served Unserved
with_rewritten mail (Ok recipients) = goes (GoOn (restrict mail recipients))
with_rewritten mail (Err fault) = fails (fault_text fault) mail

-- what was put into a repository
abbrev pub deposit : List ℕ → Mail → Fact
deposit path mail = Deposit path mail.sender mail.recipients mail.head mail.body

-- what was put into a recipient's mailbox
abbrev pub delivered : Mail → Mailbox → Fact
delivered mail r = deposit (mailbox_of r) (restrict mail (r ∷ []))

-- a copy for others: it begins in `root`, with one hop more and nothing of earlier failures
abbrev pub forwarded : List Mailbox → Mail → Mail
forwarded to mail = sent_to root (record mail { recipients = to; error = [] })

-- what comes of a mail that is bounced, where this notice goes to its sender: where there is none, since the sender is null, the
-- mail's recipients are dropped
abbrev pub bounced : Bool → Mail → Option Mail → Served
bounced pass_through mail (Some sent) = record { facts = fact.Bounce mail.recipients ∷ []; children = sent ∷ []; onward = passed pass_through mail }
bounced pass_through mail None = record { facts = Dropped NoReturnPath mail.recipients ∷ []; children = []; onward = passed pass_through mail }

-- the mail for these recipients, on its way to a host, with one hop more
abbrev pub sent_out : List ℕ → List ℕ → List Mailbox → Mail → Mail
sent_out outgoing host recipients mail = record mail { recipients = recipients; stage = Remote outgoing host 1; hops = mail.hops + 1 }

-- the recipients at each domain, which stands as the first of them spells it
abbrev pub by_domain : List Mailbox → List (List ℕ × List Mailbox)
by_domain recipients = grouped same_text (map (λ r. (r.1, r)) recipients)

-- through a gateway all go together, and without one the recipients at each domain go to it (RFC 5321, 5.1)
abbrev pub deliveries : List ℕ → Option (List ℕ) → Mail → List Mail
deliveries outgoing (Some gateway) mail = sent_out outgoing gateway mail.recipients mail ∷ []
deliveries outgoing None mail = map (λ group. sent_out outgoing group.0 group.1 mail) (by_domain mail.recipients)

-- ---- Mailets

-- what a mailet makes of a mail
abbrev pub serve : Plan → MailetKind → Mail → Result Served Unserved
serve plan (ToProcessor processor) mail = goes (Leave mail processor)
serve plan Null mail = goes (Leave mail ghost_state)
serve plan (SetMailAttribute attributes) mail = with_attributes mail (with_each attributes mail.attributes)
serve plan (RemoveMailAttribute names) mail = goes (GoOn (record mail { attributes = without_each names mail.attributes }))
serve plan RemoveAllMailAttributes mail = goes (GoOn (record mail { attributes = [] }))
serve plan (SetMimeHeader name value) mail = with_head mail (mail.head ++ field_of name value ∷ [])
serve plan (RemoveMimeHeader names) mail = goes (GoOn (record mail { head = without_fields names mail.head }))
serve plan (MailAttributesToMimeHeaders mapping) mail = with_head mail (mail.head ++ fields_from mapping mail.attributes)
serve plan (AddSubjectPrefix prefix) mail = with_head mail (with_prefix prefix mail.head)
serve plan RecipientToLowerCase mail = goes (GoOn (restrict mail (distinct (map with_lower_local mail.recipients))))
serve plan PostmasterAlias mail = goes (GoOn (restrict mail (distinct (map (postmaster_alias plan) mail.recipients))))
serve plan RecipientRewriteTable mail = with_rewritten mail (rewritten plan.mappings mail.recipients)
serve plan (Forward to pass_through) mail = Ok (record { facts = []; children = forwarded (distinct to) mail ∷ []; onward = passed pass_through mail })
serve plan (Bounce message pass_through) mail = Ok (bounced pass_through mail (bounce_of plan mail (failures message mail.recipients)))
serve plan (NotifyPostmaster pass_through) mail = Ok (record { facts = []; children = postmaster_notice plan mail ∷ []; onward = passed pass_through mail })
serve plan LocalDelivery mail = Ok (record { facts = map (delivered mail) mail.recipients; children = []; onward = End })
serve plan (ToRepository path pass_through) mail = Ok (record { facts = deposit path mail ∷ []; children = []; onward = passed pass_through mail })
serve plan (RemoteDelivery outgoing schedule gateway bounce_processor) mail = Ok (record { facts = []; children = deliveries outgoing gateway mail; onward = End })
serve plan (Fail text) mail = fails text mail

-- ---- What a call answers of it

-- a mail that goes on or leaves is fit for it
abbrev pub HasFit : Onward → Type 0
HasFit (GoOn mail) = IsFit mail
HasFit (Leave mail state) = IsFit mail
HasFit End = Unit {0}

-- a call's answer leaves a mail fit for what follows
abbrev pub KeepsFit : Result Served ServeError → Type 0
KeepsFit (Ok served) = HasFit served.onward
KeepsFit (Err (Failed unserved)) = IsFit unserved.mail
KeepsFit (Err Memory) = Unit {0}

-- a failure, but want of memory
abbrev pub told : ServeError → Option Unserved
told (Failed unserved) = Some unserved
told Memory = None

-- A call's answer is what the definition says. Only want of memory comes beside it.
abbrev pub Gives : Result Served ServeError → Result Served Unserved → Type 0
Gives answer definition = GivesBy told (λ served. served) answer definition
