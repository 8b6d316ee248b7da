-- What a mailet gives of a part of a sound mail under a sound plan: facts that keep the limits, mails that are sent to processors
-- of the plan, and a part again.
use Rattle.std.proofs.Common.{◌≡◌, ◌∙◌, ℕ, ◌+◌, ◌≤◌, Bool, true, false, List, [], ◌∷◌, ◌++◌, length, map, refl, sym, ap, subst, arith, Option, Some, None, Result, Ok, Err}
use Rattle.std.specs.Option.{option_map, option_map_or}
use Rattle.std.specs.Prelude.{nat_le, ◌&&◌, if◌then◌else◌, codes}
use Rattle.std.specs.List.{AllByRecursion, list_all}
use Rattle.std.proofs.lemmas.Bool.{and_parts}
use Rattle.std.proofs.lemmas.List.{length-map}
use Rattle.mj_address.specs.Grammar.{Mailbox}
use Rattle.mj_address.specs.Same.{distinct, with_lower_local}
use Rattle.mj_address.specs.Short.{is_short}
use Rattle.mj_address.proofs.Short.{distinct_short, lower_short, mapped_short}
use Rattle.mj_head.specs.Head.{RawField, written}
use Rattle.mj_mail.specs.declared.attributes.TheConstants.{MAX_ATTRIBUTES}
use Rattle.mj_mail.specs.declared.fact.Fact.{Fact}
use Rattle.mj_mail.specs.declared.fact.Outcome.{Outcome}
use Rattle.mj_mail.specs.declared.limits.TheConstants.{MAX_ERROR, MAX_HEAD, MAX_RECIPIENTS}
use Rattle.mj_mail.specs.declared.mail.Body.{Body}
use Rattle.mj_mail.specs.declared.mail.Body.TheVariants.{Original, Made}
use Rattle.mj_mail.specs.declared.mail.Mail.{Mail}
use Rattle.mj_mail.specs.declared.mail.Stage.{Stage}
use Rattle.mj_mail.specs.declared.mail.Stage.TheVariants.{Process, Remote}
use Rattle.mj_mail.specs.Mail.{body_len, restrict}
use Rattle.mj_mail.specs.Outcome.{nothing, one_fact}
use Rattle.mj_mail.specs.Rules.{HasOwnBody, IsOwnBody, has_recipients, is_short_sender, is_small_body, is_storable}
use Rattle.mj_plan.specs.declared.mailet.MailetKind.{MailetKind}
use Rattle.mj_plan.specs.declared.mailet.MailetKind.TheVariants as mailet
use Rattle.mj_plan.specs.declared.plan.Plan.{Plan}
use Rattle.mj_plan.specs.Forms.{is_printable}
use Rattle.mj_terms.specs.Text.{same_text}
use Rattle.mj_plan.specs.Sound.{IsSound, are_items, ascends, has_items, is_attribute as is_set, is_mailet, is_mapping, is_target, names_of, outgoing_of}
use Rattle.mj_container.specs.declared.service.Onward.{Onward}
use Rattle.mj_container.specs.declared.service.Onward.TheVariants.{GoOn, Leave, End}
use Rattle.mj_container.specs.declared.service.Served.{Served}
use Rattle.mj_container.specs.declared.service.Unserved.{Unserved}
use Rattle.mj_container.specs.Changes.{field_of, fields_from, postmaster_alias, with_each, with_prefix, without_each, without_fields}
use Rattle.mj_container.specs.Expansion.{Expanded, rewritten}
use Rattle.mj_container.specs.Matching.{is_host_of}
use Rattle.mj_container.specs.Notices.{failures, notice, postmaster_notice, troubled, undelivered}
use Rattle.mj_container.specs.Serving.{bounced, by_domain, delivered, deliveries, deposit, fails, forwarded, goes, passed, sent_out, serve, with_rewritten}
use Rattle.mj_container.specs.Sound.{are_attributes, is_attribute, keeps_limits, names_delivery, names_processor}
use Rattle.mj_container.proofs.Changes.{few_distinct, fields_shorter, put_each, removed_fewer, removed_formed, some_distinct}
use Rattle.mj_container.proofs.Expansions.{AreRewritten, AreShort, are_rewritten, rewritten_short}
use Rattle.mj_container.proofs.Facts.{both_true, le_of, limits_kept, limits_of, of_le, shorter}
use Rattle.mj_container.proofs.Groups.{IsGroup, all_mapped, domain_groups}
use Rattle.mj_container.proofs.Notices.{notice_limits, troubled_short, undelivered_short}

-- ---- Parts, children and facts

-- a part of a mail, on its way through a processor
pub record IsPart (mail part : Mail) : Type 0 where
  pub name : part.name ≡ mail.name
  pub body : part.body ≡ mail.body
  pub hops : part.hops ≡ mail.hops
  pub due : part.due ≡ mail.due
  pub limits : keeps_limits part ≡ true

-- the stage is a processor of the plan, or the first attempt by a remote delivery of the plan
abbrev pub IsAhead : Plan → Stage → Type 0
IsAhead plan (Process state) = names_processor plan state ≡ true
IsAhead plan (Remote delivery host number) = (names_delivery plan delivery ≡ true) × (number ≡ 1)

-- a mail that a processor makes of this one: it is sent to another processor of the plan, or to a host
pub record IsSent (plan : Plan) (mail child : Mail) : Type 0 where
  pub ahead : IsAhead plan child.stage
  pub name : child.name ≡ mail.name
  pub body : IsOwnBody mail.body child.body
  pub hops : child.hops ≡ mail.hops + 1
  pub due : child.due ≡ mail.due
  pub limits : keeps_limits child ≡ true

-- a fact that keeps the limits, and names no other body than the mail's
pub record IsKept (mail : Mail) (fact : Fact) : Type 0 where
  pub storable : is_storable fact ≡ true
  pub own : HasOwnBody mail.body fact

-- an outcome of such children and such facts
pub record IsLawful (plan : Plan) (mail : Mail) (outcome : Outcome) : Type 0 where
  pub children : AllByRecursion (IsSent plan mail) outcome.children
  pub facts : AllByRecursion (IsKept mail) outcome.facts

pub own_body : (body : Body) → IsOwnBody body body
own_body (Original number len) = refl
own_body (Made bytes) = tt

pub is_part : (mail : Mail) → keeps_limits mail ≡ true → IsPart mail mail
is_part mail limits = record { name = refl; body = refl; hops = refl; due = refl; limits = limits }

-- ---- A part that changes

part_with_attributes : (mail part : Mail) (attributes : List (List ℕ × List ℕ)) → IsPart mail part → are_attributes attributes ≡ true → IsPart mail (record part { attributes = attributes })
part_with_attributes mail part attributes p few =
    let l = limits_of part p.limits in
    record {
      name = p.name;
      body = p.body;
      hops = p.hops;
      due = p.due;
      limits = limits_kept (record part { attributes = attributes }) (record { recipients = l.recipients; short = l.short; sender = l.sender; attributes = few; error = l.error; head = l.head; body = l.body });
    }

part_with_head : (mail part : Mail) (head : List RawField) → IsPart mail part → nat_le (length (written head)) MAX_HEAD ≡ true → IsPart mail (record part { head = head })
part_with_head mail part head p short =
    let l = limits_of part p.limits in
    record {
      name = p.name;
      body = p.body;
      hops = p.hops;
      due = p.due;
      limits = limits_kept (record part { head = head }) (record { recipients = l.recipients; short = l.short; sender = l.sender; attributes = l.attributes; error = l.error; head = short; body = l.body });
    }

pub part_with_error : (mail part : Mail) (text : List ℕ) → IsPart mail part → length text ≤ 1_000 → IsPart mail (record part { error = text })
part_with_error mail part text p short =
    let l = limits_of part p.limits in
    record {
      name = p.name;
      body = p.body;
      hops = p.hops;
      due = p.due;
      limits = limits_kept (record part { error = text }) (record { recipients = l.recipients; short = l.short; sender = l.sender; attributes = l.attributes; error = of_le (length text) MAX_ERROR short; head = l.head; body = l.body });
    }

pub restricted_part : (mail part : Mail) (rs : List Mailbox) → IsPart mail part → has_recipients rs ≡ true → list_all is_short rs ≡ true → IsPart mail (restrict part rs)
restricted_part mail part rs p some short =
    let l = limits_of part p.limits in
    record {
      name = p.name;
      body = p.body;
      hops = p.hops;
      due = p.due;
      limits = limits_kept (restrict part rs) (record { recipients = some; short = short; sender = l.sender; attributes = l.attributes; error = l.error; head = l.head; body = l.body });
    }

-- the different ones of one to 500 addresses are one to 500
distinct_filled : (all : List Mailbox) → has_recipients all ≡ true → has_recipients (distinct all) ≡ true
distinct_filled all some =
    let parts = and_parts (nat_le 1 (length all)) (nat_le (length all) MAX_RECIPIENTS) some in
    let one = some_distinct all (le_of 1 (length all) parts.0) in
    let most = le_of (length all) MAX_RECIPIENTS parts.1 in
    let few = few_distinct all in
    both_true (nat_le 1 (length (distinct all))) (nat_le (length (distinct all)) MAX_RECIPIENTS) (of_le 1 (length (distinct all)) one)
    (of_le (length (distinct all)) MAX_RECIPIENTS (omega (arith, few, most)))

mapped_filled : (f : Mailbox → Mailbox) (all : List Mailbox) → has_recipients all ≡ true → has_recipients (map f all) ≡ true
mapped_filled f all some = ap (λ n. nat_le 1 n && nat_le n MAX_RECIPIENTS) (length-map all f) ∙ some

-- ---- Facts and children

pub nothing_lawful : (plan : Plan) (mail : Mail) → IsLawful plan mail nothing
nothing_lawful plan mail = record { children = tt; facts = tt }

pub named_lawful : (plan : Plan) (mail : Mail) (fact : Fact) → is_storable fact ≡ true → HasOwnBody mail.body fact → IsLawful plan mail (one_fact fact)
named_lawful plan mail fact storable own = record { children = tt; facts = (record { storable = storable; own = own }, tt) }

deposit_kept : (mail part : Mail) (path : List ℕ) → IsPart mail part → IsKept mail (deposit path part)
deposit_kept mail part path p =
    let l = limits_of part p.limits in
    record {
      storable =
          both_true (has_recipients part.recipients) (nat_le (length (written part.head)) MAX_HEAD && is_small_body (body_len part.body)) l.recipients
          (both_true (nat_le (length (written part.head)) MAX_HEAD) (is_small_body (body_len part.body)) l.head l.body);
      own = subst (λ body. IsOwnBody mail.body body) (sym p.body) (own_body mail.body);
    }

deliveries_kept : (mail part : Mail) (rs : List Mailbox) → IsPart mail part → list_all is_short rs ≡ true → AllByRecursion (IsKept mail) (map (delivered part) rs)
deliveries_kept mail part [] p short = tt
deliveries_kept mail part (r ∷ rs) p short =
    let each = and_parts (is_short r) (list_all is_short rs) short in (
      deposit_kept mail (restrict part (r ∷ [])) _ (restricted_part mail part (r ∷ []) p refl (both_true (is_short r) true each.0 refl)),
      deliveries_kept mail part rs p each.1,
    )

-- ---- Services

pub formed_mappings : (plan : Plan) → IsSound plan → list_all is_mapping plan.mappings ≡ true
formed_mappings plan sound = (and_parts (nat_le (length plan.mappings) 1_000) (list_all is_mapping plan.mappings) sound.mappings).1

abbrev pub IsTarget : Plan → List ℕ → Type 0
IsTarget plan state = is_target (names_of plan.processors) state ≡ true

abbrev pub IsMailet : Plan → MailetKind → Type 0
IsMailet plan kind = is_mailet (names_of plan.processors) kind ≡ true

-- where the mailet is a remote delivery, the plan has one of its name
abbrev pub has_delivery : Plan → MailetKind → Bool
has_delivery plan kind = option_map_or (names_delivery plan) (outgoing_of kind) true

abbrev pub HasDelivery : Plan → MailetKind → Type 0
HasDelivery plan kind = has_delivery plan kind ≡ true

abbrev pub IsOnward : Plan → Mail → Onward → Type 0
IsOnward plan mail (GoOn part) = IsPart mail part
IsOnward plan mail (Leave part state) = IsPart mail part × IsTarget plan state
IsOnward plan mail End = Unit {0}

abbrev pub IsService : Plan → Mail → Result Served Unserved → Type 0
IsService plan mail (Ok served) = IsLawful plan mail (record { facts = served.facts; children = served.children }) × IsOnward plan mail served.onward
IsService plan mail (Err unserved) = IsPart mail unserved.mail × (length unserved.text ≤ 700)

module _ (plan : Plan) (sound : IsSound plan) (mail : Mail) where
  going : (part : Mail) → IsPart mail part → IsService plan mail (goes (GoOn part))
  going part p = (nothing_lawful plan mail, p)

  passing : (part : Mail) (pass_through : Bool) → IsPart mail part → IsOnward plan mail (passed pass_through part)
  passing part true p = p
  passing part false p = tt

  set_by : (part : Mail) (attributes : List (List ℕ × List ℕ)) (b : Bool) → nat_le (length attributes) MAX_ATTRIBUTES ≡ b → IsPart mail part → list_all is_attribute attributes ≡ true
      → IsService plan mail (if b then goes (GoOn (record part { attributes = attributes })) else fails (codes "TooManyAttributes") part)
  set_by part attributes true e p formed = going (record part { attributes = attributes }) (part_with_attributes mail part attributes p (both_true (nat_le (length attributes) MAX_ATTRIBUTES) (list_all is_attribute attributes) e formed))
  set_by part attributes false e p formed = (p, omega arith)

  headed_by : (part : Mail) (head : List RawField) (b : Bool) → nat_le (length (written head)) MAX_HEAD ≡ b → IsPart mail part
      → IsService plan mail (if b then goes (GoOn (record part { head = head })) else fails (codes "HeadTooLong") part)
  headed_by part head true e p = going (record part { head = head }) (part_with_head mail part head p e)
  headed_by part head false e p = (p, omega arith)

  headed : (part : Mail) (head : List RawField) → IsPart mail part → IsService plan mail (if nat_le (length (written head)) MAX_HEAD then goes (GoOn (record part { head = head })) else fails (codes "HeadTooLong") part)
  headed part head p = headed_by part head (nat_le (length (written head)) MAX_HEAD) refl p

  formed_attributes : (part : Mail) → IsPart mail part → list_all is_attribute part.attributes ≡ true
  formed_attributes part p = (and_parts (nat_le (length part.attributes) MAX_ATTRIBUTES) (list_all is_attribute part.attributes) (limits_of part p.limits).attributes).1

  fewer_attributes : (part : Mail) (names : List (List ℕ)) → IsPart mail part → are_attributes (without_each names part.attributes) ≡ true
  fewer_attributes part names p =
      let parts = and_parts (nat_le (length part.attributes) MAX_ATTRIBUTES) (list_all is_attribute part.attributes) (limits_of part p.limits).attributes in
      let few = removed_fewer names part.attributes in
      let most = le_of (length part.attributes) MAX_ATTRIBUTES parts.0 in
      both_true (nat_le (length (without_each names part.attributes)) MAX_ATTRIBUTES) (list_all is_attribute (without_each names part.attributes))
      (of_le (length (without_each names part.attributes)) MAX_ATTRIBUTES (omega (arith, few, most))) (removed_formed names part.attributes parts.1)

  shorter_head : (part : Mail) (names : List (List ℕ)) → IsPart mail part → nat_le (length (written (without_fields names part.head))) MAX_HEAD ≡ true
  shorter_head part names p =
      let few = fields_shorter names part.head in
      let most = le_of (length (written part.head)) MAX_HEAD (limits_of part p.limits).head in
      of_le (length (written (without_fields names part.head))) MAX_HEAD (omega (arith, few, most))

  renamed : (f : Mailbox → Mailbox) → ((r : Mailbox) → is_short r ≡ true → is_short (f r) ≡ true) → (part : Mail) → IsPart mail part
      → IsService plan mail (goes (GoOn (restrict part (distinct (map f part.recipients)))))
  renamed f keeps part p =
      let l = limits_of part p.limits in
      let changed = map f part.recipients in
      going (restrict part (distinct changed))
      (restricted_part mail part (distinct changed) p (distinct_filled changed (mapped_filled f part.recipients l.recipients)) (distinct_short changed (mapped_short f keeps part.recipients l.short)))

  alias_by : (r : Mailbox) (b : Bool) → is_short r ≡ true → is_short (if b then plan.postmaster else r) ≡ true
  alias_by r true short = sound.postmaster
  alias_by r false short = short

  alias_short : (r : Mailbox) → is_short r ≡ true → is_short (postmaster_alias plan r) ≡ true
  alias_short r short = alias_by r (same_text (codes "postmaster") r.0 && is_host_of plan.local_hosts r.1) short

  some_recipients : (part : Mail) → IsPart mail part → 1 ≤ length part.recipients
  some_recipients part p =
      le_of 1 (length part.recipients) (and_parts (nat_le 1 (length part.recipients)) (nat_le (length part.recipients) MAX_RECIPIENTS) (limits_of part p.limits).recipients).0

  rewritten_by : (part : Mail) (r : Expanded) → AreRewritten plan.mappings (formed_mappings plan sound) r → AreShort r → IsPart mail part → IsService plan mail (with_rewritten part r)
  rewritten_by part (Ok recipients) some short p = going (restrict part recipients) (restricted_part mail part recipients p some short)
  rewritten_by part (Err fault) said short p = (p, said)

  -- a copy for others is sent to `root`
  forwarded_sent : (part : Mail) (to : List Mailbox) → IsPart mail part → has_recipients to ≡ true → list_all is_short to ≡ true → IsSent plan mail (forwarded to part)
  forwarded_sent part to p some short =
      let l = limits_of part p.limits in
      record {
        ahead = sound.root;
        name = p.name;
        body = subst (λ body. IsOwnBody mail.body body) (sym p.body) (own_body mail.body);
        hops = ap (λ h. h + 1) p.hops;
        due = p.due;
        limits = limits_kept (forwarded to part) (record { recipients = some; short = short; sender = l.sender; attributes = l.attributes; error = refl; head = l.head; body = l.body });
      }

  -- a notice is sent to `root`
  notice_sent : (part : Mail) (to : Mailbox) (subject body : List ℕ) → IsPart mail part → is_short to ≡ true → length subject ≤ 100 → length body ≤ 16_777_216
      → IsSent plan mail (notice plan part to subject body)
  notice_sent part to subject body p short few small = record {
    ahead = sound.root;
    name = p.name;
    body = tt;
    hops = ap (λ h. h + 1) p.hops;
    due = p.due;
    limits = notice_limits plan part to subject body sound.postmaster short few small;
  }

  head_small : (part : Mail) → IsPart mail part → length (written part.head) ≤ 65_536
  head_small part p = le_of (length (written part.head)) MAX_HEAD (limits_of part p.limits).head

  undelivered_small : (part : Mail) (message : List ℕ) → IsPart mail part → length message ≤ 512 → length (undelivered plan part (failures message part.recipients)) ≤ 16_777_216
  undelivered_small part message p few =
      let l = limits_of part p.limits in
      let most = le_of (length part.recipients) MAX_RECIPIENTS (and_parts (nat_le 1 (length part.recipients)) (nat_le (length part.recipients) MAX_RECIPIENTS) l.recipients).1 in
      undelivered_short plan part message part.recipients sound.host_name (head_small part p) few most l.short

  bounced_lawful : (part : Mail) (pass_through : Bool) (message : List ℕ) (sender : Option Mailbox) → IsPart mail part → length message ≤ 512 → is_short_sender sender ≡ true
      → IsService plan mail (Ok (bounced pass_through part (option_map (λ to. notice plan part to (codes "Undelivered mail returned to sender") (undelivered plan part (failures message part.recipients))) sender)))
  bounced_lawful part pass_through message None p few short =
      (record { children = tt; facts = (record { storable = (limits_of part p.limits).recipients; own = tt }, tt) }, passing part pass_through p)
  bounced_lawful part pass_through message (Some sender) p few short = (
    record {
      children = (notice_sent part sender (codes "Undelivered mail returned to sender") (undelivered plan part (failures message part.recipients)) p short (omega arith) (undelivered_small part message p few), tt);
      facts = (record { storable = (limits_of part p.limits).recipients; own = tt }, tt);
    },
    passing part pass_through p,
  )

  notified_lawful : (part : Mail) (pass_through : Bool) → IsPart mail part
      → IsService plan mail (Ok (record { facts = []; children = postmaster_notice plan part ∷ []; onward = passed pass_through part }))
  notified_lawful part pass_through p =
      let error = le_of (length part.error) MAX_ERROR (limits_of part p.limits).error in
      let small = troubled_short plan part sound.host_name (head_small part p) error in (
        record { children = (notice_sent part plan.postmaster (codes "Notice to the postmaster") (troubled plan part) p sound.postmaster (omega arith) small, tt); facts = tt },
        passing part pass_through p,
      )

  -- a mail for some of the recipients is sent to a host
  sent_out_sent : (part : Mail) (outgoing host : List ℕ) (rs : List Mailbox) → IsPart mail part → names_delivery plan outgoing ≡ true → has_recipients rs ≡ true → list_all is_short rs ≡ true
      → IsSent plan mail (sent_out outgoing host rs part)
  sent_out_sent part outgoing host rs p named some short = record {
    ahead = (named, refl);
    name = p.name;
    body = subst (λ body. IsOwnBody mail.body body) (sym p.body) (own_body mail.body);
    hops = ap (λ h. h + 1) p.hops;
    due = p.due;
    limits = (restricted_part mail part rs p some short).limits;
  }

  few_recipients : (part : Mail) → IsPart mail part → length part.recipients ≤ 500
  few_recipients part p =
      le_of (length part.recipients) MAX_RECIPIENTS (and_parts (nat_le 1 (length part.recipients)) (nat_le (length part.recipients) MAX_RECIPIENTS) (limits_of part p.limits).recipients).1

  deliveries_sent : (outgoing : List ℕ) (gateway : Option (List ℕ)) (part : Mail) → IsPart mail part → names_delivery plan outgoing ≡ true
      → AllByRecursion (IsSent plan mail) (deliveries outgoing gateway part)
  deliveries_sent outgoing (Some gateway) part p named =
      let l = limits_of part p.limits in (sent_out_sent part outgoing gateway part.recipients p named l.recipients l.short, tt)
  deliveries_sent outgoing None part p named =
      all_mapped (λ group. IsGroup group.1) (IsSent plan mail) (λ group. sent_out outgoing group.0 group.1 part)
      (λ group some. sent_out_sent part outgoing group.0 group.1 p named some.0 some.1) (by_domain part.recipients)
      (domain_groups part.recipients (few_recipients part p) (limits_of part p.limits).short)

  pub serve_lawful : (kind : MailetKind) (part : Mail) → IsPart mail part → IsMailet plan kind → HasDelivery plan kind → IsService plan mail (serve plan kind part)
  serve_lawful (mailet.ToProcessor processor) part p h d = (nothing_lawful plan mail, (p, h))
  serve_lawful mailet.Null part p h d = (nothing_lawful plan mail, (p, refl))
  serve_lawful (mailet.SetMailAttribute attributes) part p h d =
      let formed = (and_parts (has_items 100 attributes) (list_all is_set attributes) (and_parts (are_items is_set attributes) (ascends attributes) h).0).1 in
      let new = with_each attributes part.attributes in
      set_by part new (nat_le (length new) MAX_ATTRIBUTES) refl p (put_each attributes part.attributes formed (formed_attributes part p))
  serve_lawful (mailet.RemoveMailAttribute names) part p h d =
      going (record part { attributes = without_each names part.attributes }) (part_with_attributes mail part (without_each names part.attributes) p (fewer_attributes part names p))
  serve_lawful mailet.RemoveAllMailAttributes part p h d = going (record part { attributes = [] }) (part_with_attributes mail part [] p refl)
  serve_lawful (mailet.SetMimeHeader name value) part p h d = headed part (part.head ++ field_of name value ∷ []) p
  serve_lawful (mailet.RemoveMimeHeader names) part p h d =
      going (record part { head = without_fields names part.head }) (part_with_head mail part (without_fields names part.head) p (shorter_head part names p))
  serve_lawful (mailet.MailAttributesToMimeHeaders mapping) part p h d = headed part (part.head ++ fields_from mapping part.attributes) p
  serve_lawful (mailet.AddSubjectPrefix prefix) part p h d = headed part (with_prefix prefix part.head) p
  serve_lawful mailet.RecipientToLowerCase part p h d = renamed with_lower_local lower_short part p
  serve_lawful mailet.PostmasterAlias part p h d = renamed (postmaster_alias plan) alias_short part p
  serve_lawful mailet.RecipientRewriteTable part p h d =
      let formed = formed_mappings plan sound in
      rewritten_by part (rewritten plan.mappings part.recipients) (are_rewritten plan.mappings formed part.recipients (some_recipients part p))
      (rewritten_short plan.mappings formed part.recipients (limits_of part p.limits).short) p
  serve_lawful (mailet.Forward to pass_through) part p h d =
      let formed = and_parts (has_items 500 to) (list_all is_short to) h in (
        record { children = (forwarded_sent part (distinct to) p (distinct_filled to formed.0) (distinct_short to formed.1), tt); facts = tt },
        passing part pass_through p,
      )
  serve_lawful (mailet.Bounce message pass_through) part p h d =
      bounced_lawful part pass_through message part.sender p (shorter is_printable 1 512 message h) (limits_of part p.limits).sender
  serve_lawful (mailet.NotifyPostmaster pass_through) part p h d = notified_lawful part pass_through p
  serve_lawful mailet.LocalDelivery part p h d = (record { children = tt; facts = deliveries_kept mail part part.recipients p (limits_of part p.limits).short }, tt)
  serve_lawful (mailet.ToRepository path pass_through) part p h d =
      (record { children = tt; facts = (deposit_kept mail part path p, tt) }, passing part pass_through p)
  serve_lawful (mailet.RemoteDelivery outgoing schedule gateway bounce_processor) part p h d = (record { children = deliveries_sent outgoing gateway part p d; facts = tt }, tt)
  serve_lawful (mailet.Fail text) part p h d = let short = shorter is_printable 1 512 text h in (p, omega (arith, short))
