-- No mail vanishes in a processor: a step has a fact or a mail.
use Rattle.std.proofs.Common.{◌≡◌, ◌∙◌, ℕ, ◌+◌, ◌≤◌, Bool, true, false, not, List, [], ◌∷◌, ◌++◌, length, map, refl, sym, ap, arith, length-append, Option, Some, None, Ok, Err}
use Rattle.std.specs.Prelude.{nat_le, ◌||◌, if◌then◌else◌, codes, filter}
use Rattle.std.specs.List.{list_all, list_any}
use Rattle.std.specs.Str.{bytes_eq}
use Rattle.std.proofs.lemmas.Bool.{and_parts}
use Rattle.std.proofs.lemmas.List.{length-map}
use Rattle.mj_address.specs.Same.{distinct, with_lower_local}
use Rattle.mj_head.specs.Head.{RawField, written}
use Rattle.mj_mail.specs.declared.attributes.TheConstants.{MAX_ATTRIBUTES}
use Rattle.mj_mail.specs.declared.limits.TheConstants.{MAX_HEAD, MAX_RECIPIENTS}
use Rattle.mj_mail.specs.declared.fact.Fact.TheVariants as fact
use Rattle.mj_mail.specs.declared.fact.Fact.TheVariants.{Dropped, Looped}
use Rattle.mj_mail.specs.declared.fact.Outcome.{Outcome}
use Rattle.mj_mail.specs.declared.fact.Why.TheVariants.{Discarded, NoReturnPath}
use Rattle.mj_mail.specs.declared.mail.Mail.{Mail}
use Rattle.mj_mail.specs.declared.mail.Stage.TheVariants.{Process}
use Rattle.mj_mail.specs.declared.reply.Reply.{Reply}
use Rattle.mj_mail.specs.Mail.{restrict}
use Rattle.mj_mail.specs.Outcome.{both, one_child, one_fact}
use Rattle.mj_groups.specs.Groups.{different, having}
use Rattle.mj_plan.specs.declared.mailet.MailetKind.{MailetKind}
use Rattle.mj_plan.specs.declared.mailet.MailetKind.TheVariants as mailet
use Rattle.mj_plan.specs.declared.plan.MailetRoute.{MailetRoute}
use Rattle.mj_plan.specs.declared.plan.MailetRoute.TheVariants as on_mailet
use Rattle.mj_plan.specs.declared.plan.Plan.{Plan}
use Rattle.mj_plan.specs.declared.plan.Processor.{Processor}
use Rattle.mj_plan.specs.declared.plan.Step.{Step}
use Rattle.mj_plan.specs.Lookups.{processor_named}
use Rattle.mj_plan.specs.Sound.{is_mapping, names_of}
use Rattle.mj_container.specs.declared.service.Onward.TheVariants.{GoOn}
use Rattle.mj_container.specs.declared.service.Unserved.{Unserved}
use Rattle.mj_terms.specs.Text.{same_text}
use Rattle.mj_container.specs.Changes.{field_of, fields_from, postmaster_alias, with_each, with_prefix, without_each, without_fields}
use Rattle.mj_container.specs.Expansion.{Expanded, fault_text, rewritten}
use Rattle.mj_container.specs.Matching.{Mailbox}
use Rattle.mj_container.specs.Running.{drafts, failed, failed_at, gone, part, parted, run, run_in, served, settled, split}
use Rattle.mj_container.specs.Notices.{bounce_of, failures, postmaster_notice}
use Rattle.mj_container.specs.Serving.{bounced, by_domain, delivered, deliveries, deposit, fails, forwarded, ghost_state, goes, leave, passed, sent_out, sent_to, serve, with_head, with_rewritten}
use Rattle.mj_container.specs.Sound.{names_processor}
use Rattle.mj_container.specs.Verdict.{Verdict, Leaves, Takes, verdict}
use Rattle.mj_container.proofs.Changes.{some_distinct}
use Rattle.mj_container.proofs.Expansions.{AreRewritten, are_rewritten}
use Rattle.mj_container.proofs.Facts.{le_of, same_bytes}
use Rattle.mj_container.proofs.Groups.{some_different}

abbrev pub parts_of : Outcome → ℕ
parts_of outcome = length outcome.facts + length outcome.children

both_some : (a b : Outcome) → 1 ≤ parts_of a → 1 ≤ parts_of (both a b)
both_some a b some = let e = length-append a.facts b.facts in let f = length-append a.children b.children in omega arith

leave_some_by : (state : List ℕ) (mail : Mail) (b : Bool) → 1 ≤ parts_of (if b then one_fact (Dropped Discarded mail.recipients) else one_child (sent_to state mail))
leave_some_by state mail true = omega arith
leave_some_by state mail false = omega arith

leave_some : (state : List ℕ) (mail : Mail) → 1 ≤ parts_of (leave state mail)
leave_some state mail = leave_some_by state mail (bytes_eq state ghost_state)

-- there is a mail to one host at least
some_deliveries : (outgoing : List ℕ) (gateway : Option (List ℕ)) (mail : Mail) → 1 ≤ length mail.recipients → 1 ≤ length (deliveries outgoing gateway mail)
some_deliveries outgoing (Some gateway) mail some = omega arith
some_deliveries outgoing None mail some =
    let pair_of : Mailbox → List ℕ × Mailbox = λ r. (r.1, r) in
    let domain_of : List ℕ × Mailbox → List ℕ = λ pair. pair.0 in
    let pairs = map pair_of mail.recipients in
    let domains = map domain_of pairs in
    let group_of : List ℕ → List ℕ × List Mailbox = λ domain. (domain, having same_text domain pairs) in
    let mail_of : List ℕ × List Mailbox → Mail = λ group. sent_out outgoing group.0 group.1 mail in
    let e1 = length-map mail.recipients pair_of in
    let e2 = length-map pairs domain_of in
    let e3 = length-map (different same_text domains) group_of in
    let e4 = length-map (by_domain mail.recipients) mail_of in
    omega (arith, e3, e4, some_different same_text domains (omega (arith, e1, e2, some)))

module _ (plan : Plan) (formed : list_all is_mapping plan.mappings ≡ true) (name : List ℕ) (number : ℕ) (on : Mail → Outcome)
    (on_some : (mail : Mail) → 1 ≤ length mail.recipients → 1 ≤ parts_of (on mail)) where
  failed_some : (route : MailetRoute) (unserved : Unserved) → 1 ≤ length unserved.mail.recipients → 1 ≤ parts_of (failed route name number on unserved)
  failed_some on_mailet.Ignore unserved some = on_some unserved.mail some
  failed_some (on_mailet.To state) unserved some = leave_some state (record unserved.mail { error = failed_at name number unserved.text })

  -- a mail that goes on changed, or fails
  changed_some : (route : MailetRoute) (mail next : Mail) (text : List ℕ) (b : Bool) → 1 ≤ length mail.recipients → 1 ≤ length next.recipients
      → 1 ≤ parts_of (settled route name number on (if b then goes (GoOn next) else fails text mail))
  changed_some route mail next text true some same = on_some next same
  changed_some route mail next text false some same = failed_some route (record { mail = mail; text = text }) some

  headed_some : (route : MailetRoute) (mail : Mail) (head : List RawField) → 1 ≤ length mail.recipients → 1 ≤ parts_of (settled route name number on (with_head mail head))
  headed_some route mail head some = changed_some route mail (record mail { head = head }) (codes "HeadTooLong") (nat_le (length (written head)) MAX_HEAD) some some

  renamed_some : (f : Mailbox → Mailbox) (mail : Mail) → 1 ≤ length mail.recipients → 1 ≤ parts_of (on (restrict mail (distinct (map f mail.recipients))))
  renamed_some f mail some =
      on_some (restrict mail (distinct (map f mail.recipients))) (some_distinct (map f mail.recipients) (let e = length-map mail.recipients f in omega (arith, e, some)))

  rewritten_some : (route : MailetRoute) (mail : Mail) (r : Expanded) → AreRewritten plan.mappings formed r → 1 ≤ length mail.recipients
      → 1 ≤ parts_of (settled route name number on (with_rewritten mail r))
  rewritten_some route mail (Ok recipients) h some =
      on_some (restrict mail recipients) (le_of 1 (length recipients) (and_parts (nat_le 1 (length recipients)) (nat_le (length recipients) MAX_RECIPIENTS) h).0)
  rewritten_some route mail (Err fault) h some = failed_some route (record { mail = mail; text = fault_text fault }) some

  bounced_some : (route : MailetRoute) (pass_through : Bool) (mail : Mail) (notice : Option Mail) → 1 ≤ parts_of (settled route name number on (Ok (bounced pass_through mail notice)))
  bounced_some route pass_through mail (Some notice) = let e = length-append (fact.Bounce mail.recipients ∷ []) (gone on (passed pass_through mail)).facts in omega (arith, e)
  bounced_some route pass_through mail None = let e = length-append (Dropped NoReturnPath mail.recipients ∷ []) (gone on (passed pass_through mail)).facts in omega (arith, e)

  settled_some : (route : MailetRoute) (kind : MailetKind) (mail : Mail) → 1 ≤ length mail.recipients
      → 1 ≤ parts_of (settled route name number on (serve plan kind mail))
  settled_some route (mailet.ToProcessor processor) mail some = leave_some processor mail
  settled_some route mailet.Null mail some = leave_some ghost_state mail
  settled_some route (mailet.SetMailAttribute attributes) mail some =
      changed_some route mail (record mail { attributes = with_each attributes mail.attributes }) (codes "TooManyAttributes") (nat_le (length (with_each attributes mail.attributes)) MAX_ATTRIBUTES) some some
  settled_some route (mailet.RemoveMailAttribute names) mail some = on_some (record mail { attributes = without_each names mail.attributes }) some
  settled_some route mailet.RemoveAllMailAttributes mail some = on_some (record mail { attributes = [] }) some
  settled_some route (mailet.SetMimeHeader field value) mail some = headed_some route mail (mail.head ++ field_of field value ∷ []) some
  settled_some route (mailet.RemoveMimeHeader names) mail some = on_some (record mail { head = without_fields names mail.head }) some
  settled_some route (mailet.MailAttributesToMimeHeaders mapping) mail some = headed_some route mail (mail.head ++ fields_from mapping mail.attributes) some
  settled_some route (mailet.AddSubjectPrefix prefix) mail some = headed_some route mail (with_prefix prefix mail.head) some
  settled_some route mailet.RecipientToLowerCase mail some = renamed_some with_lower_local mail some
  settled_some route mailet.PostmasterAlias mail some = renamed_some (postmaster_alias plan) mail some
  settled_some route mailet.RecipientRewriteTable mail some =
      rewritten_some route mail (rewritten plan.mappings mail.recipients) (are_rewritten plan.mappings formed mail.recipients some) some
  settled_some route (mailet.Forward to pass_through) mail some =
      let e = length-append (forwarded (distinct to) mail ∷ []) (gone on (passed pass_through mail)).children in omega (arith, e)
  settled_some route (mailet.Bounce message pass_through) mail some = bounced_some route pass_through mail (bounce_of plan mail (failures message mail.recipients))
  settled_some route (mailet.NotifyPostmaster pass_through) mail some =
      let e = length-append (postmaster_notice plan mail ∷ []) (gone on (passed pass_through mail)).children in omega (arith, e)
  settled_some route mailet.LocalDelivery mail some =
      let facts = map (delivered mail) mail.recipients in
      let e = length-append facts [] in
      let f = length-map mail.recipients (delivered mail) in
      omega (arith, e, f, some)
  settled_some route (mailet.ToRepository path pass_through) mail some =
      let e = length-append (deposit path mail ∷ []) (gone on (passed pass_through mail)).facts in omega (arith, e)
  settled_some route (mailet.RemoteDelivery outgoing schedule gateway bounce_processor) mail some =
      let e = length-append (deliveries outgoing gateway mail) [] in omega (arith, e, some_deliveries outgoing gateway mail some)
  settled_some route (mailet.Fail text) mail some = failed_some route (record { mail = mail; text = text }) some

  parted_some : (step : Step) (mail : Mail) (hits others : List Mailbox) → 1 ≤ length mail.recipients
      → 1 ≤ parts_of (parted (served plan name number step on) on mail hits others)
  parted_some step mail [] others some = on_some mail some
  parted_some step mail (r ∷ hits) others some =
      both_some (served plan name number step on (restrict mail (r ∷ hits))) (part on mail others)
      (settled_some step.on_mailet step.mailet (restrict mail (r ∷ hits)) (omega arith))

  split_some : (step : Step) (mail : Mail) (v : Verdict) → 1 ≤ length mail.recipients → 1 ≤ parts_of (split plan name number step on mail v)
  split_some step mail (Leaves state reason) some = leave_some state (record mail { error = failed_at name number reason })
  split_some step mail (Takes test) some = parted_some step mail (filter test mail.recipients) (filter (λ r. not (test r)) mail.recipients) some

run_some : (plan : Plan) → list_all is_mapping plan.mappings ≡ true → (name : List ℕ) (number : ℕ) (steps : List Step) (mail : Mail) → 1 ≤ length mail.recipients
    → 1 ≤ parts_of (run plan name number steps mail)
run_some plan formed name number [] mail some = omega arith
run_some plan formed name number (step ∷ steps) mail some =
    split_some plan formed name number (run plan name (number + 1) steps) (λ m filled. run_some plan formed name (number + 1) steps m filled) step mail (verdict plan step mail) some

-- a processor of this name is found
found_by : (state : List ℕ) (p : Processor) (rest : Option Processor) (b : Bool) → bytes_eq p.name state ≡ b → (b ≡ false → rest ≡ None → ⊥)
    → (if b then Some p else rest) ≡ None → ⊥
found_by state p rest true e later none = cc
found_by state p rest false e later none = later refl none

found : (state : List ℕ) (processors : List Processor) → list_any (bytes_eq state) (names_of processors) ≡ true → processor_named state processors ≡ None → ⊥
found state [] some none = cc
found state (p ∷ processors) some none =
    found_by state p (processor_named state processors) (bytes_eq p.name state) refl
    (λ other. found state processors (sym (ap (λ b. b || list_any (bytes_eq state) (names_of processors)) (same_bytes state p.name ∙ other)) ∙ some)) none

run_in_some : (plan : Plan) → list_all is_mapping plan.mappings ≡ true → (at : Option Processor) (mail : Mail) → 1 ≤ length mail.recipients → (at ≡ None → ⊥) → 1 ≤ parts_of (run_in plan at mail)
run_in_some plan formed None mail some there = absurd (there refl)
run_in_some plan formed (Some p) mail some there = run_some plan formed p.name 1 p.steps mail some

drafts_some_by : (plan : Plan) (at : Option Processor) (mail : Mail) (b : Bool) → 1 ≤ parts_of (run_in plan at mail)
    → 1 ≤ parts_of (if b then one_fact (Looped mail.recipients) else run_in plan at mail)
drafts_some_by plan at mail true some = omega arith
drafts_some_by plan at mail false some = some

pub drafts_some : (plan : Plan) → list_all is_mapping plan.mappings ≡ true → (state : List ℕ) (replies : List Reply) (mail : Mail) → 1 ≤ length mail.recipients → names_processor plan state ≡ true
    → 1 ≤ parts_of (drafts plan (Process state) replies mail)
drafts_some plan formed state replies mail some named =
    let at = processor_named state plan.processors in
    drafts_some_by plan at mail (nat_le plan.max_hops mail.hops) (run_in_some plan formed at mail some (found state plan.processors named))
