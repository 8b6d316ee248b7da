-- What a step of a sound mail under a sound plan gives: facts that keep the limits, and mails that are sent to processors
-- of the plan.
use Rattle.std.proofs.Common.{◌≡◌, ◌∙◌, ℕ, ◌+◌, ◌<◌, ◌≤◌, Bool, true, false, not, List, [], ◌∷◌, ◌++◌, length, refl, sym, ap, subst, arith, length-append, Option, Some, None, Result, Ok, Err, ◌⊎◌, inl, inr}
use Rattle.std.specs.Prelude.{nat_le, ◌&&◌, ◌||◌, if◌then◌else◌, codes, filter}
use Rattle.std.specs.Fmt.{decimal}
use Rattle.std.specs.List.{list_all}
use Rattle.std.specs.Str.{bytes_eq}
use Rattle.std.proofs.lemmas.Bool.{and_parts}
use Rattle.std.proofs.lemmas.Bool.Decides.{nat_tests}
use Rattle.std.proofs.lemmas.Fmt.{length-decimal-le}
use Rattle.mj_address.specs.Short.{is_short}
use Rattle.mj_mail.specs.declared.fact.Fact.TheVariants.{Dropped, FellOff, Looped}
use Rattle.mj_mail.specs.declared.fact.Outcome.{Outcome}
use Rattle.mj_mail.specs.declared.fact.Why.TheVariants.{Discarded}
use Rattle.mj_mail.specs.declared.limits.TheConstants.{MAX_RECIPIENTS}
use Rattle.mj_mail.specs.declared.mail.Mail.{Mail}
use Rattle.mj_mail.specs.declared.mail.Stage.TheVariants.{Process}
use Rattle.mj_mail.specs.declared.reply.Reply.{Reply}
use Rattle.mj_mail.specs.Mail.{restrict}
use Rattle.mj_mail.specs.Outcome.{both, one_child, one_fact}
use Rattle.mj_mail.specs.Rules.{IsOwnBody, has_recipients}
use Rattle.mj_plan.specs.declared.mailet.MailetKind.{MailetKind}
use Rattle.mj_plan.specs.declared.plan.MailetRoute.{MailetRoute}
use Rattle.mj_plan.specs.declared.plan.MailetRoute.TheVariants as on_mailet
use Rattle.mj_plan.specs.declared.plan.MatchRoute.{MatchRoute}
use Rattle.mj_plan.specs.declared.plan.MatchRoute.TheVariants as on_match
use Rattle.mj_plan.specs.declared.plan.Plan.{Plan}
use Rattle.mj_plan.specs.declared.plan.Processor.{Processor}
use Rattle.mj_plan.specs.declared.plan.Step.{Step}
use Rattle.mj_plan.specs.Forms.{is_name_byte, is_processor_name}
use Rattle.mj_plan.specs.Lookups.{processor_named}
use Rattle.mj_plan.specs.Sound.{IsSound, is_mailet, is_mailet_route, is_match_route, is_matcher, is_processor, is_between, is_reserved, is_step, names_of}
use Rattle.mj_container.specs.declared.service.Onward.{Onward}
use Rattle.mj_container.specs.declared.service.Onward.TheVariants.{GoOn, Leave, End}
use Rattle.mj_container.specs.declared.service.Served.{Served}
use Rattle.mj_container.specs.declared.service.Unserved.{Unserved}
use Rattle.mj_container.specs.Matching.{Mailbox, first_failed}
use Rattle.mj_container.specs.Running.{drafts, failed, failed_at, gone, leave_failed, part, parted, run, run_in, served, settled, split}
use Rattle.mj_container.specs.Serving.{ghost_state, leave, sent_to, serve}
use Rattle.mj_container.specs.Sound.{keeps_limits, names_processor}
use Rattle.mj_container.specs.Verdict.{Verdict, Leaves, Takes, by_route, judged, matcher_failed, verdict}
use Rattle.mj_container.proofs.Changes.{all_filtered, fewer}
use Rattle.mj_container.proofs.Deliveries.{all_placed, are_placed}
use Rattle.mj_container.proofs.Facts.{both_true, le_of, limits_of, of_le, processor_passes, shorter}
use Rattle.mj_container.proofs.Groups.{all_append}
use Rattle.mj_container.proofs.Matchers.{few_failed}
use Rattle.mj_container.proofs.Services.{HasDelivery, IsKept, IsLawful, IsMailet, IsOnward, IsPart, IsSent, IsService, IsTarget, has_delivery, is_part, named_lawful, nothing_lawful, own_body, part_with_error, restricted_part, serve_lawful}

-- ---- Texts of failures

failed_short : (name : List ℕ) (number : ℕ) (reason : List ℕ) → length name ≤ 64 → number ≤ 200 → length reason ≤ 700 → length (failed_at name number reason) ≤ 1_000
failed_short name number reason a b c =
    let digits : length (decimal number) ≤ 3 = length-decimal-le 3 number (omega arith) (omega arith) (omega arith) in
    let e1 = length-append (codes "processor ") name in
    let e2 = length-append (codes "processor " ++ name) (codes " step ") in
    let e3 = length-append (codes "processor " ++ name ++ codes " step ") (decimal number) in
    let e4 = length-append (codes "processor " ++ name ++ codes " step " ++ decimal number) (codes ": ") in
    let e5 = length-append (codes "processor " ++ name ++ codes " step " ++ decimal number ++ codes ": ") reason in
    omega arith

matcher_failed_short : (condition : ℕ) → condition ≤ 100 → length (matcher_failed condition) ≤ 700
matcher_failed_short condition h =
    let digits : length (decimal condition) ≤ 3 = length-decimal-le 3 condition (omega arith) (omega arith) (omega arith) in
    let e = length-append (codes "matcher failed at condition ") (decimal condition) in
    omega arith

-- ---- What becomes of a part

module _ (plan : Plan) (sound : IsSound plan) (mail : Mail) where
  both_lawful : (a b : Outcome) → IsLawful plan mail a → IsLawful plan mail b → IsLawful plan mail (both a b)
  both_lawful a b la lb = record {
    children = all_append (IsSent plan mail) a.children b.children la.children lb.children;
    facts = all_append (IsKept mail) a.facts b.facts la.facts lb.facts;
  }

  -- the mailet is one of the plan's
  abbrev IsServed : MailetKind → Type 0
  IsServed kind = IsMailet plan kind × HasDelivery plan kind

  -- ---- Leaving

  leave_lawful_by : (state : List ℕ) (part : Mail) (b : Bool) → IsPart mail part → bytes_eq state ghost_state ≡ b → IsTarget plan state
      → IsLawful plan mail (if b then one_fact (Dropped Discarded part.recipients) else one_child (sent_to state part))
  leave_lawful_by state part true p e target = named_lawful plan mail (Dropped Discarded part.recipients) (limits_of part p.limits).recipients tt
  leave_lawful_by state part false p e target = record {
    children = (
      record {
        ahead = sym (ap (λ b. b || names_processor plan state) e) ∙ target;
        name = p.name;
        body = subst (λ body. IsOwnBody mail.body body) (sym p.body) (own_body mail.body);
        hops = ap (λ h. h + 1) p.hops;
        due = p.due;
        limits = p.limits;
      },
      tt,
    );
    facts = tt;
  }

  leave_lawful : (state : List ℕ) (part : Mail) → IsPart mail part → IsTarget plan state → IsLawful plan mail (leave state part)
  leave_lawful state part p target = leave_lawful_by state part (bytes_eq state ghost_state) p refl target

  filled : (whole : Mail) (r : Mailbox) (rs : List Mailbox) → IsPart mail whole → length (r ∷ rs) ≤ length whole.recipients → has_recipients (r ∷ rs) ≡ true
  filled whole r rs p fewer =
      let l = limits_of whole p.limits in
      let all = le_of (length whole.recipients) MAX_RECIPIENTS (and_parts (nat_le 1 (length whole.recipients)) (nat_le (length whole.recipients) MAX_RECIPIENTS) l.recipients).1 in
      both_true (nat_le 1 (length (r ∷ rs))) (nat_le (length (r ∷ rs)) MAX_RECIPIENTS) (of_le 1 (length (r ∷ rs)) (omega arith)) (of_le (length (r ∷ rs)) MAX_RECIPIENTS (omega arith))

  module _ (name : List ℕ) (named : length name ≤ 64) where
    leave_failed_lawful : (number : ℕ) (reason state : List ℕ) (part : Mail) → number ≤ 200 → length reason ≤ 700 → IsPart mail part → IsTarget plan state
        → IsLawful plan mail (leave_failed name number reason state part)
    leave_failed_lawful number reason state part few short p target =
        leave_lawful state (record part { error = failed_at name number reason }) (part_with_error mail part (failed_at name number reason) p (failed_short name number reason named few short)) target

    module _ (number : ℕ) (few : number ≤ 200) (on : Mail → Outcome) (on_lawful : (part : Mail) → IsPart mail part → IsLawful plan mail (on part)) where
      gone_lawful : (onward : Onward) → IsOnward plan mail onward → IsLawful plan mail (gone on onward)
      gone_lawful (GoOn part) h = on_lawful part h
      gone_lawful (Leave part state) h = leave_lawful state part h.0 h.1
      gone_lawful End h = nothing_lawful plan mail

      failed_lawful : (route : MailetRoute) (unserved : Unserved) → is_mailet_route (names_of plan.processors) route ≡ true → IsPart mail unserved.mail → length unserved.text ≤ 700
          → IsLawful plan mail (failed route name number on unserved)
      failed_lawful on_mailet.Ignore unserved r p short = on_lawful unserved.mail p
      failed_lawful (on_mailet.To state) unserved r p short = leave_failed_lawful number unserved.text state unserved.mail few short p r

      settled_lawful : (route : MailetRoute) (service : Result Served Unserved) → is_mailet_route (names_of plan.processors) route ≡ true → IsService plan mail service
          → IsLawful plan mail (settled route name number on service)
      settled_lawful route (Ok served) r h = both_lawful (record { facts = served.facts; children = served.children }) (gone on served.onward) h.0 (gone_lawful served.onward h.1)
      settled_lawful route (Err unserved) r h = failed_lawful route unserved r h.0 h.1

      -- ---- A mail that is split

      part_lawful : (whole : Mail) (rs : List Mailbox) → IsPart mail whole → length rs ≤ length whole.recipients → list_all is_short rs ≡ true → IsLawful plan mail (part on whole rs)
      part_lawful whole [] p fewer short = nothing_lawful plan mail
      part_lawful whole (r ∷ rs) p fewer short = on_lawful (restrict whole (r ∷ rs)) (restricted_part mail whole (r ∷ rs) p (filled whole r rs p fewer) short)

      served_lawful : (step : Step) (whole : Mail) → IsPart mail whole → IsServed step.mailet → is_mailet_route (names_of plan.processors) step.on_mailet ≡ true
          → IsLawful plan mail (served plan name number step on whole)
      served_lawful step whole p m r = settled_lawful step.on_mailet (serve plan step.mailet whole) r (serve_lawful plan sound mail step.mailet whole p m.0 m.1)

      parted_lawful : (step : Step) (whole : Mail) (hits others : List Mailbox) → IsPart mail whole → IsServed step.mailet → is_mailet_route (names_of plan.processors) step.on_mailet ≡ true
          → length hits ≤ length whole.recipients → length others ≤ length whole.recipients → list_all is_short hits ≡ true → list_all is_short others ≡ true
          → IsLawful plan mail (parted (served plan name number step on) on whole hits others)
      parted_lawful step whole [] others p m r fewer_hits fewer_others short_hits short_others = on_lawful whole p
      parted_lawful step whole (q ∷ hits) others p m r fewer_hits fewer_others short_hits short_others =
          both_lawful (served plan name number step on (restrict whole (q ∷ hits))) (part on whole others)
          (served_lawful step (restrict whole (q ∷ hits)) (restricted_part mail whole (q ∷ hits) p (filled whole q hits p fewer_hits) short_hits) m r)
          (part_lawful whole others p fewer_others short_others)

      -- a verdict sends a mail to a processor of the plan alone, and says why in a short text
      abbrev IsVerdict : Verdict → Type 0
      IsVerdict (Leaves state reason) = IsTarget plan state × (length reason ≤ 700)
      IsVerdict (Takes test) = Unit {0}

      split_lawful : (step : Step) (whole : Mail) (v : Verdict) → IsPart mail whole → IsServed step.mailet → is_mailet_route (names_of plan.processors) step.on_mailet ≡ true → IsVerdict v
          → IsLawful plan mail (split plan name number step on whole v)
      split_lawful step whole (Leaves state reason) p m r v = leave_failed_lawful number reason state whole few v.1 p v.0
      split_lawful step whole (Takes test) p m r v =
          let short = (limits_of whole p.limits).short in
          parted_lawful step whole (filter test whole.recipients) (filter (λ q. not (test q)) whole.recipients) p m r
          (fewer test whole.recipients) (fewer (λ q. not (test q)) whole.recipients)
          (all_filtered is_short test whole.recipients short) (all_filtered is_short (λ q. not (test q)) whole.recipients short)

      routed : (route : MatchRoute) (condition : ℕ) → condition ≤ 100 → is_match_route (names_of plan.processors) route ≡ true → IsVerdict (by_route route condition)
      routed on_match.NoMatch condition few r = tt
      routed on_match.MatchAll condition few r = tt
      routed (on_match.To state) condition few r = (r, matcher_failed_short condition few)

      judged_lawful : (step : Step) (whole : Mail) (found : Option ℕ) → ((k : ℕ) → found ≡ Some k → k ≤ 100) → is_match_route (names_of plan.processors) step.on_match ≡ true
          → IsVerdict (judged plan step whole found)
      judged_lawful step whole None small r = tt
      judged_lawful step whole (Some condition) small r = routed step.on_match condition (small condition refl) r

      stepped_lawful : (step : Step) (whole : Mail) → IsPart mail whole → is_step (names_of plan.processors) step ≡ true → HasDelivery plan step.mailet
          → IsLawful plan mail (split plan name number step on whole (verdict plan step whole))
      stepped_lawful step whole p h d =
          let names = names_of plan.processors in
          let front = is_matcher step.matcher && is_match_route names step.on_match in
          let all = and_parts (front && is_mailet names step.mailet) (is_mailet_route names step.on_mailet) h in
          let most = and_parts front (is_mailet names step.mailet) all.0 in
          let first = and_parts (is_matcher step.matcher) (is_match_route names step.on_match) most.0 in
          split_lawful step whole (verdict plan step whole) p (most.1, d) all.1
          (judged_lawful step whole (first_failed whole step.matcher) (λ k e. few_failed whole step.matcher k first.0 e) first.1)

    run_lawful : (number : ℕ) (steps : List Step) (whole : Mail) → number + length steps ≤ 201 → list_all (is_step (names_of plan.processors)) steps ≡ true
        → list_all (λ step. has_delivery plan step.mailet) steps ≡ true → IsPart mail whole
        → IsLawful plan mail (run plan name number steps whole)
    run_lawful number [] whole few h d p = named_lawful plan mail (FellOff name whole.recipients) (limits_of whole p.limits).recipients tt
    run_lawful number (step ∷ steps) whole few h d p =
        let all = and_parts (is_step (names_of plan.processors) step) (list_all (is_step (names_of plan.processors)) steps) h in
        let placed = and_parts (has_delivery plan step.mailet) (list_all (λ step. has_delivery plan step.mailet) steps) d in
        stepped_lawful number (omega arith) (run plan name (number + 1) steps)
        (λ part q. run_lawful (number + 1) steps part (omega arith) all.1 placed.1 q) step whole p all.0 placed.0

  run_in_lawful : (found : Option Processor) → keeps_limits mail ≡ true → ((p : Processor) → found ≡ Some p → is_processor (names_of plan.processors) p ≡ true)
      → ((p : Processor) → found ≡ Some p → are_placed plan p ≡ true) → IsLawful plan mail (run_in plan found mail)
  run_in_lawful None limits formed placed = nothing_lawful plan mail
  run_in_lawful (Some p) limits formed placed =
      let names = names_of plan.processors in
      let called = is_processor_name p.name && not (is_reserved p.name) in
      let all = and_parts (called && nat_le (length p.steps) 200) (list_all (is_step names) p.steps) (formed p refl) in
      let front = and_parts called (nat_le (length p.steps) 200) all.0 in
      let named = shorter is_name_byte 1 64 p.name (and_parts (is_processor_name p.name) (not (is_reserved p.name)) front.0).0 in
      let few = le_of (length p.steps) 200 front.1 in
      run_lawful p.name named 1 p.steps mail (omega arith) all.1 (placed p refl) (is_part mail limits)

  drafts_lawful_by : (state : List ℕ) → keeps_limits mail ≡ true → (b : Bool)
      → IsLawful plan mail (if b then one_fact (Looped mail.recipients) else run_in plan (processor_named state plan.processors) mail)
  drafts_lawful_by state limits true = named_lawful plan mail (Looped mail.recipients) (limits_of mail limits).recipients tt
  drafts_lawful_by state limits false =
      run_in_lawful (processor_named state plan.processors) limits
      (λ p found. processor_passes (is_processor (names_of plan.processors)) state plan.processors p found sound.processors)
      (λ p found. processor_passes (are_placed plan) state plan.processors p found (all_placed plan))

  -- what a processor makes of a mail
  pub drafts_lawful : (state : List ℕ) (replies : List Reply) → keeps_limits mail ≡ true → IsLawful plan mail (drafts plan (Process state) replies mail)
  drafts_lawful state replies limits = drafts_lawful_by state limits (nat_le plan.max_hops mail.hops)

-- ---- Only a mail with fewer hops than the plan allows has children

young_of : (most hops : ℕ) → is_between 1 1_000 most ≡ true → nat_le most hops ≡ false → hops < 1_000
young_of most hops few more =
    let within = (and_parts (nat_le 1 most) (nat_le most 1_000) few).1 in
    grind (arith, nat_tests, within, more)

-- it has no children, or so few hops
abbrev pub IsYoung : Mail → Outcome → Type 0
IsYoung mail outcome = (outcome.children ≡ []) ⊎ (mail.hops < 1_000)

drafts_young_by : (plan : Plan) (state : List ℕ) (mail : Mail) → IsSound plan → (b : Bool) → nat_le plan.max_hops mail.hops ≡ b
    → IsYoung mail (if b then one_fact (Looped mail.recipients) else run_in plan (processor_named state plan.processors) mail)
drafts_young_by plan state mail sound true e = inl refl
drafts_young_by plan state mail sound false e = inr (young_of plan.max_hops mail.hops sound.max_hops e)

pub drafts_young : (plan : Plan) (state : List ℕ) (replies : List Reply) (mail : Mail) → IsSound plan → IsYoung mail (drafts plan (Process state) replies mail)
drafts_young plan state replies mail sound = drafts_young_by plan state mail sound (nat_le plan.max_hops mail.hops) refl
