-- What becomes of a sound mail by the answers of an attempt: facts that keep the limits, and mails that are sound again and closer
-- to their end. No answer is lost.
use Rattle.std.proofs.Common.{◌≡◌, ◌∙◌, ℕ, zero, suc, ◌+◌, ◌-◌, ◌<◌, ◌≤◌, Bool, true, false, List, [], ◌∷◌, ◌++◌, length, map, refl, sym, ap, subst, arith, length-append, Option, Some, None, slice_get}
use Rattle.std.specs.Prelude.{nat_le, ◌&&◌, ◌||◌, if◌then◌else◌, codes, filter}
use Rattle.std.specs.List.{AllByRecursion, list_all}
use Rattle.std.specs.Option.{option_map, option_map_or}
use Rattle.std.specs.Str.{bytes_eq}
use Rattle.std.proofs.lemmas.Bool.{and_parts}
use Rattle.std.proofs.lemmas.List.{length-map}
use Rattle.std.proofs.lemmas.Option.{slice_get_within}
use Rattle.mj_address.specs.Short.{is_short}
use Rattle.mj_delays.specs.Limits as delay
use Rattle.mj_groups.specs.Groups.{different, having}
use Rattle.mj_head.specs.Head.{written}
use Rattle.mj_mail.specs.declared.fact.Fact.TheVariants.{Dropped}
use Rattle.mj_mail.specs.declared.fact.Outcome.{Outcome}
use Rattle.mj_mail.specs.declared.fact.Why.TheVariants.{Discarded}
use Rattle.mj_mail.specs.declared.failure.Failure.{Failure}
use Rattle.mj_mail.specs.declared.limits.TheConstants.{MAX_HEAD}
use Rattle.mj_mail.specs.declared.mail.Mail.{Mail}
use Rattle.mj_mail.specs.declared.mail.Stage.TheVariants.{Remote}
use Rattle.mj_mail.specs.declared.reply.Class.{Class}
use Rattle.mj_mail.specs.declared.reply.Class.TheVariants.{Success, Transient, Permanent}
use Rattle.mj_mail.specs.declared.reply.Reply.{Reply}
use Rattle.mj_mail.specs.Mail.{root}
use Rattle.mj_mail.specs.Outcome.{both, numbered_child, one_fact}
use Rattle.mj_mail.specs.Reply.{class_of, is_reply, same_reply}
use Rattle.mj_mail.specs.Rules.{has_recipients, is_short_sender}
use Rattle.mj_plan.specs.declared.mailet.MailetKind.{MailetKind}
use Rattle.mj_plan.specs.declared.mailet.MailetKind.TheVariants as mailet
use Rattle.mj_plan.specs.declared.plan.Plan.{Plan}
use Rattle.mj_plan.specs.declared.plan.Processor.{Processor}
use Rattle.mj_plan.specs.declared.plan.Step.{Step}
use Rattle.mj_plan.specs.Lookups.{Delivery, delivery_named}
use Rattle.mj_plan.specs.Sound.{IsSound, is_mailet, is_mailet_route, is_match_route, is_matcher, is_processor, is_schedule, is_step, is_target, names_of}
use Rattle.mj_plan.specs.Forms.{is_processor_name}
use Rattle.mj_container.specs.Matching.{Mailbox}
use Rattle.mj_container.specs.Notices.{notice, undelivered}
use Rattle.mj_container.specs.Serving.{ghost_state}
use Rattle.mj_container.specs.Settling.{Answer, Attempt, attempt_at, attempt_by, bounced, by_reply, failure, given_up, given_up_by, is_given_up, is_served, is_tried_again, put_off, recipients_of, sent, sent_back, served_outcome, settle, those, tried_again, tried_again_after}
use Rattle.mj_container.specs.Sound.{attempt_of, latest, latest_attempt, measure, names_processor}
use Rattle.mj_container.proofs.Children.{IsNext, IsOutcome, next_tried, next_waits}
use Rattle.mj_container.proofs.Deliveries.{delivery_passes, passes}
use Rattle.mj_container.proofs.Facts.{Tried, both_true, le_of, limits_kept, limits_of}
use Rattle.mj_container.proofs.Groups.{IsGroup, all_append, all_mapped, reply_groups, some_different, some_of, tested_fewer, tested_short}
use Rattle.mj_container.proofs.Notices.{IsTold, notice_limits, undelivered_told}
use Rattle.mj_container.proofs.Replies.{replied_attributes, reply_len}
use Rattle.mj_container.proofs.Services.{IsKept, IsTarget, is_part, own_body, restricted_part}

-- ---- An attempt by a remote delivery of a sound plan

-- A sound mail's attempt: a delay follows on each but the hundred and first, and is at most seven days; what is given up is sent to a
-- processor of the plan.
pub record IsAttempt (plan : Plan) (mail : Mail) (attempt : Attempt) : Type 0 where
  pub number : attempt_of mail.stage ≡ attempt.number
  pub tried : Tried plan attempt.delivery attempt.number mail
  pub delay : (d : ℕ) → attempt.delay ≡ Some d → (attempt.number ≤ 100) × (d ≤ 604_800_000)
  pub bounces : (state : List ℕ) → attempt.bounces ≡ Some state → IsTarget plan state

-- what a sound plan says of a remote delivery
abbrev is_delivery : Plan → Delivery → Bool
is_delivery plan found = is_schedule found.0 && option_map_or (is_target (names_of plan.processors)) found.1 true

module _ (plan : Plan) where
  abbrev names : List (List ℕ)
  names = names_of plan.processors

  this_passes : (schedule : List ℕ) (bounces : Option (List ℕ)) (found : Delivery) (b : Bool) → (if b then Some (schedule, bounces) else None) ≡ Some found
      → is_delivery plan (schedule, bounces) ≡ true → is_delivery plan found ≡ true
  this_passes schedule bounces found true e h = let same : (schedule, bounces) ≡ found = cc in subst (λ d. is_delivery plan d ≡ true) same h
  this_passes schedule bounces found false e h = cc

  mailet_passes : (kind : MailetKind) → is_mailet names kind ≡ true → passes (is_delivery plan) kind
  mailet_passes (mailet.RemoteDelivery outgoing schedule gateway bounces) h name found e =
      this_passes schedule bounces found (bytes_eq outgoing name) e
      (and_parts (is_processor_name outgoing) (is_schedule schedule && option_map_or (is_target names) bounces true) h).1
  mailet_passes kind h name found e = cc

  step_formed : (step : Step) → is_step names step ≡ true → passes (is_delivery plan) step.mailet
  step_formed step h =
      let front = is_matcher step.matcher && is_match_route names step.on_match in
      let all = and_parts (front && is_mailet names step.mailet) (is_mailet_route names step.on_mailet) h in
      mailet_passes step.mailet (and_parts front (is_mailet names step.mailet) all.0).1

  steps_formed : (processors : List Processor) → list_all (is_processor names) processors ≡ true
      → list_all (λ p. list_all (is_step names) p.steps) processors ≡ true
  steps_formed [] all = refl
  steps_formed (p ∷ processors) all =
      let parts = and_parts (is_processor names p) (list_all (is_processor names) processors) all in
      both_true (list_all (is_step names) p.steps) (list_all (λ q. list_all (is_step names) q.steps) processors)
      (and_parts _ (list_all (is_step names) p.steps) parts.0).1 (steps_formed processors parts.1)

short_at : (schedule : List ℕ) (i d : ℕ) → slice_get schedule i ≡ Some d → list_all delay.is_short schedule ≡ true → delay.is_short d ≡ true
short_at [] i d e all = cc
short_at (x ∷ schedule) zero d e all =
    let same : x ≡ d = cc in subst (λ n. delay.is_short n ≡ true) same (and_parts (delay.is_short x) (list_all delay.is_short schedule) all).0
short_at (x ∷ schedule) (suc i) d e all = short_at schedule i d e (and_parts (delay.is_short x) (list_all delay.is_short schedule) all).1

target_at : (plan : Plan) (state : List ℕ) (bounces : Option (List ℕ)) → bounces ≡ Some state
    → option_map_or (is_target (names_of plan.processors)) bounces true ≡ true → IsTarget plan state
target_at plan state bounces e h = sym (ap (λ b. option_map_or (is_target (names_of plan.processors)) b true) e) ∙ h

module _ (plan : Plan) (sound : IsSound plan) (mail : Mail) (delivery host : List ℕ) (number : ℕ)
    (stage : mail.stage ≡ Remote delivery host number) (t : Tried plan delivery number mail) where
  attempt_by_found : (found : Option Delivery) → ((d : Delivery) → found ≡ Some d → is_delivery plan d ≡ true)
      → IsAttempt plan mail (attempt_by delivery host number found)
  attempt_by_found None formed = record { number = ap attempt_of stage; tried = t; delay = λ d e. cc; bounces = λ state e. cc }
  attempt_by_found (Some d) formed =
      let parts = and_parts (is_schedule d.0) (option_map_or (is_target (names_of plan.processors)) d.1 true) (formed d refl) in
      let limits = and_parts (nat_le (length d.0) 100) (list_all delay.is_short d.0) parts.0 in
      record {
        number = ap attempt_of stage;
        tried = t;
        delay = λ wait e. (
          omega (arith, slice_get_within d.0 (number - 1) wait e, le_of (length d.0) 100 limits.0),
          le_of wait 604_800_000 (short_at d.0 (number - 1) wait e limits.1),
        );
        bounces = λ state e. target_at plan state d.1 e parts.1;
      }

  -- a mail's attempt is one
  pub is_attempt : IsAttempt plan mail (attempt_at plan delivery host number)
  is_attempt =
      attempt_by_found (delivery_named delivery plan.processors)
      (λ d e.
      delivery_passes (is_delivery plan) (is_step (names_of plan.processors)) (step_formed plan) delivery plan.processors d e
      (steps_formed plan plan.processors sound.processors))

-- ---- Answers

-- at most 500 answers for short addresses, with the form of replies
pub record AreAnswers (answers : List Answer) : Type 0 where
  pub short : list_all is_short (recipients_of answers) ≡ true
  pub few : length (recipients_of answers) ≤ 500
  pub formed : AllByRecursion (λ answer. is_reply answer.1 ≡ true) answers

kept_formed_by : (answer : Answer) (rest : List Answer) (b : Bool) → is_reply answer.1 ≡ true → AllByRecursion (λ a. is_reply a.1 ≡ true) rest
    → AllByRecursion (λ a. is_reply a.1 ≡ true) (if b then answer ∷ rest else rest)
kept_formed_by answer rest true one all = (one, all)
kept_formed_by answer rest false one all = all

kept_formed : (test : Answer → Bool) (answers : List Answer) → AllByRecursion (λ a. is_reply a.1 ≡ true) answers
    → AllByRecursion (λ a. is_reply a.1 ≡ true) (filter test answers)
kept_formed test [] all = tt
kept_formed test (answer ∷ answers) all = kept_formed_by answer (filter test answers) (test answer) all.0 (kept_formed test answers all.1)

those_answers : (test : Class → Bool) (answers : List Answer) → AreAnswers answers → AreAnswers (those test answers)
those_answers test answers all = record {
  short = tested_short (λ answer. test (class_of answer.1.code)) answers all.short;
  few = omega (arith, all.few, tested_fewer (λ answer. test (class_of answer.1.code)) answers);
  formed = kept_formed (λ answer. test (class_of answer.1.code)) answers all.formed;
}

answers_len : (answers : List Answer) → length (recipients_of answers) ≡ length answers
answers_len [] = refl
answers_len (answer ∷ answers) = ap suc (answers_len answers)

-- ---- What becomes of them

due_back : (mail child : Mail) (number : ℕ) → child.hops ≡ mail.hops + 1 → child.due ≡ mail.due → mail.due ≤ latest_attempt mail.hops number → number ≤ 101
    → child.due ≤ latest child.hops
unfolding latest latest_attempt
due_back mail child number hops due early last = omega (arith, hops, due, early, last)

due_again : (hops number due wait : ℕ) → 1 ≤ number → due ≤ latest_attempt hops number → wait ≤ 604_800_000 → due + wait ≤ latest_attempt hops (number + 1)
unfolding latest_attempt
due_again hops number due wait first early short = omega (arith, first, early, short)

module _ (plan : Plan) (sound : IsSound plan) (mail : Mail) (attempt : Attempt) (at : IsAttempt plan mail attempt) where
  -- children that follow on the mail, and facts that keep the limits
  abbrev IsPiece : Outcome → Type 0
  IsPiece outcome = AllByRecursion (IsNext plan mail) outcome.children × AllByRecursion (IsKept mail) outcome.facts

  both_pieces : (a b : Outcome) → IsPiece a → IsPiece b → IsPiece (both a b)
  both_pieces a b p q = (all_append (IsNext plan mail) a.children b.children p.0 q.0, all_append (IsKept mail) a.facts b.facts p.1 q.1)

  -- ---- Served

  served_piece : (answers : List Answer) → AreAnswers answers → IsPiece (served_outcome attempt answers)
  served_piece answers all = (
    tt,
    all_mapped (λ answer. is_reply answer.1 ≡ true) (IsKept mail) (sent attempt.host) (λ answer formed. record { storable = formed; own = tt }) answers
        all.formed,
  )

  -- ---- Given up

  abbrev told : Mailbox → List Failure → Mail
  told sender failed = notice plan mail sender (codes "Undelivered mail returned to sender") (undelivered plan mail failed)

  notice_next : (sender : Mailbox) (failed : List Failure) → is_short sender ≡ true → length failed ≤ 500 → AllByRecursion IsTold failed
      → IsNext plan mail (told sender failed)
  notice_next sender failed short few all_told =
      let child = told sender failed in
      let head = le_of (length (written mail.head)) MAX_HEAD (limits_of mail at.tried.limits).head in
      let small = undelivered_told plan mail failed sound.host_name head few all_told in
      let limits = notice_limits plan mail sender (codes "Undelivered mail returned to sender") (undelivered plan mail failed) sound.postmaster short (omega arith) small in
      next_waits plan mail child refl tt limits at.tried.path root refl sound.root refl at.tried.few_hops
      (due_back mail child attempt.number refl refl at.tried.due at.tried.last)

  failed_told : (answers : List Answer) → AllByRecursion (λ a. is_reply a.1 ≡ true) answers → list_all is_short (recipients_of answers) ≡ true
      → AllByRecursion IsTold (map failure answers)
  failed_told [] formed short = tt
  failed_told (answer ∷ answers) formed short =
      let each = and_parts (is_short answer.0) (list_all is_short (recipients_of answers)) short in
      ((each.0, reply_len answer.1 formed.0), failed_told answers formed.1 each.1)

  failed_len : (answers : List Answer) → length (map failure answers) ≡ length answers
  failed_len [] = refl
  failed_len (answer ∷ answers) = ap suc (failed_len answers)

  filled : (answers : List Answer) → AreAnswers answers → 1 ≤ length answers → has_recipients (recipients_of answers) ≡ true
  filled answers all some = some_of (recipients_of answers) 500 (omega (arith, some, answers_len answers)) all.few (omega arith)

  told_piece : (answers : List Answer) (sender : Option Mailbox) → AreAnswers answers → 1 ≤ length answers → is_short_sender sender ≡ true
      → IsPiece (bounced (recipients_of answers) (option_map (λ to. told to (map failure answers)) sender))
  told_piece answers None all some short = (tt, (record { storable = filled answers all some; own = tt }, tt))
  told_piece answers (Some sender) all some short = (
    (
      notice_next sender (map failure answers) short (omega (arith, failed_len answers, answers_len answers, all.few)) (failed_told answers all.formed all.short),
      tt,
    ),
    (record { storable = filled answers all some; own = tt }, tt),
  )

  back_next : (state : List ℕ) (reply : Reply) (rs : List Mailbox) → names_processor plan state ≡ true → is_reply reply ≡ true → has_recipients rs ≡ true
      → list_all is_short rs ≡ true
      → IsNext plan mail (sent_back state mail (reply, rs))
  back_next state reply rs named formed some short =
      let child = sent_back state mail (reply, rs) in
      let l = limits_of mail at.tried.limits in
      let attributes = replied_attributes reply formed mail.attributes l.attributes in
      let limits = limits_kept child (record { recipients = some; short = short; sender = l.sender; attributes = attributes; error = l.error; head = l.head; body = l.body }) in
      next_waits plan mail child refl (own_body mail.body) limits at.tried.path state refl named refl at.tried.few_hops
      (due_back mail child attempt.number refl refl at.tried.due at.tried.last)

  back_children : (state : List ℕ) (answers : List Answer) → names_processor plan state ≡ true → AreAnswers answers
      → AllByRecursion (IsNext plan mail) (map (sent_back state mail) (by_reply answers))
  back_children state answers named all =
      all_mapped (λ group. (is_reply group.0 ≡ true) × IsGroup group.1) (IsNext plan mail) (sent_back state mail)
      (λ group some. back_next state group.0 group.1 named some.0 some.1.0 some.1.1) (by_reply answers) (reply_groups answers all.few all.short all.formed)

  -- what is sent back by one attempt is dropped, or sent to a processor
  abbrev back : Bool → List ℕ → List Answer → Outcome
  back drops state answers =
      if drops then one_fact (Dropped Discarded (recipients_of answers)) else record { facts = []; children = map (sent_back state mail) (by_reply answers) }

  back_by : (state : List ℕ) (answers : List Answer) (b : Bool) → bytes_eq state ghost_state ≡ b → IsTarget plan state → AreAnswers answers → 1 ≤ length answers
      → IsPiece (back b state answers)
  back_by state answers true e target all some = (tt, (record { storable = filled answers all some; own = tt }, tt))
  back_by state answers false e target all some = (back_children state answers (sym (ap (λ b. b || names_processor plan state) e) ∙ target) all, tt)

  given_up_by_piece : (bounces : Option (List ℕ)) (answers : List Answer) → ((state : List ℕ) → bounces ≡ Some state → IsTarget plan state) → AreAnswers answers
      → 1 ≤ length answers
      → IsPiece (given_up_by plan mail bounces answers)
  given_up_by_piece None answers target all some = told_piece answers mail.sender all some (limits_of mail at.tried.limits).sender
  given_up_by_piece (Some state) answers target all some = back_by state answers (bytes_eq state ghost_state) refl (target state refl) all some

  given_up_piece : (answers : List Answer) → AreAnswers answers → IsPiece (given_up plan mail attempt answers)
  given_up_piece [] all = (tt, tt)
  given_up_piece (answer ∷ answers) all = given_up_by_piece attempt.bounces (answer ∷ answers) at.bounces all (omega arith)

  -- ---- Tried again

  put_off_falls : (wait : ℕ) (rs : List Mailbox) → attempt.number ≤ 100 → (number : ℕ)
      → measure (numbered_child number (put_off attempt wait rs mail)) < measure mail
  unfolding measure
  put_off_falls wait rs few number = let same = at.number in omega (arith, same, few)

  put_off_next : (wait : ℕ) (rs : List Mailbox) → attempt.number ≤ 100 → wait ≤ 604_800_000 → has_recipients rs ≡ true → list_all is_short rs ≡ true
      → IsNext plan mail (put_off attempt wait rs mail)
  put_off_next wait rs few week some short =
      let child = put_off attempt wait rs mail in
      let t = at.tried in
      let limits = (restricted_part mail mail rs (is_part mail t.limits) some short).limits in
      next_tried plan mail child refl (own_body mail.body) limits t.path attempt.delivery attempt.host (attempt.number + 1) refl t.named t.some_hops t.few_hops
      (omega arith) (omega (arith, few)) (due_again mail.hops attempt.number mail.due wait t.first t.due week) (put_off_falls wait rs few)

  again_after_piece : (wait : ℕ) (rs : List Mailbox) → attempt.number ≤ 100 → wait ≤ 604_800_000 → length rs ≤ 500 → list_all is_short rs ≡ true
      → IsPiece (tried_again_after mail attempt wait rs)
  again_after_piece wait [] few week most short = (tt, tt)
  again_after_piece wait (r ∷ rs) few week most short =
      let some = some_of (r ∷ rs) 500 (omega arith) most (omega arith) in
      ((put_off_next wait (r ∷ rs) few week some short, tt), (record { storable = some; own = tt }, tt))

  again_piece : (wait : Option ℕ) (rs : List Mailbox) → ((d : ℕ) → wait ≡ Some d → (attempt.number ≤ 100) × (d ≤ 604_800_000)) → length rs ≤ 500
      → list_all is_short rs ≡ true
      → IsPiece (tried_again mail attempt wait rs)
  again_piece None rs bounds most short = (tt, tt)
  again_piece (Some wait) rs bounds most short = again_after_piece wait rs (bounds wait refl).0 (bounds wait refl).1 most short

  -- ---- No answer is lost

  abbrev parts_of : Outcome → ℕ
  parts_of outcome = length outcome.facts + length outcome.children

  served_some : (answers : List Answer) → 1 ≤ length answers → 1 ≤ parts_of (served_outcome attempt answers)
  served_some [] some = some
  served_some (answer ∷ answers) some = omega arith

  told_some : (rs : List Mailbox) (sent : Option Mail) → 1 ≤ parts_of (bounced rs sent)
  told_some rs None = omega arith
  told_some rs (Some sent) = omega arith

  back_some : (state : List ℕ) (answer : Answer) (answers : List Answer) (b : Bool)
      → 1 ≤ parts_of (back b state (answer ∷ answers))
  back_some state answer answers true = omega arith
  back_some state answer answers false =
      let pair_of : Answer → Reply × Mailbox = λ a. (a.1, a.0) in
      let reply_of : Reply × Mailbox → Reply = λ pair. pair.0 in
      let pairs = map pair_of (answer ∷ answers) in
      let group_of : Reply → Reply × List Mailbox = λ reply. (reply, having same_reply reply pairs) in
      let e1 = length-map (different same_reply (map reply_of pairs)) group_of in
      let e2 = length-map (by_reply (answer ∷ answers)) (sent_back state mail) in
      omega (arith, e1, e2, some_different same_reply (map reply_of pairs) (omega arith))

  given_up_by_some : (bounces : Option (List ℕ)) (answer : Answer) (answers : List Answer) → 1 ≤ parts_of (given_up_by plan mail bounces (answer ∷ answers))
  given_up_by_some None answer answers =
      told_some (recipients_of (answer ∷ answers)) (option_map (λ to. told to (map failure (answer ∷ answers))) mail.sender)
  given_up_by_some (Some state) answer answers = back_some state answer answers (bytes_eq state ghost_state)

  given_up_some : (answers : List Answer) → 1 ≤ length answers → 1 ≤ parts_of (given_up plan mail attempt answers)
  given_up_some [] some = absurd (omega (arith, some))
  given_up_some (answer ∷ answers) some = given_up_by_some attempt.bounces answer answers

  again_some : (wait : ℕ) (answers : List Answer) → 1 ≤ length answers → 1 ≤ parts_of (tried_again_after mail attempt wait (recipients_of answers))
  again_some wait [] some = absurd (omega (arith, some))
  again_some wait (answer ∷ answers) some = omega arith

  -- an answer in front of others, if it is one of them
  abbrev with_first : Bool → Answer → List Answer → List Answer
  with_first b answer rest = if b then answer ∷ rest else rest

  -- the first answer is among those of one of the three kinds
  first_kind : (wait : Option ℕ) (answer : Answer) (class : Class) (served up again : List Answer)
      → 1 ≤ length (with_first (is_served class) answer served)
      + (length (with_first (is_given_up wait class) answer up) + length (with_first (is_tried_again wait class) answer again))
  first_kind None answer Success served up again = omega arith
  first_kind None answer Transient served up again = omega arith
  first_kind None answer Permanent served up again = omega arith
  first_kind (Some wait) answer Success served up again = omega arith
  first_kind (Some wait) answer Transient served up again = omega arith
  first_kind (Some wait) answer Permanent served up again = omega arith

  none_again_by : (answer : Answer) (again : List Answer) (class : Class) → length again ≡ 0
      → length (with_first (is_tried_again None class) answer again) ≡ 0
  none_again_by answer again Success none = none
  none_again_by answer again Transient none = none
  none_again_by answer again Permanent none = none

  -- behind the last delay none is tried again
  none_again : (answers : List Answer) → length (those (is_tried_again None) answers) ≡ 0
  none_again [] = refl
  none_again (answer ∷ answers) = none_again_by answer (those (is_tried_again None) answers) (class_of answer.1.code) (none_again answers)

  both_some : (a b c : Outcome) → 1 ≤ parts_of a + (parts_of b + parts_of c) → 1 ≤ parts_of (both a (both b c))
  both_some a b c some =
      let e1 = length-append b.facts c.facts in
      let e2 = length-append b.children c.children in
      let e3 = length-append a.facts (b.facts ++ c.facts) in
      let e4 = length-append a.children (b.children ++ c.children) in
      omega (arith, e1, e2, e3, e4, some)

  one_of : (a b c x y z : ℕ) → 1 ≤ a + (b + c) → (1 ≤ a → 1 ≤ x) → (1 ≤ b → 1 ≤ y) → (1 ≤ c → 1 ≤ z) → 1 ≤ x + (y + z)
  one_of (suc a) b c x y z some f g h = let one = f (omega arith) in omega (arith, one)
  one_of zero (suc b) c x y z some f g h = let one = g (omega arith) in omega (arith, one)
  one_of zero zero (suc c) x y z some f g h = let one = h (omega arith) in omega (arith, one)
  one_of zero zero zero x y z some f g h = absurd (omega (arith, some))

  again_any : (wait : Option ℕ) (answers : List Answer) → 1 ≤ length (those (is_tried_again wait) answers)
      → 1 ≤ parts_of (tried_again mail attempt wait (recipients_of (those (is_tried_again wait) answers)))
  again_any None answers some = absurd (omega (arith, some, none_again answers))
  again_any (Some wait) answers some = again_some wait (those (is_tried_again (Some wait)) answers) some

  settled_some : (answer : Answer) (answers : List Answer) → 1 ≤ parts_of (settle plan mail attempt (answer ∷ answers))
  settled_some answer answers =
      let all = answer ∷ answers in
      let served = those is_served all in
      let up = those (is_given_up attempt.delay) all in
      let again = those (is_tried_again attempt.delay) all in
      both_some (served_outcome attempt served) (given_up plan mail attempt up) (tried_again mail attempt attempt.delay (recipients_of again))
      (one_of (length served) (length up) (length again) (parts_of (served_outcome attempt served)) (parts_of (given_up plan mail attempt up))
      (parts_of (tried_again mail attempt attempt.delay (recipients_of again)))
      (first_kind attempt.delay answer (class_of answer.1.code) (those is_served answers) (those (is_given_up attempt.delay) answers)
      (those (is_tried_again attempt.delay) answers))
      (served_some served) (given_up_some up) (again_any attempt.delay all))

  -- ---- All of it

  pub settled_outcome : (answers : List Answer) → AreAnswers answers → 1 ≤ length answers → IsOutcome plan mail (settle plan mail attempt answers)
  settled_outcome [] all some = absurd (omega (arith, some))
  settled_outcome (answer ∷ answers) all some =
      let list = answer ∷ answers in
      let up = those (is_given_up attempt.delay) list in
      let again = recipients_of (those (is_tried_again attempt.delay) list) in
      let put_again = those_answers (is_tried_again attempt.delay) list all in
      let piece : IsPiece (settle plan mail attempt list) =
      both_pieces (served_outcome attempt (those is_served list)) (both (given_up plan mail attempt up) (tried_again mail attempt attempt.delay again))
      (served_piece (those is_served list) (those_answers is_served list all))
      (both_pieces (given_up plan mail attempt up) (tried_again mail attempt attempt.delay again)
      (given_up_piece up (those_answers (is_given_up attempt.delay) list all))
      (again_piece attempt.delay again at.delay put_again.few put_again.short))
      in
      record { children = piece.0; facts = piece.1; some = settled_some answer answers }
