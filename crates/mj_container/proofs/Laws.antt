-- The laws of rules, for a sound plan.
use Rattle.std.proofs.Common.{◌≡◌, ◌∙◌, ℕ, suc, ◌+◌, ◌<◌, ◌≤◌, Bool, true, false, List, [], ◌∷◌, length, map, refl, sym, ap, subst, arith, inl, inr}
use Rattle.std.specs.Prelude.{nat_le, ◌&&◌, if◌then◌else◌}
use Rattle.std.specs.List.{AllByRecursion, list_all}
use Rattle.std.proofs.lemmas.Bool.{and_parts}
use Rattle.std.proofs.lemmas.List.{length-map}
use Rattle.mj_address.specs.Short.{is_short}
use Rattle.mj_mail.specs.declared.fact.Fact.{Fact}
use Rattle.mj_mail.specs.declared.fact.Fact.TheVariants.{Overrun}
use Rattle.mj_mail.specs.declared.fact.Outcome.{Outcome}
use Rattle.mj_mail.specs.declared.limits.TheConstants.{MAX_PAYLOAD, MAX_RECIPIENTS}
use Rattle.mj_mail.specs.declared.mail.Mail.{Mail}
use Rattle.mj_mail.specs.declared.mail.NewMail.{NewMail}
use Rattle.mj_mail.specs.declared.mail.Stage.{Stage}
use Rattle.mj_mail.specs.declared.mail.Stage.TheVariants.{Process, Remote}
use Rattle.mj_mail.specs.declared.reply.Reply.{Reply}
use Rattle.mj_mail.specs.Mail.{body_len, first, root}
use Rattle.mj_mail.specs.Name.{child_name}
use Rattle.mj_mail.specs.Entry.{done_fits, done_form}
use Rattle.mj_mail.specs.Outcome.{numbered, numbered_child, numbered_from, one_fact}
use Rattle.mj_mail.proofs.Entries.{kept_small}
use Rattle.mj_mail.specs.Reply.{is_reply}
use Rattle.mj_mail.specs.Rules.{AreNumbered, HasOwnBody, IsOwnBody, Replying, has_recipients, is_acceptable, is_small_body, is_storable, is_storable_child, replies_at, replies_to}
use Rattle.mj_plan.specs.declared.plan.Plan.{Plan}
use Rattle.mj_plan.specs.Sound.{IsSound}
use Rattle.mj_container.specs.Running.{drafts, step}
use Rattle.mj_container.specs.Settling.{answers, attempt_at}
use Rattle.mj_container.specs.Matching.{Mailbox}
use Rattle.mj_container.specs.Sound.{is_sound, keeps_limits, latest, may_stand, measure}
use Rattle.mj_container.proofs.Children.{IsNext, IsOutcome, sent_next}
use Rattle.mj_container.proofs.Facts.{both_true, Limits, Waits, le_of, limits_of, tried, waits, waits_sound}
use Rattle.mj_container.proofs.Groups.{all_weaker, answered}
use Rattle.mj_container.proofs.Replies.{text_len}
use Rattle.mj_container.proofs.Settled.{AreAnswers, is_attempt, settled_outcome}
use Rattle.mj_container.proofs.Stays.{drafts_some}
use Rattle.mj_container.proofs.Services.{IsKept, IsLawful, IsSent, formed_mappings}
use Rattle.mj_container.proofs.Steps.{IsYoung, drafts_lawful, drafts_young}

-- ---- Children by what holds of each before and behind its numbering

numbered_all : (P Q : Mail → Type 0) → ((number : ℕ) (child : Mail) → P child → Q (numbered_child number child))
    → (number : ℕ) (children : List Mail) → AllByRecursion P children → AllByRecursion Q (numbered_from number children)
numbered_all P Q holds number [] all = tt
numbered_all P Q holds number (child ∷ children) all = (holds number child all.0, numbered_all P Q holds (number + 1) children all.1)

numbered_test : (P : Mail → Type 0) (test : Mail → Bool) → ((number : ℕ) (child : Mail) → P child → test (numbered_child number child) ≡ true)
    → (number : ℕ) (children : List Mail) → AllByRecursion P children → list_all test (numbered_from number children) ≡ true
numbered_test P test holds number [] all = refl
numbered_test P test holds number (child ∷ children) all = rw (holds number child all.0, numbered_test P test holds (number + 1) children all.1)

numbered_names : (plan : Plan) (mail : Mail) (number : ℕ) (children : List Mail) → AllByRecursion (IsNext plan mail) children
    → AreNumbered mail.name number (numbered_from number children)
numbered_names plan mail number [] all = tt
numbered_names plan mail number (child ∷ children) all =
    ((λ i. child_name (all.0.name i) number), numbered_names plan mail (number + 1) children all.1)

numbered_length : (number : ℕ) (children : List Mail) → length (numbered_from number children) ≡ length children
numbered_length number [] = refl
numbered_length number (child ∷ children) = ap suc (numbered_length (number + 1) children)

kept_own : (mail : Mail) (facts : List Fact) → AllByRecursion (IsKept mail) facts → AllByRecursion (HasOwnBody mail.body) facts
kept_own mail [] all = tt
kept_own mail (fact ∷ facts) all = (all.0.own, kept_own mail facts all.1)

kept_storable : (mail : Mail) (facts : List Fact) → AllByRecursion (IsKept mail) facts → list_all is_storable facts ≡ true
kept_storable mail [] all = refl
kept_storable mail (fact ∷ facts) all = rw (all.0.storable, kept_storable mail facts all.1)

-- ---- A mail in a processor

-- what is sent from a processor follows on the mail, where only a mail with few hops has children
children_next : (plan : Plan) (mail : Mail) (outcome : Outcome) (state : List ℕ) → Waits plan state mail → IsLawful plan mail outcome → IsYoung mail outcome
    → AllByRecursion (IsNext plan mail) outcome.children
children_next plan mail outcome state w l (inl none) = subst (λ children. AllByRecursion (IsNext plan mail) children) (sym none) tt
children_next plan mail outcome state w l (inr young) =
    all_weaker (IsSent plan mail) (IsNext plan mail) (λ child s. sent_next plan mail child young s state w) outcome.children l.children

-- ---- Answers of hosts

module _ (reply : Replying) (formed : (host : List ℕ) (r : Mailbox) (number : ℕ) → is_reply (reply host r number) ≡ true) (host : List ℕ) (number : ℕ) where
  abbrev replies_for : List Mailbox → List Reply
  replies_for rs = map (λ r. reply host r number) rs

  answered_formed : (rs : List Mailbox) → AllByRecursion (λ answer. is_reply answer.1 ≡ true) (answers rs (replies_for rs))
  answered_formed [] = tt
  answered_formed (r ∷ rs) = (formed host r number, answered_formed rs)

  answered_len : (rs : List Mailbox) → length (answers rs (replies_for rs)) ≡ length rs
  answered_len [] = refl
  answered_len (r ∷ rs) = ap suc (answered_len rs)

  replies_len : (rs : List Mailbox) → length (replies_for rs) ≡ length rs
  replies_len rs = length-map rs (λ r. reply host r number)

  replies_short : (rs : List Mailbox) → AllByRecursion (λ reply. length reply.text ≤ 512) (replies_for rs)
  replies_short [] = tt
  replies_short (r ∷ rs) = (text_len (reply host r number) (formed host r number), replies_short rs)

  are_answers : (rs : List Mailbox) → list_all is_short rs ≡ true → length rs ≤ 500 → AreAnswers (answers rs (replies_for rs))
  are_answers rs short few =
      let same = answered rs (replies_for rs) (replies_len rs) in
      record { short = ap (list_all is_short) same ∙ short; few = subst (λ list. length list ≤ 500) (sym same) few; formed = answered_formed rs }

-- ---- What is kept of a step: what it made, or that it was too large

either : (Q : Outcome → Type 0) (outcome : Outcome) (b : Bool) → Q outcome → Q (one_fact Overrun) → Q (if b then outcome else one_fact Overrun)
either Q outcome true made large = made
either Q outcome false made large = large

-- ---- The laws

module _ (plan : Plan) (sound : IsSound plan) (reply : Replying) (formed : (host : List ℕ) (r : Mailbox) (number : ℕ) → is_reply (reply host r number) ≡ true)
    (mail : Mail) (h : is_sound plan mail ≡ true) where
  abbrev drafted : Outcome
  drafted = drafts plan mail.stage (replies_to reply mail) mail

  abbrev made : Outcome
  made = numbered drafted

  abbrev made_kept : Outcome
  made_kept = step plan mail (replies_to reply mail)

  limits : Limits mail
  limits = limits_of mail (and_parts (keeps_limits mail) (may_stand plan mail.stage mail) h).0

  recipients : (1 ≤ length mail.recipients) × (length mail.recipients ≤ 500)
  recipients =
      let parts = and_parts (nat_le 1 (length mail.recipients)) (nat_le (length mail.recipients) MAX_RECIPIENTS) limits.recipients in
      (le_of 1 (length mail.recipients) parts.0, le_of (length mail.recipients) MAX_RECIPIENTS parts.1)

  -- what a step makes of a mail where it stands
  outcome_at : (stage : Stage) → mail.stage ≡ stage → (keeps_limits mail && may_stand plan stage mail) ≡ true
      → IsOutcome plan mail (drafts plan stage (replies_at reply mail.recipients stage) mail)
  outcome_at (Process state) e s =
      let w = waits plan state mail s in
      let lawful = drafts_lawful plan sound mail state [] w.limits in
      record {
        children = children_next plan mail (drafts plan (Process state) [] mail) state w lawful (drafts_young plan state [] mail sound);
        facts = lawful.facts;
        some = drafts_some plan (formed_mappings plan sound) state [] mail recipients.0 w.named;
      }
  outcome_at (Remote delivery host number) e s =
      settled_outcome plan sound mail (attempt_at plan delivery host number)
      (is_attempt plan sound mail delivery host number e (tried plan delivery host number mail s))
      (answers mail.recipients (replies_at reply mail.recipients (Remote delivery host number)))
      (are_answers reply formed host number mail.recipients limits.short recipients.1)
      (omega (arith, recipients.0, answered_len reply formed host number mail.recipients))

  outcome : IsOutcome plan mail drafted
  outcome = outcome_at mail.stage refl h

  path_at : (stage : Stage) → (keeps_limits mail && may_stand plan stage mail) ≡ true → length mail.name.path ≤ 102_203
  path_at (Process state) s = let w = waits plan state mail s in omega (arith, w.path)
  path_at (Remote delivery host number) s = let t = tried plan delivery host number mail s in omega (arith, t.path)

  few_at : (stage : Stage) → length (replies_at reply mail.recipients stage) ≤ 500
  few_at (Process state) = omega arith
  few_at (Remote delivery host number) = omega (arith, recipients.1, replies_len reply formed host number mail.recipients)

  short_at : (stage : Stage) → AllByRecursion (λ reply. length reply.text ≤ 512) (replies_at reply mail.recipients stage)
  short_at (Process state) = tt
  short_at (Remote delivery host number) = replies_short reply formed host number mail.recipients

  -- what holds of what a step makes and of Overrun holds of what is kept of it
  keeps : (Q : Outcome → Type 0) → Q made → Q (one_fact Overrun) → Q made_kept
  keeps Q one other = either Q made (done_fits mail.name (replies_to reply mail) made) one other

  pub children_sound : list_all (is_sound plan) made_kept.children ≡ true
  children_sound =
      keeps (λ o. list_all (is_sound plan) o.children ≡ true)
      (numbered_test (IsNext plan mail) (is_sound plan) (λ number child next. next.sound number) 1 drafted.children outcome.children) refl

  pub children_named : AreNumbered mail.name 1 made_kept.children
  children_named = keeps (λ o. AreNumbered mail.name 1 o.children) (numbered_names plan mail 1 drafted.children outcome.children) tt

  pub falls : AllByRecursion (λ child. measure child < measure mail) made_kept.children
  falls =
      keeps (λ o. AllByRecursion (λ child. measure child < measure mail) o.children)
      (numbered_all (IsNext plan mail) (λ child. measure child < measure mail) (λ number child next. next.falls number) 1 drafted.children outcome.children) tt

  pub children_own : AllByRecursion (λ child. IsOwnBody mail.body child.body) made_kept.children
  children_own =
      keeps (λ o. AllByRecursion (λ child. IsOwnBody mail.body child.body) o.children)
      (numbered_all (IsNext plan mail) (λ child. IsOwnBody mail.body child.body) (λ number child next. next.body) 1 drafted.children outcome.children) tt

  pub facts_own : AllByRecursion (HasOwnBody mail.body) made_kept.facts
  facts_own = keeps (λ o. AllByRecursion (HasOwnBody mail.body) o.facts) (kept_own mail drafted.facts outcome.facts) (tt, tt)

  pub facts_storable : list_all is_storable made_kept.facts ≡ true
  facts_storable = keeps (λ o. list_all is_storable o.facts ≡ true) (kept_storable mail drafted.facts outcome.facts) refl

  next_storable : (number : ℕ) (child : Mail) → IsNext plan mail child → is_storable_child (numbered_child number child) ≡ true
  next_storable number child next =
      let l = limits_of child next.limits in both_true (has_recipients child.recipients) (is_small_body (body_len child.body)) l.recipients l.body

  pub children_storable : list_all is_storable_child made_kept.children ≡ true
  children_storable =
      keeps (λ o. list_all is_storable_child o.children ≡ true)
      (numbered_test (IsNext plan mail) is_storable_child next_storable 1 drafted.children outcome.children) refl

  pub stays : 1 ≤ length made_kept.facts + length made_kept.children
  stays = keeps (λ o. 1 ≤ length o.facts + length o.children) (omega (arith, outcome.some, numbered_length 1 drafted.children)) (omega arith)

  pub done_small : length (done_form mail.name (replies_to reply mail) made_kept) ≤ MAX_PAYLOAD
  done_small = kept_small mail.name (replies_to reply mail) (path_at mail.stage h) (few_at mail.stage) (short_at mail.stage) made

-- a first mail is sound
first_waits : (plan : Plan) → IsSound plan → (number : ℕ) (new : NewMail) → is_acceptable new ≡ true → Waits plan root (first plan.start number new)
unfolding latest measure
first_waits plan sound number new h =
    record {
      limits = h;
      named = sound.root;
      hops = omega arith;
      due = let start = sound.start in omega arith;
      path = omega arith;
    }

pub first_sound : (plan : Plan) → IsSound plan → (number : ℕ) (new : NewMail) → is_acceptable new ≡ true → is_sound plan (first plan.start number new) ≡ true
first_sound plan sound number new h = waits_sound plan root (first plan.start number new) (first_waits plan sound number new h)
