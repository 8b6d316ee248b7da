-- What becomes of one recipient is what becomes of that recipient alone.
use Rattle.std.proofs.Common.{◌≡◌, ◌∙◌, ℕ, ◌+◌, Bool, true, false, not, List, [], ◌∷◌, ◌++◌, length, map, Result, Ok, Err, refl, sym, ap, append-nil}
use Rattle.std.specs.Prelude.{nat_le, if◌then◌else◌, codes, filter}
use Rattle.std.specs.List.{Contains, cons_option, filter_map}
use Rattle.std.specs.Str.{bytes_eq}
use Rattle.std.proofs.lemmas.Bool.{and_parts, false≢true}
use Rattle.std.proofs.lemmas.List.{length-map}
use Rattle.std.proofs.lemmas.List.Elements.{filter_map-append}
use Rattle.mj_address.specs.Same.{AreDifferent, same_address}
use Rattle.mj_address.proofs.Different.{same_laws}
use Rattle.mj_head.specs.Head.{RawField, written}
use Rattle.mj_mail.specs.declared.attributes.TheConstants.{MAX_ATTRIBUTES}
use Rattle.mj_mail.specs.declared.limits.TheConstants.{MAX_HEAD}
use Rattle.mj_mail.specs.declared.fact.Fact.{Fact}
use Rattle.mj_mail.specs.declared.fact.Fact.TheVariants.{Dropped, FellOff}
use Rattle.mj_mail.specs.declared.fact.Outcome.{Outcome}
use Rattle.mj_mail.specs.declared.fact.Why.TheVariants.{Discarded}
use Rattle.mj_mail.specs.declared.mail.Mail.{Mail}
use Rattle.mj_mail.specs.Mail.{restrict}
use Rattle.mj_mail.specs.Outcome.{both, nothing, numbered, numbered_child, numbered_from, one_child, one_fact}
use Rattle.mj_plan.specs.declared.mailet.MailetKind.{MailetKind}
use Rattle.mj_plan.specs.declared.mailet.MailetKind.TheVariants as mailet
use Rattle.mj_plan.specs.declared.plan.MailetRoute.{MailetRoute}
use Rattle.mj_plan.specs.declared.plan.MailetRoute.TheVariants as on_mailet
use Rattle.mj_plan.specs.declared.plan.Plan.{Plan}
use Rattle.mj_plan.specs.declared.plan.Processor.{Processor}
use Rattle.mj_plan.specs.declared.plan.Step.{Step}
use Rattle.mj_container.specs.declared.service.Onward.{Onward}
use Rattle.mj_container.specs.declared.service.Onward.TheVariants.{GoOn, Leave, End}
use Rattle.mj_container.specs.declared.service.Served.{Served}
use Rattle.mj_container.specs.declared.service.Unserved.{Unserved}
use Rattle.mj_container.specs.Alone.{IsAsAlone, alone, child_of, count, cut, fact_of, is_plain, is_plain_mailet, is_plain_matcher, is_plain_step, named, nameless, numberless, only, walk}
use Rattle.mj_container.specs.Changes.{field_of, fields_from, with_each, with_prefix, without_each, without_fields}
use Rattle.mj_container.specs.Matching.{Mailbox}
use Rattle.mj_container.specs.Running.{failed, failed_at, gone, part, parted, run, served, settled, split}
use Rattle.mj_container.specs.Serving.{fails, ghost_state, goes, leave, sent_to, serve, with_head}
use Rattle.mj_container.specs.Verdict.{Verdict, Leaves, Takes, verdict}
use Rattle.mj_container.proofs.Cut.{alone_in, kept, left_out, still_gone}
use Rattle.mj_container.proofs.Plain.{verdict_same}

abbrev is_filled : List Mailbox → Bool
is_filled [] = false
is_filled (q ∷ rs) = true

-- ---- Outcomes

both_nothing : (o : Outcome) → both o nothing ≡ o
both_nothing o = λ i. record { facts = append-nil o.facts i; children = append-nil o.children i }

only_both : (r : Mailbox) (a b : Outcome) → only r (both a b) ≡ both (only r a) (only r b)
only_both r a b = λ i. record { facts = filter_map-append (fact_of r) a.facts b.facts i; children = filter_map-append (child_of r) a.children b.children i }

-- For r, what becomes of a mail is what becomes of it for r alone, and where r isn't there, it is nothing.
record IsAlone (r : Mailbox) (all single : Mail → Outcome) : Type 0 where
  one : (mail : Mail) → cut r mail.recipients ≡ r ∷ [] → only r (all mail) ≡ single (restrict mail (r ∷ []))
  gone : (mail : Mail) → cut r mail.recipients ≡ [] → only r (all mail) ≡ nothing

-- a fact that names the recipients of a mail
fell_off_alone : (r : Mailbox) (name : List ℕ) → IsAlone r (λ mail. one_fact (FellOff name mail.recipients)) (λ mail. one_fact (FellOff name mail.recipients))
fell_off_alone r name = record {
  one = λ mail h. ap (λ rs. record { facts = cons_option (named (FellOff name) rs) []; children = [] }) h;
  gone = λ mail h. ap (λ rs. record { facts = cons_option (named (FellOff name) rs) []; children = [] }) h;
}

abbrev leave_if : Bool → List ℕ → Mail → Outcome
leave_if b state mail = if b then one_fact (Dropped Discarded mail.recipients) else one_child (sent_to state mail)

leave_one : (r : Mailbox) (state : List ℕ) (mail : Mail) (b : Bool) → cut r mail.recipients ≡ r ∷ [] → only r (leave_if b state mail) ≡ leave_if b state (restrict mail (r ∷ []))
leave_one r state mail true h = ap (λ rs. record { facts = cons_option (named (Dropped Discarded) rs) []; children = [] }) h
leave_one r state mail false h = ap (λ rs. record { facts = []; children = cons_option (named (restrict (sent_to state mail)) rs) [] }) h

leave_gone : (r : Mailbox) (state : List ℕ) (mail : Mail) (b : Bool) → cut r mail.recipients ≡ [] → only r (leave_if b state mail) ≡ nothing
leave_gone r state mail true h = ap (λ rs. record { facts = cons_option (named (Dropped Discarded) rs) []; children = [] }) h
leave_gone r state mail false h = ap (λ rs. record { facts = []; children = cons_option (named (restrict (sent_to state mail)) rs) [] }) h

leave_alone : (r : Mailbox) (state : List ℕ) → IsAlone r (leave state) (leave state)
leave_alone r state = record {
  one = λ mail. leave_one r state mail (bytes_eq state ghost_state);
  gone = λ mail. leave_gone r state mail (bytes_eq state ghost_state);
}

part_one : (r : Mailbox) (all single : Mail → Outcome) → IsAlone r all single → (mail : Mail) (rs : List Mailbox) → cut r rs ≡ r ∷ []
    → only r (part all mail rs) ≡ single (restrict mail (r ∷ []))
part_one r all single a mail [] h = absurd (false≢true (ap is_filled h))
part_one r all single a mail (q ∷ rs) h = a.one (restrict mail (q ∷ rs)) h

part_gone : (r : Mailbox) (all single : Mail → Outcome) → IsAlone r all single → (mail : Mail) (rs : List Mailbox) → cut r rs ≡ []
    → only r (part all mail rs) ≡ nothing
part_gone r all single a mail [] h = refl
part_gone r all single a mail (q ∷ rs) h = a.gone (restrict mail (q ∷ rs)) h

-- ---- A plain mailet serves a part as it serves the whole

abbrev onward_for : List Mailbox → Onward → Onward
onward_for rs (GoOn mail) = GoOn (restrict mail rs)
onward_for rs (Leave mail state) = Leave (restrict mail rs) state
onward_for rs End = End

-- the same service, for these recipients
abbrev restricted : List Mailbox → Result Served Unserved → Result Served Unserved
restricted rs (Ok served) = Ok (record { facts = served.facts; children = served.children; onward = onward_for rs served.onward })
restricted rs (Err unserved) = Err (record { mail = restrict unserved.mail rs; text = unserved.text })

-- the mail goes on or leaves with its recipients
abbrev GoesWith : Mail → Onward → Type 0
GoesWith mail (GoOn next) = next.recipients ≡ mail.recipients
GoesWith mail (Leave next state) = next.recipients ≡ mail.recipients
GoesWith mail End = ⊥

-- and nothing else comes of it
record IsQuietly (mail : Mail) (served : Served) : Type 0 where
  facts : served.facts ≡ []
  children : served.children ≡ []
  onward : GoesWith mail served.onward

-- it fails, or it is served so
abbrev IsQuiet : Mail → Result Served Unserved → Type 0
IsQuiet mail (Ok served) = IsQuietly mail served
IsQuiet mail (Err unserved) = unserved.mail.recipients ≡ mail.recipients

-- a mail that goes on changed, or fails
changed_restricts : (mail next : Mail) (rs : List Mailbox) (text : List ℕ) (b : Bool)
    → (if b then goes (GoOn (restrict next rs)) else fails text (restrict mail rs)) ≡ restricted rs (if b then goes (GoOn next) else fails text mail)
changed_restricts mail next rs text true = refl
changed_restricts mail next rs text false = refl

headed_restricts : (mail : Mail) (rs : List Mailbox) (head : List RawField) → with_head (restrict mail rs) head ≡ restricted rs (with_head mail head)
headed_restricts mail rs head = changed_restricts mail (record mail { head = head }) rs (codes "HeadTooLong") (nat_le (length (written head)) MAX_HEAD)

serve_restricts : (plan : Plan) (kind : MailetKind) (mail : Mail) (rs : List Mailbox) → is_plain_mailet kind ≡ true → serve plan kind (restrict mail rs) ≡ restricted rs (serve plan kind mail)
serve_restricts plan (mailet.ToProcessor processor) mail rs p = refl
serve_restricts plan mailet.Null mail rs p = refl
serve_restricts plan (mailet.SetMailAttribute attributes) mail rs p =
    let new = with_each attributes mail.attributes in
    changed_restricts mail (record mail { attributes = new }) rs (codes "TooManyAttributes") (nat_le (length new) MAX_ATTRIBUTES)
serve_restricts plan (mailet.RemoveMailAttribute names) mail rs p = refl
serve_restricts plan mailet.RemoveAllMailAttributes mail rs p = refl
serve_restricts plan (mailet.SetMimeHeader name value) mail rs p = headed_restricts mail rs (mail.head ++ field_of name value ∷ [])
serve_restricts plan (mailet.RemoveMimeHeader names) mail rs p = refl
serve_restricts plan (mailet.MailAttributesToMimeHeaders mapping) mail rs p = headed_restricts mail rs (mail.head ++ fields_from mapping mail.attributes)
serve_restricts plan (mailet.AddSubjectPrefix prefix) mail rs p = headed_restricts mail rs (with_prefix prefix mail.head)
serve_restricts plan mailet.RecipientToLowerCase mail rs p = absurd (false≢true p)
serve_restricts plan mailet.PostmasterAlias mail rs p = absurd (false≢true p)
serve_restricts plan mailet.RecipientRewriteTable mail rs p = absurd (false≢true p)
serve_restricts plan (mailet.Forward to pass_through) mail rs p = absurd (false≢true p)
serve_restricts plan (mailet.Bounce message pass_through) mail rs p = absurd (false≢true p)
serve_restricts plan (mailet.NotifyPostmaster pass_through) mail rs p = absurd (false≢true p)
serve_restricts plan mailet.LocalDelivery mail rs p = absurd (false≢true p)
serve_restricts plan (mailet.ToRepository path pass_through) mail rs p = absurd (false≢true p)
serve_restricts plan (mailet.RemoteDelivery outgoing schedule gateway bounce_processor) mail rs p = absurd (false≢true p)
serve_restricts plan (mailet.Fail text) mail rs p = refl

quietly : (mail : Mail) (onward : Onward) → GoesWith mail onward → IsQuiet mail (goes onward)
quietly mail onward same = record { facts = refl; children = refl; onward = same }

changed_quietly : (mail next : Mail) (text : List ℕ) (b : Bool) → next.recipients ≡ mail.recipients → IsQuiet mail (if b then goes (GoOn next) else fails text mail)
changed_quietly mail next text true same = quietly mail (GoOn next) same
changed_quietly mail next text false same = refl

headed_quietly : (mail : Mail) (head : List RawField) → IsQuiet mail (with_head mail head)
headed_quietly mail head = changed_quietly mail (record mail { head = head }) (codes "HeadTooLong") (nat_le (length (written head)) MAX_HEAD) refl

serve_quiet : (plan : Plan) (kind : MailetKind) (mail : Mail) → is_plain_mailet kind ≡ true → IsQuiet mail (serve plan kind mail)
serve_quiet plan (mailet.ToProcessor processor) mail p = quietly mail (Leave mail processor) refl
serve_quiet plan mailet.Null mail p = quietly mail (Leave mail ghost_state) refl
serve_quiet plan (mailet.SetMailAttribute attributes) mail p =
    let new = with_each attributes mail.attributes in
    changed_quietly mail (record mail { attributes = new }) (codes "TooManyAttributes") (nat_le (length new) MAX_ATTRIBUTES) refl
serve_quiet plan (mailet.RemoveMailAttribute names) mail p = quietly mail (GoOn (record mail { attributes = without_each names mail.attributes })) refl
serve_quiet plan mailet.RemoveAllMailAttributes mail p = quietly mail (GoOn (record mail { attributes = [] })) refl
serve_quiet plan (mailet.SetMimeHeader name value) mail p = headed_quietly mail (mail.head ++ field_of name value ∷ [])
serve_quiet plan (mailet.RemoveMimeHeader names) mail p = quietly mail (GoOn (record mail { head = without_fields names mail.head })) refl
serve_quiet plan (mailet.MailAttributesToMimeHeaders mapping) mail p = headed_quietly mail (mail.head ++ fields_from mapping mail.attributes)
serve_quiet plan (mailet.AddSubjectPrefix prefix) mail p = headed_quietly mail (with_prefix prefix mail.head)
serve_quiet plan mailet.RecipientToLowerCase mail p = absurd (false≢true p)
serve_quiet plan mailet.PostmasterAlias mail p = absurd (false≢true p)
serve_quiet plan mailet.RecipientRewriteTable mail p = absurd (false≢true p)
serve_quiet plan (mailet.Forward to pass_through) mail p = absurd (false≢true p)
serve_quiet plan (mailet.Bounce message pass_through) mail p = absurd (false≢true p)
serve_quiet plan (mailet.NotifyPostmaster pass_through) mail p = absurd (false≢true p)
serve_quiet plan mailet.LocalDelivery mail p = absurd (false≢true p)
serve_quiet plan (mailet.ToRepository path pass_through) mail p = absurd (false≢true p)
serve_quiet plan (mailet.RemoteDelivery outgoing schedule gateway bounce_processor) mail p = absurd (false≢true p)
serve_quiet plan (mailet.Fail text) mail p = refl

-- what is served quietly comes to where it goes
came_to : (facts : List Fact) (children : List Mail) (o : Outcome) → facts ≡ [] → children ≡ []
    → both (record { facts = facts; children = children }) o ≡ o
came_to facts children o f c = λ i. record { facts = f i ++ o.facts; children = c i ++ o.children }

module _ (r : Mailbox) (all single : Mail → Outcome) (a : IsAlone r all single) (name : List ℕ) (number : ℕ) where
  failed_one : (route : MailetRoute) (unserved : Unserved) → cut r unserved.mail.recipients ≡ r ∷ []
      → only r (failed route name number all unserved) ≡ failed route name number single (record { mail = restrict unserved.mail (r ∷ []); text = unserved.text })
  failed_one on_mailet.Ignore unserved h = a.one unserved.mail h
  failed_one (on_mailet.To state) unserved h = (leave_alone r state).one (record unserved.mail { error = failed_at name number unserved.text }) h

  failed_gone : (route : MailetRoute) (unserved : Unserved) → cut r unserved.mail.recipients ≡ [] → only r (failed route name number all unserved) ≡ nothing
  failed_gone on_mailet.Ignore unserved h = a.gone unserved.mail h
  failed_gone (on_mailet.To state) unserved h = (leave_alone r state).gone (record unserved.mail { error = failed_at name number unserved.text }) h

  onward_one : (mail : Mail) (onward : Onward) → GoesWith mail onward → cut r mail.recipients ≡ r ∷ [] → only r (gone all onward) ≡ gone single (onward_for (r ∷ []) onward)
  onward_one mail (GoOn next) g h = a.one next (ap (cut r) g ∙ h)
  onward_one mail (Leave next state) g h = (leave_alone r state).one next (ap (cut r) g ∙ h)
  onward_one mail End g h = absurd g

  onward_gone : (mail : Mail) (onward : Onward) → GoesWith mail onward → cut r mail.recipients ≡ [] → only r (gone all onward) ≡ nothing
  onward_gone mail (GoOn next) g h = a.gone next (ap (cut r) g ∙ h)
  onward_gone mail (Leave next state) g h = (leave_alone r state).gone next (ap (cut r) g ∙ h)
  onward_gone mail End g h = absurd g

  settled_one : (route : MailetRoute) (mail : Mail) (service : Result Served Unserved) → IsQuiet mail service → cut r mail.recipients ≡ r ∷ []
      → only r (settled route name number all service) ≡ settled route name number single (restricted (r ∷ []) service)
  settled_one route mail (Ok s) q h =
      ap (only r) (came_to s.facts s.children (gone all s.onward) q.facts q.children)
      ∙ onward_one mail s.onward q.onward h
      ∙ sym (came_to s.facts s.children (gone single (onward_for (r ∷ []) s.onward)) q.facts q.children)
  settled_one route mail (Err unserved) q h = failed_one route unserved (ap (cut r) q ∙ h)

  settled_gone : (route : MailetRoute) (mail : Mail) (service : Result Served Unserved) → IsQuiet mail service → cut r mail.recipients ≡ []
      → only r (settled route name number all service) ≡ nothing
  settled_gone route mail (Ok s) q h = ap (only r) (came_to s.facts s.children (gone all s.onward) q.facts q.children) ∙ onward_gone mail s.onward q.onward h
  settled_gone route mail (Err unserved) q h = failed_gone route unserved (ap (cut r) q ∙ h)

  served_alone : (plan : Plan) (step : Step) → is_plain_mailet step.mailet ≡ true
      → IsAlone r (served plan name number step all) (served plan name number step single)
  served_alone plan step p = record {
    one = λ mail h. settled_one step.on_mailet mail (serve plan step.mailet mail) (serve_quiet plan step.mailet mail p) h
        ∙ ap (settled step.on_mailet name number single) (sym (serve_restricts plan step.mailet mail (r ∷ []) p));
    gone = λ mail h. settled_gone step.on_mailet mail (serve plan step.mailet mail) (serve_quiet plan step.mailet mail p) h;
  }

-- ---- A step

module _ (r : Mailbox) (all single : Mail → Outcome) (a : IsAlone r all single) (plan : Plan) (name : List ℕ) (number : ℕ) (step : Step)
    (p : is_plain_mailet step.mailet ≡ true) where
  serving : IsAlone r (served plan name number step all) (served plan name number step single)
  serving = served_alone r all single a name number plan step p

  hit_one : (mail : Mail) (hs ms : List Mailbox) (t : Bool) → (t ≡ true → cut r hs ≡ r ∷ []) → (t ≡ true → cut r ms ≡ []) → (t ≡ false → cut r hs ≡ [])
      → (t ≡ false → cut r ms ≡ r ∷ []) → cut r mail.recipients ≡ r ∷ []
      → only r (parted (served plan name number step all) all mail hs ms) ≡ (if t then served plan name number step single (restrict mail (r ∷ [])) else single (restrict mail (r ∷ [])))
  hit_one mail [] ms true hs_in ms_out hs_out ms_in h = absurd (false≢true (ap is_filled (hs_in refl)))
  hit_one mail [] ms false hs_in ms_out hs_out ms_in h = a.one mail h
  hit_one mail (q ∷ hs) ms true hs_in ms_out hs_out ms_in h =
      only_both r (served plan name number step all (restrict mail (q ∷ hs))) (part all mail ms)
      ∙ (λ i. both (serving.one (restrict mail (q ∷ hs)) (hs_in refl) i) (part_gone r all single a mail ms (ms_out refl) i))
      ∙ both_nothing (served plan name number step single (restrict mail (r ∷ [])))
  hit_one mail (q ∷ hs) ms false hs_in ms_out hs_out ms_in h =
      only_both r (served plan name number step all (restrict mail (q ∷ hs))) (part all mail ms)
      ∙ (λ i. both (serving.gone (restrict mail (q ∷ hs)) (hs_out refl) i) (part_one r all single a mail ms (ms_in refl) i))

  parted_gone : (mail : Mail) (hs ms : List Mailbox) → cut r hs ≡ [] → cut r ms ≡ [] → cut r mail.recipients ≡ []
      → only r (parted (served plan name number step all) all mail hs ms) ≡ nothing
  parted_gone mail [] ms hs_out ms_out h = a.gone mail h
  parted_gone mail (q ∷ hs) ms hs_out ms_out h =
      only_both r (served plan name number step all (restrict mail (q ∷ hs))) (part all mail ms)
      ∙ (λ i. both (serving.gone (restrict mail (q ∷ hs)) hs_out i) (part_gone r all single a mail ms ms_out i))

  split_one : (mail : Mail) (v : Verdict) → cut r mail.recipients ≡ r ∷ [] → only r (split plan name number step all mail v) ≡ walk plan name number step single r (restrict mail (r ∷ [])) v
  split_one mail (Leaves state reason) h = (leave_alone r state).one (record mail { error = failed_at name number reason }) h
  split_one mail (Takes test) h =
      let miss = λ (q : Mailbox). not (test q) in
      hit_one mail (filter test mail.recipients) (filter miss mail.recipients) (test r)
      (λ e. kept (same_address r) test r mail.recipients h e) (λ e. left_out (same_address r) miss r mail.recipients h (ap not e))
      (λ e. left_out (same_address r) test r mail.recipients h e) (λ e. kept (same_address r) miss r mail.recipients h (ap not e)) h

  split_gone : (mail : Mail) (v : Verdict) → cut r mail.recipients ≡ [] → only r (split plan name number step all mail v) ≡ nothing
  split_gone mail (Leaves state reason) h = (leave_alone r state).gone (record mail { error = failed_at name number reason }) h
  split_gone mail (Takes test) h =
      let miss = λ (q : Mailbox). not (test q) in
      parted_gone mail (filter test mail.recipients) (filter miss mail.recipients) (still_gone (same_address r) test mail.recipients h) (still_gone (same_address r) miss mail.recipients h) h

-- ---- A processor

-- what a plain step is
record IsPlainStep (step : Step) : Type 0 where
  matcher : is_plain_matcher step.matcher ≡ true
  mailet : is_plain_mailet step.mailet ≡ true

plain_parts : (step : Step) → is_plain_step step ≡ true → IsPlainStep step
plain_parts step h =
    let parts = and_parts (is_plain_matcher step.matcher) (is_plain_mailet step.mailet) h in
    record { matcher = parts.0; mailet = parts.1 }

run_alone : (plan : Plan) (r : Mailbox) (name : List ℕ) (number : ℕ) (steps : List Step) → is_plain steps ≡ true → IsAlone r (run plan name number steps) (alone plan name number steps r)
run_alone plan r name number [] h = fell_off_alone r name
run_alone plan r name number (step ∷ steps) h =
    let parts = and_parts (is_plain_step step) (is_plain steps) h in
    let here = plain_parts step parts.0 in
    let rest = run_alone plan r name (number + 1) steps parts.1 in
    record {
      one = λ mail c. split_one r (run plan name (number + 1) steps) (alone plan name (number + 1) steps r) rest plan name number step here.mailet mail (verdict plan step mail) c
          ∙ ap (walk plan name number step (alone plan name (number + 1) steps r) r (restrict mail (r ∷ []))) (sym (verdict_same plan step mail (r ∷ []) here.matcher));
      gone = λ mail c. split_gone r (run plan name (number + 1) steps) (alone plan name (number + 1) steps r) rest plan name number step here.mailet mail (verdict plan step mail) c;
    }

-- ---- One fact or child

leave_count : (state : List ℕ) (mail : Mail) (b : Bool) → count (leave_if b state mail) ≡ 1
leave_count state mail true = refl
leave_count state mail false = refl

module _ (on : Mail → Outcome) (single : (mail : Mail) → count (on mail) ≡ 1) (name : List ℕ) (number : ℕ) where
  failed_count : (route : MailetRoute) (unserved : Unserved) → count (failed route name number on unserved) ≡ 1
  failed_count on_mailet.Ignore unserved = single unserved.mail
  failed_count (on_mailet.To state) unserved = leave_count state (record unserved.mail { error = failed_at name number unserved.text }) (bytes_eq state ghost_state)

  onward_count : (mail : Mail) (onward : Onward) → GoesWith mail onward → count (gone on onward) ≡ 1
  onward_count mail (GoOn next) g = single next
  onward_count mail (Leave next state) g = leave_count state next (bytes_eq state ghost_state)
  onward_count mail End g = absurd g

  settled_count : (route : MailetRoute) (mail : Mail) (service : Result Served Unserved) → IsQuiet mail service → count (settled route name number on service) ≡ 1
  settled_count route mail (Ok s) q = ap count (came_to s.facts s.children (gone on s.onward) q.facts q.children) ∙ onward_count mail s.onward q.onward
  settled_count route mail (Err unserved) q = failed_count route unserved

  hit_count : (plan : Plan) (step : Step) (mail : Mail) (t : Bool) → IsPlainStep step → count (if t then served plan name number step on mail else on mail) ≡ 1
  hit_count plan step mail true here = settled_count step.on_mailet mail (serve plan step.mailet mail) (serve_quiet plan step.mailet mail here.mailet)
  hit_count plan step mail false here = single mail

  walk_count : (plan : Plan) (step : Step) (r : Mailbox) (mail : Mail) (v : Verdict) → IsPlainStep step → count (walk plan name number step on r mail v) ≡ 1
  walk_count plan step r mail (Leaves state reason) here = leave_count state (record mail { error = failed_at name number reason }) (bytes_eq state ghost_state)
  walk_count plan step r mail (Takes test) here = hit_count plan step mail (test r) here

alone_count : (plan : Plan) (name : List ℕ) (number : ℕ) (steps : List Step) (r : Mailbox) (mail : Mail) → is_plain steps ≡ true → count (alone plan name number steps r mail) ≡ 1
alone_count plan name number [] r mail h = refl
alone_count plan name number (step ∷ steps) r mail h =
    let parts = and_parts (is_plain_step step) (is_plain steps) h in
    walk_count (alone plan name (number + 1) steps r) (λ m. alone_count plan name (number + 1) steps r m parts.1) name number plan step r mail (verdict plan step mail) (plain_parts step parts.0)

-- ---- The theorem

only_from_by : (r : Mailbox) (j : ℕ) (child : Mail) (children : List Mail) (rs : List Mailbox)
    → map nameless (filter_map (child_of r) (numbered_from (j + 1) children)) ≡ map nameless (filter_map (child_of r) children)
    → map nameless (cons_option (named (restrict (numbered_child j child)) rs) (filter_map (child_of r) (numbered_from (j + 1) children)))
    ≡ map nameless (cons_option (named (restrict child) rs) (filter_map (child_of r) children))
only_from_by r j child children [] ih = ih
only_from_by r j child children (q ∷ rs) ih = ap (λ cs. nameless (restrict child (q ∷ rs)) ∷ cs) ih

-- however the children are numbered, they are the same without numbers
only_from : (r : Mailbox) (j : ℕ) (children : List Mail) → map nameless (filter_map (child_of r) (numbered_from j children)) ≡ map nameless (filter_map (child_of r) children)
only_from r j [] = refl
only_from r j (child ∷ children) = only_from_by r j child children (cut r child.recipients) (only_from r (j + 1) children)

only_numbered : (r : Mailbox) (o : Outcome) → numberless (only r (numbered o)) ≡ numberless (only r o)
only_numbered r o = λ i. record { facts = filter_map (fact_of r) o.facts; children = only_from r 1 o.children i }

count_numberless : (o : Outcome) → count (numberless o) ≡ count o
count_numberless o = ap (λ n. length o.facts + n) (length-map o.children nameless)

pub as_alone : (plan : Plan) (processor : Processor) (mail : Mail) → is_plain processor.steps ≡ true → AreDifferent mail.recipients
    → (r : Mailbox) → Contains mail.recipients r → IsAsAlone plan processor mail (numbered (run plan processor.name 1 processor.steps mail)) r
as_alone plan processor mail plain apart r has =
    let single = alone plan processor.name 1 processor.steps r (restrict mail (r ∷ [])) in
    let o = run plan processor.name 1 processor.steps mail in
    let here : cut r mail.recipients ≡ r ∷ [] = alone_in same_address same_laws.refl same_laws.symm r mail.recipients has.0 has.1 has.2 apart in
    let same : numberless (only r (numbered o)) ≡ numberless single =
    only_numbered r o ∙ ap numberless ((run_alone plan r processor.name 1 processor.steps plain).one mail here) in
    record {
      same = same;
      one = sym (count_numberless (only r (numbered o))) ∙ ap count same ∙ count_numberless single ∙ alone_count plan processor.name 1 processor.steps r (restrict mail (r ∷ [])) plain;
    }
