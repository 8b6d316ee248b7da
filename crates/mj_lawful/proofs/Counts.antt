-- How often mails are attempted: once a mail that is sent to a host and is done, once more for each crash at which an
-- attempted claim on it stood, and once if one stands now. With it, all that holds of a machine after any events.
use Rattle.std.proofs.Common.{◌≡◌, ℕ, suc, ◌+◌, Bool, true, false, ◌&&◌, ◌||◌, not, List, [], ◌∷◌, ◌++◌, length, Option, Some, None, if◌then◌else◌, refl, sym, ap, ◌∙◌, subst, arith, true≢false, nat_lt, ◌==◌}
use Rattle.std.specs.List.{AllByRecursion}
use Rattle.std.proofs.lemmas.Bool.{and_parts}
use Rattle.mj_mail.specs.declared.entry.Entry.{Entry}
use Rattle.mj_mail.specs.declared.entry.Entry.TheVariants.{Setup as SetupEntry, Accept as AcceptEntry}
use Rattle.mj_mail.specs.declared.fact.Outcome.{Outcome}
use Rattle.mj_mail.specs.declared.mail.Mail.{Mail}
use Rattle.mj_mail.specs.declared.name.Name.{Name}
use Rattle.mj_mail.specs.Mail.{is_remote}
use Rattle.mj_mail.specs.Rules.{replies_to}
use Rattle.mj_lawful.specs.Attempts.{one_if, times, stands, is_remote_mail, is_remote_done, is_crash, crashes, IsTrueAfter}
use Rattle.mj_lawful.specs.Configurations.{Laws, Meanings, outcome_at}
use Rattle.mj_lawful.specs.Entries.{epochs, accepted, is_done, births, births_from, pending}
use Rattle.mj_lawful.specs.Machine.{Claim, Event, Machine, claim_of, without_claim, is_claimed, mail_of, next_of, with_step, committed, set_up, done_of, goes_on, may_take, may_attempt, may_commit, max_workers, taken, with_claim, enabled, after, happens, run, fresh, is_none, claimed_name}
use Rattle.mj_lawful.specs.Machine.Event.{Accept, CloseIntake, Take, Attempt, Commit, Advance, Stop, Crash, Reopen, Setup}
use Rattle.mj_lawful.specs.Places.{same_name}
use Rattle.mj_lawful.proofs.Attempts.{and_no, standing, standing_is, AreRemote, IsTracked, times_append, standing_append, standing_attempt, standing_commit, pending_is, mail_of_more, remote_done_same, remote_grow, apart_attempt, apart_without, remote_without, remote_attempt, next_unclaimed, apart_push}
use Rattle.mj_lawful.proofs.Behind.{births_append}
use Rattle.mj_lawful.proofs.Cut.{reached, lawful_cut, done_is_meaning}
use Rattle.mj_lawful.proofs.Holds.{Holds, births_accept, births_done, done_setup, done_accept, done_done}
use Rattle.mj_lawful.proofs.Lists.{all_append}
use Rattle.mj_lawful.proofs.Names.{same_is}
use Rattle.mj_lawful.proofs.Runs.{IsWell, mail_found, not_so, well_happens, well_fresh, well_run, front_after, front_of_later}

-- ---- What an enabled event found

claim_found : (test : Bool → Option Mail → Bool) (mails : List Mail) (found : Option Claim) → with_claim test mails found ≡ true
    → (claim : Claim) × (found ≡ Some claim) × (test claim.attempted (mail_of mails claim.name) ≡ true)
claim_found test mails None h = absurd (true≢false (sym h))
claim_found test mails (Some claim) h = (claim, refl, h)

attempt_found : (claim : Claim) (found : Option Mail) → may_attempt claim.attempted found ≡ true
    → (mail : Mail) × (found ≡ Some mail) × (is_remote mail.stage ≡ true) × (claim.attempted ≡ false)
attempt_found claim None h = absurd (true≢false (sym h))
attempt_found claim (Some mail) h = let p = and_parts (is_remote mail.stage) (not claim.attempted) h in (mail, refl, p.0, not_so claim.attempted p.1)

commit_found : (claim : Claim) (found : Option Mail) → may_commit claim.attempted found ≡ true
    → (mail : Mail) × (found ≡ Some mail) × ((not (is_remote mail.stage) || claim.attempted) ≡ true)
commit_found claim None h = absurd (true≢false (sym h))
commit_found claim (Some mail) h = (mail, refl, h)

claim_free : (state : Machine) (claims : List Claim) (mails : List Mail) (name : Name) (found : Option Mail) → next_of claims mails ≡ found
    → may_take state name found ≡ true → is_claimed claims name ≡ false
claim_free state claims mails name None e h = absurd (true≢false (sym h))
claim_free state claims mails name (Some mail) e h =
    subst (λ n. is_claimed claims n ≡ false) (same_is mail.name name (and_parts (same_name mail.name name) _ h).0) (next_unclaimed claims mails mail e)

claim_all : (P : Claim → Type 0) (claims : List Claim) (worker : ℕ) (claim : Claim) → AllByRecursion P claims → claim_of claims worker ≡ Some claim → P claim
claim_all P [] worker claim h e = cc
claim_all P (x ∷ claims) worker claim h e = by (x.worker == worker) (claim_all P claims worker claim h.1) e
  where
    by : (b : Bool) → (claim_of claims worker ≡ Some claim → P claim) → (if b then Some x else claim_of claims worker) ≡ Some claim → P claim
    by true rest e = let is : x ≡ claim = cc in subst P is h.0
    by false rest e = rest e

abbrev pub Attempts : Meanings → Machine → ℕ → Type 0
Attempts r state worker =
    (claim : Claim) × (mail : Mail) × (claim_of state.claims worker ≡ Some claim) × (mail_of (pending r state.entries) claim.name ≡ Some mail)
    × (is_remote mail.stage ≡ true) × (claim.attempted ≡ false)

attempts_of : (r : Meanings) (state : Machine) (worker : ℕ) → enabled r state (Attempt worker) ≡ true → Attempts r state worker
attempts_of r state worker h =
    let a = claim_found may_attempt (pending r state.entries) (claim_of state.claims worker) (and_parts state.running _ h).1 in
    let b = attempt_found a.0 (mail_of (pending r state.entries) a.0.name) a.2 in
    (a.0, b.0, a.1, b.1, b.2, b.3)

abbrev pub Commits : Meanings → Machine → ℕ → Type 0
Commits r state worker =
    (claim : Claim) × (mail : Mail) × (claim_of state.claims worker ≡ Some claim) × (mail_of (pending r state.entries) claim.name ≡ Some mail)
    × ((not (is_remote mail.stage) || claim.attempted) ≡ true)

commits_of : (r : Meanings) (state : Machine) (worker : ℕ) → enabled r state (Commit worker) ≡ true → Commits r state worker
commits_of r state worker h =
    let a = claim_found may_commit (pending r state.entries) (claim_of state.claims worker) (and_parts (goes_on state) _ h).1 in
    let b = commit_found a.0 (mail_of (pending r state.entries) a.0.name) a.2 in
    (a.0, b.0, a.1, b.1, b.2)

-- ---- Claims

births_grow : (r : Meanings) (state : Machine) (event : Event) → (more : List Mail) × (births r (after r state event).entries ≡ births r state.entries ++ more)
births_grow r state event =
    let f = front_after r state event in
    (births_from r (0 + epochs state.entries) f.0, ap (births r) (sym f.1) ∙ births_append r 0 state.entries f.0)

remote_after : (r : Meanings) (state : Machine) (event : Event) (claims : List Claim) → AreRemote r state.entries claims
    → AreRemote r (after r state event).entries claims
remote_after r state event claims h =
    let g = births_grow r state event in
    remote_grow r state.entries (after r state event).entries g.0 claims g.1 h

tracked_after : (r : Meanings) (state : Machine) (event : Event) → enabled r state event ≡ true → IsTracked r state → IsTracked r (after r state event)
tracked_after r state (Accept file new) h t = record { apart = t.apart; remote = remote_after r state (Accept file new) state.claims t.remote; idle = t.idle }
tracked_after r state CloseIntake h t = record { apart = t.apart; remote = t.remote; idle = t.idle }
tracked_after r state (Take worker name) h t =
    let going = and_parts (goes_on state) _ h in
    let runs = and_parts state.running (is_none state.stop) going.0 in
    let numbered = and_parts (nat_lt worker max_workers) _ going.1 in
    let d = and_parts (is_none (claim_of state.claims worker)) _ numbered.1 in
    let claim = taken worker name in
    record {
      apart = apart_push state.claims claim t.apart (claim_free state state.claims (pending r state.entries) name
          (next_of state.claims (pending r state.entries)) refl d.1);
      remote = all_append (λ claim. claim.attempted ≡ true → is_remote_mail (mail_of (births r state.entries) claim.name) ≡ true) state.claims
          (claim ∷ []) t.remote
          ((λ e. absurd (true≢false (sym e))), tt);
      idle = λ e. absurd (true≢false (sym runs.0 ∙ e));
    }
tracked_after r state (Attempt worker) h t =
    let g = attempts_of r state worker h in
    let is : is_remote_mail (mail_of (births r state.entries) g.0.name) ≡ true = ap is_remote_mail (pending_is r state.entries g.0.name g.1 g.3).1 ∙ g.4 in
    record {
      apart = apart_attempt state.claims worker t.apart;
      remote = remote_attempt r state.entries state.claims worker g.0 g.2 is t.remote;
      idle = λ e. absurd (true≢false (sym (and_parts state.running _ h).0 ∙ e));
    }
tracked_after r state (Commit worker) h t = record {
  apart = apart_without state.claims worker t.apart;
  remote = remote_after r state (Commit worker) (without_claim state.claims worker)
      (remote_without (λ claim. claim.attempted ≡ true → is_remote_mail (mail_of (births r state.entries) claim.name) ≡ true) state.claims worker t.remote);
  idle = λ e. absurd (true≢false (sym (and_parts state.running (is_none state.stop) (and_parts (goes_on state) _ h).0).0 ∙ e));
}
tracked_after r state (Advance moment) h t = record { apart = t.apart; remote = t.remote; idle = t.idle }
tracked_after r state (Stop worker cause) h t = record { apart = t.apart; remote = t.remote; idle = t.idle }
tracked_after r state Crash h t = record { apart = tt; remote = tt; idle = λ e. refl }
tracked_after r state Reopen h t = record { apart = tt; remote = tt; idle = λ e. refl }
tracked_after r state Setup h t = record { apart = t.apart; remote = remote_after r state Setup state.claims t.remote; idle = t.idle }

pub tracked_happens : (r : Meanings) (state : Machine) (event : Event) → IsTracked r state → IsTracked r (happens r state event)
tracked_happens r state event t = by (enabled r state event) refl
  where
    by : (b : Bool) → enabled r state event ≡ b → IsTracked r (if b then after r state event else state)
    by true h = tracked_after r state event h t
    by false h = t

-- ---- The count

abbrev pub Counted : Meanings → Name → Machine → ℕ → Machine → Type 0
Counted r name state lost later =
    times name later.attempts + (one_if (is_remote_done r state.entries name) + standing name state.claims)
    ≡ times name state.attempts + (one_if (is_remote_done r later.entries name) + (lost + standing name later.claims))

same_bools : (a b : Bool) → (not b || a) ≡ true → (a ≡ true → b ≡ true) → a ≡ b
same_bools true true h g = refl
same_bools true false h g = sym (g refl)
same_bools false true h g = h
same_bools false false h g = refl

and_yes : (a : Bool) → (a && true) ≡ a
and_yes true = refl
and_yes false = refl

or_yes : (a : Bool) → (a || true) ≡ true
or_yes true = refl
or_yes false = refl

or_none : (a : Bool) → (a || false) ≡ a
or_none true = refl
or_none false = refl

-- a commit: where an attempted claim stood, a mail that is sent to a host is done
count_commit : (r : Meanings) (state : Machine) (worker : ℕ) (name : Name) → Holds r state.entries → IsTracked r state → (g : Commits r state worker)
    → (b : Bool)
    → same_name g.0.name name ≡ b
    → one_if (is_remote_done r state.entries name) + one_if (g.0.attempted && same_name g.0.name name) ≡ one_if
    (is_remote_done r (state.entries ++ done_of r (epochs state.entries) g.1 ∷ []) name)
count_commit r state worker name holds t g true e =
    let epoch = epochs state.entries in
    let claim = g.0 in
    let mail = g.1 in
    let outcome : Outcome = outcome_at r epoch mail in
    let same : claim.name ≡ name = same_is claim.name name e in
    let p = pending_is r state.entries name mail (subst (λ n. mail_of (pending r state.entries) n ≡ Some mail) same g.3) in
    let before : is_remote_done r state.entries name ≡ false = ap (λ b. b && is_remote_mail (mail_of (births r state.entries) name)) p.0 in
    let its : mail.name ≡ claim.name = (mail_found (pending r state.entries) claim.name mail g.3).1 in
    let done : is_done (state.entries ++ done_of r (epochs state.entries) mail ∷ []) name ≡ true =
    done_done state.entries mail.name (replies_to (r.reply epoch) mail) outcome name
    ∙ (ap (λ b. is_done state.entries name || b) (ap (λ n. same_name n name) its ∙ e) ∙ or_yes (is_done state.entries name)) in
    let found : mail_of (births r (state.entries ++ done_of r (epochs state.entries) mail ∷ [])) name ≡ Some mail =
    ap (λ ms. mail_of ms name) (births_done r state.entries mail.name (replies_to (r.reply epoch) mail) outcome) ∙ mail_of_more
    (births r state.entries) outcome.children name mail p.1 in
    let later : is_remote_done r (state.entries ++ done_of r (epochs state.entries) mail ∷ []) name ≡ is_remote mail.stage =
    (λ i. done i && is_remote_mail (found i)) in
    let tried : claim.attempted ≡ is_remote mail.stage =
    same_bools claim.attempted (is_remote mail.stage) g.4
    (λ a. ap is_remote_mail (sym (pending_is r state.entries claim.name mail g.3).1) ∙ claim_all
    (λ x. x.attempted ≡ true → is_remote_mail (mail_of (births r state.entries) x.name) ≡ true) state.claims worker claim t.remote g.2 a) in
    let one : one_if (claim.attempted && same_name claim.name name) ≡ one_if (is_remote mail.stage) = ap one_if
    (ap (λ b. claim.attempted && b) e ∙ (and_yes claim.attempted ∙ tried)) in
    let d0 : one_if (is_remote_done r state.entries name) ≡ 0 = ap one_if before in
    let d1 : one_if (is_remote_done r (state.entries ++ done_of r (epochs state.entries) mail ∷ []) name) ≡ one_if (is_remote mail.stage) = ap one_if later in
    omega arith
count_commit r state worker name holds t g false e =
    let epoch = epochs state.entries in
    let claim = g.0 in
    let mail = g.1 in
    let outcome : Outcome = outcome_at r epoch mail in
    let its : mail.name ≡ claim.name = (mail_found (pending r state.entries) claim.name mail g.3).1 in
    let done : is_done (state.entries ++ done_of r (epochs state.entries) mail ∷ []) name ≡ is_done state.entries name =
    done_done state.entries mail.name (replies_to (r.reply epoch) mail) outcome name
    ∙ (ap (λ b. is_done state.entries name || b) (ap (λ n. same_name n name) its ∙ e) ∙ or_none (is_done state.entries name)) in
    let later = remote_done_same r state.entries (state.entries ++ done_of r (epochs state.entries) mail ∷ []) outcome.children name holds
    (births_done r state.entries mail.name (replies_to (r.reply epoch) mail) outcome) done in
    let one : one_if (claim.attempted && same_name claim.name name) ≡ 0 = ap one_if (ap (λ b. claim.attempted && b) e ∙ and_no claim.attempted) in
    let d : one_if (is_remote_done r (state.entries ++ done_of r (epochs state.entries) mail ∷ []) name) ≡ one_if
    (is_remote_done r state.entries name) = ap one_if later in
    omega arith

count_set_up : (r : Meanings) (entries : List Entry) (plan : Option (List ℕ)) (name : Name) → Holds r entries
    → is_remote_done r (set_up entries plan) name ≡ is_remote_done r entries name
count_set_up r entries None name holds = refl
count_set_up r entries (Some plan) name holds =
    remote_done_same r entries (entries ++ SetupEntry plan ∷ []) [] name holds (births_append r 0 entries (SetupEntry plan ∷ [])) (done_setup entries plan name)

count_after : (r : Meanings) (state : Machine) (event : Event) (name : Name) → enabled r state event ≡ true → Holds r state.entries → IsTracked r state
    → Counted r name state (one_if (is_crash event && stands state.claims name)) (after r state event)
count_after r state (Accept file new) name h holds t =
    let number = suc (length (accepted state.entries)) in
    let d : one_if (is_remote_done r (state.entries ++ AcceptEntry number file new ∷ []) name) ≡ one_if (is_remote_done r state.entries name) =
    ap one_if (remote_done_same r state.entries (state.entries ++ AcceptEntry number file new ∷ []) (r.first (epochs state.entries) number new ∷ []) name holds
    (births_accept r state.entries number file new) (done_accept state.entries number file new name)) in
    omega arith
count_after r state CloseIntake name h holds t = omega arith
count_after r state (Take worker other) name h holds t =
    let e = standing_append name state.claims (taken worker other ∷ []) in omega arith
count_after r state (Attempt worker) name h holds t =
    let g = attempts_of r state worker h in
    let e = standing_attempt name state.claims worker g.0 g.2 g.5 in
    let f : times name (state.attempts ++ claimed_name (claim_of state.claims worker)) ≡ times name state.attempts + one_if (same_name g.0.name name) =
    times_append name state.attempts (claimed_name (claim_of state.claims worker))
    ∙ (ap (λ claim. times name state.attempts + times name (claimed_name claim)) g.2 ∙ (omega arith)) in
    omega arith
count_after r state (Commit worker) name h holds t =
    let g = commits_of r state worker h in
    let entries : committed r state.entries (claim_of state.claims worker) ≡ state.entries ++ done_of r (epochs state.entries) g.1 ∷ [] =
    ap (committed r state.entries) g.2 ∙ ap (with_step r state.entries) g.3 in
    let d : one_if (is_remote_done r (committed r state.entries (claim_of state.claims worker)) name) ≡ one_if
    (is_remote_done r (state.entries ++ done_of r (epochs state.entries) g.1 ∷ []) name) = ap (λ es. one_if (is_remote_done r es name)) entries in
    let e = standing_commit name state.claims worker g.0 g.2 in
    let f = count_commit r state worker name holds t g (same_name g.0.name name) refl in
    omega arith
count_after r state (Advance moment) name h holds t = omega arith
count_after r state (Stop worker cause) name h holds t = omega arith
count_after r state Crash name h holds t = let e = standing_is state.claims name t.apart in omega arith
count_after r state Reopen name h holds t = let e : standing name state.claims ≡ 0 = ap (standing name) (t.idle (not_so state.running h)) in omega arith
count_after r state Setup name h holds t =
    let d : one_if (is_remote_done r (set_up state.entries (r.plan (suc (epochs state.entries)))) name) ≡ one_if
    (is_remote_done r state.entries name) = ap one_if
    (count_set_up r state.entries (r.plan (suc (epochs state.entries))) name holds) in omega arith

count_happens : (r : Meanings) (state : Machine) (event : Event) (name : Name) → Holds r state.entries → IsTracked r state
    → Counted r name state (one_if (is_crash event && (enabled r state event && stands state.claims name))) (happens r state event)
count_happens r state event name holds t = by (enabled r state event) refl
  where
    by : (b : Bool) → enabled r state event ≡ b → Counted r name state (one_if (is_crash event && (b && stands state.claims name)))
        (if b then after r state event else state)
    by true h = count_after r state event name h holds t
    by false h = let z : one_if (is_crash event && false) ≡ 0 = ap one_if (and_no (is_crash event)) in omega arith

pub count_run : (r : Meanings) → Laws r → (state : Machine) (events : List Event) (name : Name) → IsWell r state.entries → IsTracked r state
    → Counted r name state (crashes r state events name) (run r state events) × IsTracked r (run r state events)
count_run r laws state [] name well t = ((omega arith), t)
count_run r laws state (event ∷ events) name well t =
    let one = count_happens r state event name (reached r laws state.entries well.0).0 t in
    let rest = count_run r laws (happens r state event) events name (well_happens r state event well) (tracked_happens r state event t) in
    let first = rest.0 in
    ((omega arith), rest.1)

pub tracked_fresh : (r : Meanings) (plan : List ℕ) → IsTracked r (fresh r plan)
tracked_fresh r plan = record { apart = tt; remote = tt; idle = λ e. refl }

pub attempts_are : (r : Meanings) → Laws r → (plan : List ℕ) → r.plan 1 ≡ Some plan → (events : List Event) (name : Name)
    → times name (run r (fresh r plan) events).attempts
    ≡ one_if (is_remote_done r (run r (fresh r plan) events).entries name) +
    (crashes r (fresh r plan) events name + one_if (stands (run r (fresh r plan) events).claims name))
attempts_are r laws plan is events name =
    let h = count_run r laws (fresh r plan) events name (well_fresh r plan is) (tracked_fresh r plan) in
    let e = standing_is (run r (fresh r plan) events).claims name h.1.apart in
    let f = h.0 in
    omega arith

pub true_after : (r : Meanings) → Laws r → (plan : List ℕ) → r.plan 1 ≡ Some plan → (events : List Event) → IsTrueAfter r plan events
true_after r laws plan is events =
    let well = well_run r (fresh r plan) events (well_fresh r plan is) in
    let entries = (run r (fresh r plan) events).entries in
    record {
      lawful = well.0;
      cut = lawful_cut r laws entries well.0;
      grows = front_of_later r (fresh r plan) events;
      ended = done_is_meaning r laws entries well.0;
      attempts = attempts_are r laws plan is events;
    }
