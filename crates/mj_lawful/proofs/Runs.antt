-- Whatever happens to a machine, its entries are lawful, and they only grow.
use Rattle.std.proofs.Common.{◌≡◌, ◌⊎◌, ℕ, suc, ◌<◌, ◌≤◌, nat_lt, nat_le, Bool, true, false, ◌&&◌, not, inl, inr, List, [], ◌∷◌, ◌++◌, length, Option, Some, None, if◌then◌else◌, refl, sym, ap, ◌∙◌, subst, arith, append_assoc, append-nil}
use Rattle.std.specs.List.{list_all}
use Rattle.std.proofs.lemmas.Bool.{and_parts}
use Rattle.std.proofs.lemmas.Bool.Decides.{nat_tests}
use Rattle.mj_mail.specs.declared.entry.Entry.{Entry}
use Rattle.mj_mail.specs.declared.entry.Entry.TheVariants.{Setup as SetupEntry, Accept as AcceptEntry}
use Rattle.mj_mail.specs.declared.mail.Mail.{Mail}
use Rattle.mj_mail.specs.declared.mail.NewMail.{NewMail}
use Rattle.mj_mail.specs.declared.name.Name.{Name}
use Rattle.mj_mail.specs.Rules.{is_acceptable}
use Rattle.mj_lawful.specs.Attempts.{IsFrontOf}
use Rattle.mj_lawful.specs.Configurations.{Meanings}
use Rattle.mj_lawful.specs.Entries.{accepted, epochs, files, in_force, pending}
use Rattle.mj_lawful.specs.Lawful.{AreLawful, Fits, FitsAccept, FitsSetup, Has, has_file, is_change, max_epochs, max_file}
use Rattle.mj_lawful.specs.Machine.{after, Claim, claim_of, committed, done_of, enabled, Event, fresh, goes_on, happens, is_empty, Machine, mail_of, may_accept, may_set_up, run, set_up, with_step}
use Rattle.mj_lawful.specs.Machine.Event.{Accept, CloseIntake, Take, Attempt, Commit, Advance, Stop, Crash, Reopen, Setup}
use Rattle.mj_lawful.specs.Places.{same_name}
use Rattle.mj_lawful.proofs.Behind.{epochs_append}
use Rattle.mj_lawful.proofs.Cut.{lawful_more}
use Rattle.mj_lawful.proofs.Names.{same_is}

-- lawful, and begun
abbrev pub IsWell : Meanings → List Entry → Type 0
IsWell r entries = AreLawful r entries × (0 < epochs entries)

found_by : (mail other : Mail) (mails : List Mail) (name : Name) (b : Bool) → same_name other.name name ≡ b
    → (mail_of mails name ≡ Some mail → Has mails mail × (mail.name ≡ name))
    → (if b then Some other else mail_of mails name) ≡ Some mail → ((other ≡ mail) ⊎ Has mails mail) × (mail.name ≡ name)
found_by mail other mails name true same rest found =
    let is : other ≡ mail = cc in
    (inl is, ap (λ (m : Mail). m.name) (sym is) ∙ same_is other.name name same)
found_by mail other mails name false same rest found = let held = rest found in (inr held.0, held.1)

-- the mail that is found by its name is one of these, and has the name
pub mail_found : (mails : List Mail) (name : Name) (mail : Mail) → mail_of mails name ≡ Some mail → Has mails mail × (mail.name ≡ name)
mail_found [] name mail found = cc
mail_found (other ∷ mails) name mail found = found_by mail other mails name (same_name other.name name) refl (mail_found mails name mail) found

-- ---- Each entry that is added is lawful

well_more : (r : Meanings) (entries : List Entry) (entry : Entry) → IsWell r entries → Fits r entries entry → IsWell r (entries ++ entry ∷ [])
well_more r entries entry well fits =
    let begun : 0 < epochs entries = well.1 in
    let more = epochs_append entries (entry ∷ []) in
    (lawful_more r [] entries entry well.0 fits, omega arith)

well_step : (r : Meanings) (entries : List Entry) (name : Name) (found : Option Mail) → mail_of (pending r entries) name ≡ found
    → IsWell r entries → IsWell r (with_step r entries found)
well_step r entries name None is well = well
well_step r entries name (Some mail) is well =
    well_more r entries (done_of r (epochs entries) mail) well
    (record { mail = mail; waits = (mail_found (pending r entries) name mail is).0; named = refl; answered = refl; stepped = refl })

well_committed : (r : Meanings) (entries : List Entry) (found : Option Claim) → IsWell r entries → IsWell r (committed r entries found)
well_committed r entries None well = well
well_committed r entries (Some claim) well = well_step r entries claim.name (mail_of (pending r entries) claim.name) refl well

below : (n k : ℕ) → nat_lt n k ≡ true → n < k
below n k h = grind (arith, nat_tests)

at_most : (n k : ℕ) → nat_le n k ≡ true → n ≤ k
at_most n k h = grind (arith, nat_tests)

setup_fits : (r : Meanings) (entries : List Entry) (plan : List ℕ) → r.plan (suc (epochs entries)) ≡ Some plan
    → may_set_up r entries (Some plan) ≡ true → FitsSetup r entries plan
setup_fits r entries plan is may =
    let all_sound = list_all (r.sound (suc (epochs entries))) (pending r entries) in
    let changed = and_parts (is_change (in_force entries) plan) (nat_lt (epochs entries) max_epochs && all_sound) may in
    let kept = and_parts (nat_lt (epochs entries) max_epochs) all_sound changed.1 in
    record { next = is; change = changed.0; few = below (epochs entries) max_epochs kept.0; sound = kept.1 }

well_set_up : (r : Meanings) (entries : List Entry) (plan : Option (List ℕ)) → r.plan (suc (epochs entries)) ≡ plan → may_set_up r entries plan ≡ true
    → IsWell r entries → IsWell r (set_up entries plan)
well_set_up r entries None is may well = well
well_set_up r entries (Some plan) is may well = well_more r entries (SetupEntry plan) well (setup_fits r entries plan is may)

pub not_so : (b : Bool) → not b ≡ true → b ≡ false
not_so true h = cc
not_so false h = refl

accept_fits : (r : Meanings) (entries : List Entry) (file : List ℕ) (new : NewMail) → 0 < epochs entries → may_accept entries file new ≡ true
    → FitsAccept r entries (suc (length (accepted entries))) file new
accept_fits r entries file new begun may =
    let short = and_parts (nat_le (length file) max_file) (not (has_file (files entries) file) && is_acceptable new) may in
    let unheard = and_parts (not (has_file (files entries) file)) (is_acceptable new) short.1 in
    record {
      begun = begun;
      counted = refl;
      short = at_most (length file) max_file short.0;
      unheard = not_so (has_file (files entries) file) unheard.0;
      acceptable = unheard.1;
    }

-- an enabled event keeps the entries lawful
pub well_after : (r : Meanings) (state : Machine) (event : Event) → enabled r state event ≡ true → IsWell r state.entries
    → IsWell r (after r state event).entries
well_after r state (Accept file new) on well =
    let open_now = and_parts (goes_on state) (state.intake && may_accept state.entries file new) on in
    let may = and_parts state.intake (may_accept state.entries file new) open_now.1 in
    well_more r state.entries (AcceptEntry (suc (length (accepted state.entries))) file new) well (accept_fits r state.entries file new well.1 may.1)
well_after r state CloseIntake on well = well
well_after r state (Take worker name) on well = well
well_after r state (Attempt worker) on well = well
well_after r state (Commit worker) on well = well_committed r state.entries (claim_of state.claims worker) well
well_after r state (Advance moment) on well = well
well_after r state (Stop worker cause) on well = well
well_after r state Crash on well = well
well_after r state Reopen on well = well
well_after r state Setup on well =
    let plan = r.plan (suc (epochs state.entries)) in
    let idle = and_parts (goes_on state) (is_empty state.claims && may_set_up r state.entries plan) on in
    let may = and_parts (is_empty state.claims) (may_set_up r state.entries plan) idle.1 in
    well_set_up r state.entries plan refl may.1 well

well_by : (r : Meanings) (state : Machine) (event : Event) (b : Bool) → enabled r state event ≡ b → IsWell r state.entries
    → IsWell r (if b then after r state event else state).entries
well_by r state event true on well = well_after r state event on well
well_by r state event false on well = well

pub well_happens : (r : Meanings) (state : Machine) (event : Event) → IsWell r state.entries → IsWell r (happens r state event).entries
well_happens r state event well = well_by r state event (enabled r state event) refl well

pub well_run : (r : Meanings) (state : Machine) (events : List Event) → IsWell r state.entries → IsWell r (run r state events).entries
well_run r state [] well = well
well_run r state (event ∷ events) well = well_run r (happens r state event) events (well_happens r state event well)

pub well_fresh : (r : Meanings) (plan : List ℕ) → r.plan 1 ≡ Some plan → IsWell r (fresh r plan).entries
well_fresh r plan is = ((record { next = is; change = refl; few = omega arith; sound = refl }, tt), omega arith)

-- ---- Entries only grow

front_itself : (entries : List Entry) → IsFrontOf entries entries
front_itself entries = ([], append-nil entries)

front_trans : (xs ys zs : List Entry) → IsFrontOf xs ys → IsFrontOf ys zs → IsFrontOf xs zs
front_trans xs ys zs first second = (first.0 ++ second.0, sym (append_assoc xs first.0 second.0) ∙ (ap (λ l. l ++ second.0) first.1 ∙ second.1))

front_step : (r : Meanings) (entries : List Entry) (found : Option Mail) → IsFrontOf entries (with_step r entries found)
front_step r entries None = front_itself entries
front_step r entries (Some mail) = (done_of r (epochs entries) mail ∷ [], refl)

front_committed : (r : Meanings) (entries : List Entry) (found : Option Claim) → IsFrontOf entries (committed r entries found)
front_committed r entries None = front_itself entries
front_committed r entries (Some claim) = front_step r entries (mail_of (pending r entries) claim.name)

front_set_up : (entries : List Entry) (plan : Option (List ℕ)) → IsFrontOf entries (set_up entries plan)
front_set_up entries None = front_itself entries
front_set_up entries (Some plan) = (SetupEntry plan ∷ [], refl)

pub front_after : (r : Meanings) (state : Machine) (event : Event) → IsFrontOf state.entries (after r state event).entries
front_after r state (Accept file new) = (AcceptEntry (suc (length (accepted state.entries))) file new ∷ [], refl)
front_after r state CloseIntake = front_itself state.entries
front_after r state (Take worker name) = front_itself state.entries
front_after r state (Attempt worker) = front_itself state.entries
front_after r state (Commit worker) = front_committed r state.entries (claim_of state.claims worker)
front_after r state (Advance moment) = front_itself state.entries
front_after r state (Stop worker cause) = front_itself state.entries
front_after r state Crash = front_itself state.entries
front_after r state Reopen = front_itself state.entries
front_after r state Setup = front_set_up state.entries (r.plan (suc (epochs state.entries)))

front_by : (r : Meanings) (state : Machine) (event : Event) (b : Bool) → IsFrontOf state.entries (if b then after r state event else state).entries
front_by r state event true = front_after r state event
front_by r state event false = front_itself state.entries

pub front_run : (r : Meanings) (state : Machine) (events : List Event) → IsFrontOf state.entries (run r state events).entries
front_run r state [] = front_itself state.entries
front_run r state (event ∷ events) =
    front_trans state.entries (happens r state event).entries (run r (happens r state event) events).entries
    (front_by r state event (enabled r state event)) (front_run r (happens r state event) events)

run_append : (r : Meanings) (state : Machine) (events more : List Event) → run r state (events ++ more) ≡ run r (run r state events) more
run_append r state [] more = refl
run_append r state (event ∷ events) more = run_append r (happens r state event) events more

-- the entries after some events are a front of those after more
pub front_of_later : (r : Meanings) (state : Machine) (events more : List Event)
    → IsFrontOf (run r state events).entries (run r state (events ++ more)).entries
front_of_later r state events more =
    subst (λ (later : Machine). IsFrontOf (run r state events).entries later.entries) (sym (run_append r state events more))
    (front_run r (run r state events) more)
