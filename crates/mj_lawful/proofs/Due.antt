-- What is pending behind an entry that is added to a lawful list, and how many configurations such a list has.
use Rattle.std.proofs.Common.{◌≡◌, ℕ, suc, ◌+◌, ◌<◌, ◌≤◌, true, List, [], ◌∷◌, ◌++◌, length, Option, Some, None, refl, sym, subst, append_assoc, append-nil, arith}
use Rattle.mj_mail.specs.declared.entry.Entry.{Entry}
use Rattle.mj_mail.specs.declared.entry.Entry.TheVariants.{Setup, Accept, Done}
use Rattle.mj_mail.specs.declared.mail.Mail.{Mail}
use Rattle.mj_mail.specs.declared.mail.NewMail.{NewMail}
use Rattle.mj_mail.specs.declared.name.Name.{Name}
use Rattle.mj_mail.specs.Rules.{replies_to}
use Rattle.mj_lawful.specs.Configurations.{Laws, Meanings, outcome_at}
use Rattle.mj_lawful.specs.Entries.{accepted, epochs, pending}
use Rattle.mj_lawful.specs.Lawful.{AreLawful, AreLawfulBehind, Fits, max_epochs}
use Rattle.mj_lawful.specs.Machine.{done_of, mail_of, set_up}
use Rattle.mj_lawful.proofs.Behind.{epochs_append}
use Rattle.mj_lawful.proofs.Cut.{lawful_front, reached}
use Rattle.mj_lawful.proofs.Holds.{accepted_fresh, children_fresh, pending_accept, pending_done, pending_setup, steps_of}
use Rattle.mj_lawful.proofs.Pending.{all_has, without}
use Rattle.mj_lawful.proofs.Runs.{mail_found}

-- the last entry of a lawful list is lawful behind the others
pub lawful_last : (r : Meanings) (before entries : List Entry) (entry : Entry) → AreLawfulBehind r before (entries ++ entry ∷ [])
    → Fits r (before ++ entries) entry
lawful_last r before [] entry h = subst (λ es. Fits r es entry) (sym (append-nil before)) h.0
lawful_last r before (e ∷ entries) entry h =
    subst (λ es. Fits r es entry) (append_assoc before (e ∷ []) entries) (lawful_last r (before ++ e ∷ []) entries entry h.1)

-- the first mail of what was accepted comes behind those that are pending
pub pending_with_first : (r : Meanings) → Laws r → (entries : List Entry) (number : ℕ) (file : List ℕ) (new : NewMail)
    → AreLawful r (entries ++ Accept number file new ∷ [])
    → pending r (entries ++ Accept number file new ∷ []) ≡ pending r entries ++ r.first (epochs entries) number new ∷ []
pending_with_first r laws entries number file new lawful =
    let holds = (reached r laws entries (lawful_front r [] entries (Accept number file new ∷ []) lawful)).0 in
    pending_accept r entries number file new
    (accepted_fresh r laws entries number file new holds (lawful_last r [] entries (Accept number file new) lawful))

-- a pending mail is sound for the configuration in force
pub sound_found : (r : Meanings) → Laws r → (entries : List Entry) → AreLawful r entries → (name : Name) (mail : Mail)
    → mail_of (pending r entries) name ≡ Some mail → r.sound (epochs entries) mail ≡ true
sound_found r laws entries lawful name mail found =
    all_has (λ other. r.sound (epochs entries) other ≡ true) (pending r entries) mail (reached r laws entries lawful).0.sound
    (mail_found (pending r entries) name mail found).0

-- a mail that took its step isn't pending any more, and its children come behind those that are
pub pending_with_step : (r : Meanings) → Laws r → (entries : List Entry) → AreLawful r entries → (name : Name) (mail : Mail)
    → mail_of (pending r entries) name ≡ Some mail
    → pending r (entries ++ done_of r (epochs entries) mail ∷ []) ≡ without mail.name (pending r entries) ++ (outcome_at r (epochs entries) mail).children
pending_with_step r laws entries lawful name mail found =
    let holds = (reached r laws entries lawful).0 in
    let replies = replies_to (r.reply (epochs entries)) mail in
    let outcome = outcome_at r (epochs entries) mail in
    let waits = (mail_found (pending r entries) name mail found).0 in
    pending_done r entries mail.name replies outcome
    (children_fresh r entries mail.name replies outcome holds
    (steps_of r laws entries mail.name replies outcome holds
    (record { mail = mail; waits = waits; named = refl; answered = refl; stepped = refl })))

-- a configuration that comes into force leaves those that are pending
pub pending_with_plan : (r : Meanings) (entries : List Entry) (plan : Option (List ℕ)) → pending r (set_up entries plan) ≡ pending r entries
pending_with_plan r entries None = refl
pending_with_plan r entries (Some plan) = pending_setup r entries plan

few_behind : (r : Meanings) (before entries : List Entry) → epochs before ≤ max_epochs → AreLawfulBehind r before entries
    → epochs before + epochs entries ≤ max_epochs
few_behind r before [] few h = omega arith
few_behind r before (Setup plan ∷ entries) few h =
    let next : epochs (before ++ Setup plan ∷ []) ≡ epochs before + suc 0 = epochs_append before (Setup plan ∷ []) in
    let fits : epochs before < max_epochs = h.0.few in
    let rest = few_behind r (before ++ Setup plan ∷ []) entries (omega arith) h.1 in
    omega arith
few_behind r before (Accept number file new ∷ entries) few h =
    let next : epochs (before ++ Accept number file new ∷ []) ≡ epochs before + 0 = epochs_append before (Accept number file new ∷ []) in
    let rest = few_behind r (before ++ Accept number file new ∷ []) entries (omega arith) h.1 in
    omega arith
few_behind r before (Done name replies outcome ∷ entries) few h =
    let next : epochs (before ++ Done name replies outcome ∷ []) ≡ epochs before + 0 = epochs_append before (Done name replies outcome ∷ []) in
    let rest = few_behind r (before ++ Done name replies outcome ∷ []) entries (omega arith) h.1 in
    omega arith

-- a lawful list has no more configurations than may be
pub few_epochs : (r : Meanings) (entries : List Entry) → AreLawful r entries → epochs entries ≤ max_epochs
few_epochs r entries lawful = let few = few_behind r [] entries (omega arith) lawful in omega arith

-- each entry is of one kind
pub accepted_within : (entries : List Entry) → length (accepted entries) + epochs entries ≤ length entries
accepted_within [] = omega arith
accepted_within (Setup plan ∷ entries) = let rest = accepted_within entries in omega arith
accepted_within (Accept number file new ∷ entries) = let rest = accepted_within entries in omega arith
accepted_within (Done name replies outcome ∷ entries) = let rest = accepted_within entries in omega arith
