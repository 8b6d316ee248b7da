use Rattle.std.proofs.Common.{◌≡◌, suc, [], ◌∷◌, ◌++◌, length, ap, sym, ◌∙◌}
use Rattle.mj_mail.specs.declared.entry.Entry.TheVariants.{Accept as AcceptEntry}
use Rattle.mj_lawful.specs.Entries.{accepted, epochs, pending}
use Rattle.mj_lawful.specs.Machine.Event.{Accept}
use Rattle.mj_lawful.proofs.Due.{pending_with_first}
use Rattle.mj_lawful.proofs.Runs.{well_after}
use Rattle.mj_core.specs.Held.{Held}
use Rattle.mj_core.specs.Epochs.{meanings}
use Rattle.mj_core.proofs.Members.{laws_of_list, some_of}
use Rattle.mj_core.proofs.machine.Machine.accept.Goals as goal

pub numbered-requires : goal.numbered-requires
numbered-requires g c =
    let rules = g.R.Rules in
    some_of rules g.R.Stages.is_allowed c.args.epochs.now c.args.self.now
    c.requires.is_of

pub returns-clause-waiting : goal.returns-clause-waiting
returns-clause-waiting g c =
    let rules = g.R.Rules in
    let owed = g.met.R.Rules in
    let allowed = g.R.Stages.is_allowed in
    let list = c.args.epochs.now in
    let r = meanings rules allowed list in
    let laws = laws_of_list rules allowed owed.first_named owed.first_sound owed.children_named owed.children_sound owed.falls list in
    let held = c.args.self.now in
    let entries = held.machine.entries in
    let number = suc (length (accepted entries)) in
    let file = c.args.file.now in
    let new = c.args.mail.now in
    let lawful = (well_after r held.machine (Accept file new) c.requires.enabled (c.requires.is_of.lawful, c.requires.is_of.begun)).0 in
    let waiting = ap (λ (held : Held). held.waiting) c.self.view_is ∙ c.requires.is_of.waiting in
    let first = c.in_ok-first.ensures
    ∙ ((λ i. sym c.numbered.ensures.first i (c.next_number-number.ensures i) new) ∙ ap (λ epoch. r.first epoch number new) c.epoch.ensures.number) in
    let added : c.push_both.new.left ≡ entries ++ AcceptEntry number file new ∷ [] = c.in_ok-push_both.ensures.left
    ∙ (λ i. (c.self.view_is i).machine.entries ++ (c.in_ok-entry.ensures ∙ (λ j. AcceptEntry (c.next_number-number.ensures j) file new)) i ∷ []) in
    let grown : c.push_both.new.right ≡ pending r entries ++ r.first (epochs entries) number new ∷ [] =
    c.in_ok-push_both.ensures.right ∙ (λ i. waiting i ++ first i ∷ []) in
    grown ∙ (sym (pending_with_first r laws entries number file new lawful) ∙ ap (pending r) (sym added))
