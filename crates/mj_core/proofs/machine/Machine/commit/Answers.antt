use Rattle.std.proofs.Common.{◌≡◌, [], ◌∷◌, ◌++◌, Some, ap, sym, ◌∙◌}
use Rattle.mj_mail.specs.declared.entry.Entry.TheVariants.{Done}
use Rattle.mj_mail.specs.Rules.{replies_to}
use Rattle.mj_lawful.specs.Entries.{epochs, pending}
use Rattle.mj_lawful.specs.Machine.{done_of, mail_of}
use Rattle.mj_lawful.proofs.Due.{pending_with_step, sound_found}
use Rattle.mj_lawful.proofs.Pending.{without}
use Rattle.mj_core.specs.Held.{Held}
use Rattle.mj_core.specs.Epochs.{meanings}
use Rattle.mj_core.proofs.Members.{laws_of_list, some_of}
use Rattle.mj_core.proofs.machine.Machine.commit.Goals as goal

pub numbered-requires : goal.numbered-requires
numbered-requires g c =
    let rules = g.R.Rules in
    some_of rules g.R.Stages.is_allowed c.args.epochs.now c.args.self.now
    c.requires.is_of

pub step_of-requires : goal.step_of-requires
step_of-requires g c =
    let rules = g.R.Rules in
    let owed = g.met.R.Rules in
    let allowed = g.R.Stages.is_allowed in
    let list = c.args.epochs.now in
    let r = meanings rules allowed list in
    let laws = laws_of_list rules allowed owed.first_named owed.first_sound owed.children_named owed.children_sound owed.falls list in
    let held = c.args.self.now in
    let entries = held.machine.entries in
    let epoch = epochs entries in
    let name = c.claim.inside.name in
    let mail = c.in-Some-find_mail.mail.now in
    let waits = ap (λ (held : Held). held.waiting) c.self.view_is ∙ c.requires.is_of.waiting in
    let found : mail_of (pending r entries) name ≡ Some mail =
    sym (c.in-Some-find_mail.ensures ∙ ap (λ mails. mail_of mails name) (c.as_slice-in-Some.ensures ∙ waits)) in
    let sound : r.sound epoch ≡ rules.is_sound c.numbered.result.now.rules =
    ap r.sound (sym c.epoch.ensures.number) ∙ c.numbered.ensures.sound in
    (λ i. sym sound i mail) ∙ sound_found r laws entries c.requires.is_of.lawful name mail found

pub returns-clause-waiting : goal.returns-clause-waiting
returns-clause-waiting g c =
    let rules = g.R.Rules in
    let owed = g.met.R.Rules in
    let allowed = g.R.Stages.is_allowed in
    let list = c.args.epochs.now in
    let r = meanings rules allowed list in
    let laws = laws_of_list rules allowed owed.first_named owed.first_sound owed.children_named owed.children_sound owed.falls list in
    let held = c.args.self.now in
    let entries = held.machine.entries in
    let epoch = epochs entries in
    let name = c.claim.inside.name in
    let mail = c.in-Some-find_mail.mail.now in
    let waits = ap (λ (held : Held). held.waiting) c.self.view_is ∙ c.requires.is_of.waiting in
    let found : mail_of (pending r entries) name ≡ Some mail =
    sym (c.in-Some-find_mail.ensures ∙ ap (λ mails. mail_of mails name) (c.as_slice-in-Some.ensures ∙ waits)) in
    let reply : rules.reply_of c.numbered.result.now.rules ≡ r.reply epoch =
    sym c.numbered.ensures.reply ∙ ap r.reply c.epoch.ensures.number in
    let step : rules.outcome_of c.numbered.result.now.rules ≡ r.step epoch =
    sym c.numbered.ensures.step ∙ ap r.step c.epoch.ensures.number in
    let added : c.push.new.self ≡ entries ++ done_of r epoch mail ∷ [] = c.in_ok-push.ensures.ok
    ∙ ((λ i. (c.self.view_is i).machine.entries ++ c.in_ok-entry-in-Some-find_mail.ensures.0 i ∷ [])
    ∙ (λ i. entries ++ Done mail.name (replies_to (reply i) mail) (step i mail (replies_to (reply i) mail)) ∷ [])) in
    c.in_ok-entry-in-Some-find_mail.ensures.1
    ∙ ((λ i. without mail.name ((c.as_slice-in-Some-find_mail.ensures ∙ waits) i) ++ (step i mail (replies_to (reply i) mail)).children)
    ∙ (sym (pending_with_step r laws entries c.requires.is_of.lawful name mail found) ∙ ap (pending r) (sym added)))
