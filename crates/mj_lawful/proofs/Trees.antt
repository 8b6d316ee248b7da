-- Trees by the configurations of a list of entries: each is the facts of the mail's step, and then the trees of its
-- children. The step is that of a sound mail or nothing, so its children have their names whatever the mail.
use Rattle.std.proofs.Common.{◌≡◌, ℕ, Bool, true, false, ◌++◌, refl}
use Rattle.std.specs.Prelude.{if◌then◌else◌, List}
use Rattle.std.specs.List.{flat_map}
use Rattle.mj_mail.specs.declared.entry.Entry.{Entry}
use Rattle.mj_mail.specs.declared.mail.Mail.{Mail}
use Rattle.mj_mail.specs.Meaning.{placed}
use Rattle.mj_mail.specs.Outcome.{nothing}
use Rattle.mj_mail.specs.Rules.{AreNumbered}
use Rattle.mj_mail.proofs.Trees.{Falls, rules_fall, step_is, tree_is}
use Rattle.mj_lawful.specs.Configurations.{Laws, Meanings, outcome_at}
use Rattle.mj_lawful.specs.Entries.{era}
use Rattle.mj_lawful.specs.Lawful.{step_in, tree}

step_falls : (r : Meanings) → Laws r → (entries : List Entry) → Falls r.measure (step_in r entries)
step_falls r laws entries mail = rules_fall r.measure r.sound r.reply r.step (era entries mail.name) (laws.falls (era entries mail.name)) mail

pub tree_unfolds : (r : Meanings) → Laws r → (entries : List Entry) (mail : Mail)
    → tree r entries mail ≡ placed mail.name (step_in r entries mail).facts ++ flat_map (tree r entries) (step_in r entries mail).children
tree_unfolds r laws entries mail = tree_is r.measure (step_in r entries) (step_falls r laws entries) mail

named_by : (r : Meanings) → Laws r → (epoch : ℕ) (mail : Mail) (b : Bool) → r.sound epoch mail ≡ b
    → AreNumbered mail.name 1 (if b then outcome_at r epoch mail else nothing).children
named_by r laws epoch mail true sound = laws.children_named epoch mail sound
named_by r laws epoch mail false sound = tt

pub step_named : (r : Meanings) → Laws r → (entries : List Entry) (mail : Mail) → AreNumbered mail.name 1 (step_in r entries mail).children
step_named r laws entries mail = named_by r laws (era entries mail.name) mail (r.sound (era entries mail.name) mail) refl

pub step_sound : (r : Meanings) → Laws r → (entries : List Entry) (mail : Mail) → r.sound (era entries mail.name) mail ≡ true
    → step_in r entries mail ≡ outcome_at r (era entries mail.name) mail
step_sound r laws entries mail sound = step_is r.measure r.sound r.reply r.step (era entries mail.name) (laws.falls (era entries mail.name)) mail sound
