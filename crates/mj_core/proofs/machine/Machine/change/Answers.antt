use Rattle.std.proofs.Common.{suc, ap, sym, ◌∙◌}
use Rattle.mj_lawful.specs.Entries.{epochs, pending}
use Rattle.mj_lawful.proofs.Due.{pending_with_plan}
use Rattle.mj_core.specs.Held.{Held}
use Rattle.mj_core.specs.Epochs.{meanings}
use Rattle.mj_core.proofs.Members.{some_of}
use Rattle.mj_core.proofs.machine.Machine.change.Goals as goal

pub reopen-requires : goal.reopen-requires
reopen-requires g c =
    let rules = g.R.Rules in
    some_of rules g.R.Stages.is_allowed c.args.epochs.now c.args.self.now
    c.requires.is_of

pub returns-in_ok-set_up-in-Setup-clause-waiting : goal.returns-in_ok-set_up-in-Setup-clause-waiting
returns-in_ok-set_up-in-Setup-clause-waiting g c =
    let rules = g.R.Rules in
    let r = meanings rules g.R.Stages.is_allowed c.args.epochs.now in
    let entries = c.args.self.now.machine.entries in
    let is = c.in_ok-set_up-in-Setup.ensures.ok in
    ap (λ (held : Held). held.waiting) is
    ∙ (c.requires.is_of.waiting
    ∙ (sym (pending_with_plan r entries (r.plan (suc (epochs entries)))) ∙ ap (λ (held : Held). pending r held.machine.entries) (sym is)))
