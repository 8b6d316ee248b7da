use Rattle.std.proofs.Common.{◌≤◌, ap, sym, ◌∙◌, subst}
use Rattle.mj_lawful.specs.Entries.{epochs}
use Rattle.mj_lawful.specs.Lawful.{max_epochs}
use Rattle.mj_lawful.proofs.Due.{few_epochs}
use Rattle.mj_core.specs.Held.{Held}
use Rattle.mj_core.proofs.machine.Machine.epoch.Goals as goal

pub returns-clause-few : goal.returns-clause-few
returns-clause-few c = λ r lawful.
    let counted = c.count_epochs.ensures ∙ (ap epochs c.as_slice.ensures ∙ ap (λ (held : Held). epochs held.machine.entries) c.self.view_is) in
    subst (λ n. n ≤ max_epochs) (sym counted) (few_epochs r c.args.self.now.machine.entries lawful)
