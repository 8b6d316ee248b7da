use Rattle.std.proofs.Common.{subst}
use Rattle.mj_delays.specs.Schedule.{Gives}
use Rattle.mj_delays.proofs.Drafts.{completed_default}
use Rattle.mj_delays.proofs.schedules.default_schedule.Goals as goal

pub returns : goal.returns
returns c =
    let new = c.new-draft.ensures in
    let added = c.in_ok-add.ensures in
    subst (λ s. Gives c.finish.result s) (completed_default c.args.max_retries c.new-draft.result.attempts c.add.new.self.attempts c.new-draft.result.delays.items c.add.new.self.delays.items new.attempts new.delays added.attempts added.delays) c.finish.ensures
