use Rattle.std.proofs.Common.{◌≡◌, drop, map}
use Rattle.mj_lawful.specs.Machine.{fresh, run}
use Rattle.mj_core.specs.Epochs.{first_plan, meanings}
use Rattle.mj_core.specs.Events.{event_of}
use Rattle.mj_core.specs.Held.{IsOf}
use Rattle.mj_core.proofs.run.run_events.Given as goal

abbrev pub invariant-loop-event : goal.invariant-loop-event
invariant-loop-event g l =
    let rules = g.R.Rules in
    let r = meanings rules g.R.Stages.is_allowed l.epochs in
    record {
      is_of : IsOf r l.machine;
      so_far : run r l.machine.machine (map event_of (drop l.event-index l.event-items)) ≡ run r (fresh r (first_plan l.epochs)) (map event_of l.events);
    }
