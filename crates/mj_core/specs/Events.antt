-- Which event of the machine an event of the program is.
use Rattle.mj_lawful.specs.Machine.{Event as MachineEvent}
use Rattle.mj_lawful.specs.Machine.Event.{Accept as Accepts, CloseIntake as ClosesIntake, Take as Takes, Attempt as Attempts, Commit as Commits}
use Rattle.mj_lawful.specs.Machine.Event.{Advance as Advances, Stop as Stops, Crash as Crashes, Reopen as Reopens, Setup as SetsUp}
use Rattle.mj_core.specs.declared.event.Event.{Event}
use Rattle.mj_core.specs.declared.event.Event.TheVariants.{Accept, CloseIntake, Claim, Attempt, Commit, Advance, Stop, Crash, Reopen, Setup}

abbrev pub event_of : Event → MachineEvent
event_of (Accept file mail) = Accepts file mail
event_of CloseIntake = ClosesIntake
event_of (Claim worker name) = Takes worker name
event_of (Attempt worker) = Attempts worker
event_of (Commit worker) = Commits worker
event_of (Advance moment) = Advances moment
event_of (Stop worker cause) = Stops worker cause
event_of Crash = Crashes
event_of Reopen = Reopens
event_of Setup = SetsUp
