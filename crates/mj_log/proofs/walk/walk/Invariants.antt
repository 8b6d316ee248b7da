use Rattle.std.proofs.Common.{◌≡◌, ◌<◌, ◌≤◌, ◌-◌}
use Rattle.mj_disk.specs.Moments.{Now}
use Rattle.mj_log.specs.Places.{AreSpaced}
use Rattle.mj_log.proofs.Walks.{HasFrames}
use Rattle.mj_log.proofs.walk.walk.Given as goal

abbrev pub invariant-loop-next : goal.invariant-loop-next
invariant-loop-next g l = record {
  same : g.D.Disk.moments l.disk ≡ g.D.Disk.moments l.initial.disk;
  frames : Now (g.D.Disk.moments l.initial.disk) (λ m. HasFrames l.gates.items l.end m.bytes);
  spaced : AreSpaced l.gates.items l.end;
  within : l.end < l.file;
  later : g.D.Disk.faults l.initial.disk ≤ g.D.Disk.faults l.disk;
}

abbrev pub decreases-loop-next : goal.decreases-loop-next
decreases-loop-next g l = l.file - l.end
