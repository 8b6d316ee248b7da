use Rattle.std.proofs.Common.{◌≡◌, length}
use Rattle.mj_disk.specs.Tape.{IsKept}
use Rattle.mj_disk.proofs.image.torn_bytes.Given as goal

abbrev pub invariant-loop-place : goal.invariant-loop-place
invariant-loop-place l = record {
  size : length l.image.items ≡ l.place;
  kept : IsKept l.torn.calls.now l.torn.bytes.now l.torn.least l.image.items;
}
