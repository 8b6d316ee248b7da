use Rattle.std.proofs.Common.{◌≤◌, length}
use Rattle.mj_io.proofs.folder_files.fill.Given as goal

abbrev pub invariant-loop : goal.invariant-loop
invariant-loop g l = l.filled ≤ length l.buffer
