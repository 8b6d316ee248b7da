use Rattle.std.proofs.Common.{◌≡◌, drop}
use Rattle.mj_io.specs.Held.{told_files, are_files}
use Rattle.mj_io.proofs.memory_files.are_files.Given as goal

abbrev pub invariant-loop-k : goal.invariant-loop-k
invariant-loop-k l = are_files (told_files (drop l.k l.files)) ≡ are_files (told_files l.files)
