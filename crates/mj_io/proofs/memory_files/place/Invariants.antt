use Rattle.std.proofs.Common.{◌≡◌, ◌+◌, drop}
use Rattle.mj_io.specs.Folder.{place_of}
use Rattle.mj_io.proofs.memory_files.place.Given as goal

abbrev pub invariant-loop-k : goal.invariant-loop-k
invariant-loop-k l = place_of l.name l.names ≡ l.k + place_of l.name (drop l.k l.names)
