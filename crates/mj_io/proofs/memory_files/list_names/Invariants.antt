use Rattle.std.proofs.Common.{◌≡◌, length, take, drop}
use Rattle.mj_io.specs.Folder.{names_in}
use Rattle.mj_io.specs.Held.{told_files}
use Rattle.mj_io.proofs.memory_files.list_names.Given as goal

abbrev pub invariant-loop-rest : goal.invariant-loop-rest
invariant-loop-rest l = (l.rest ≡ take (length l.rest) l.files) × (l.names.items ≡ names_in l.folder (told_files (drop (length l.rest) l.files)))

abbrev pub decreases-loop-rest : goal.decreases-loop-rest
decreases-loop-rest l = length l.rest
