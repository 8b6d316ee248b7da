use Rattle.std.proofs.Common.{◌≡◌, drop}
use Rattle.mj_io.specs.Folder.{file_at}
use Rattle.mj_io.specs.Held.{told_files}
use Rattle.mj_io.proofs.memory_files.find_file.Given as goal

abbrev pub invariant-loop-file : goal.invariant-loop-file
invariant-loop-file l = file_at l.path (told_files (drop l.file-index l.files)) ≡ file_at l.path (told_files l.files)
