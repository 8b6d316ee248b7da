use Rattle.std.proofs.Common.{◌≡◌, ◌++◌, take}
use Rattle.std.specs.List.{flat_map}
use Rattle.mj_report.specs.Files.{name_byte}
use Rattle.mj_report.proofs.files.put_file.Given as goal

abbrev pub invariant-loop-byte : goal.invariant-loop-byte
invariant-loop-byte l = l.out ≡ l.initial.out ++ flat_map name_byte (take l.byte-index l.file)
