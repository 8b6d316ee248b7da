use Rattle.std.proofs.Common.{◌≡◌, drop}
use Rattle.mj_lawful.specs.Entries.{files}
use Rattle.mj_lawful.specs.Lawful.{has_file}
use Rattle.mj_core_lists.proofs.entries.has_file.Given as goal

abbrev pub invariant-loop-entry : goal.invariant-loop-entry
invariant-loop-entry l = has_file (files (drop l.entry-index l.entries)) l.file ≡ has_file (files l.entries) l.file
