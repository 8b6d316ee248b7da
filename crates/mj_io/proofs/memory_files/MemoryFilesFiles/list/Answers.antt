use Rattle.std.proofs.Common.{ap, ◌∙◌}
use Rattle.mj_io.specs.Held.{told_files}
use Rattle.mj_io.proofs.FolderLemmas.{names_utf8}
use Rattle.mj_io.proofs.NameOrder.{names_ascend, names_found}
use Rattle.mj_io.proofs.memory_files.MemoryFilesFiles.list.Goals as goal

pub returns-clause-order : goal.returns-clause-order
returns-clause-order c = rw (c.from_vec.ensures, c.in_ok-names.ensures) (names_ascend c.as_bytes.result.now (told_files c.as_slice.result.now))

pub returns-clause-members : goal.returns-clause-members
returns-clause-members c =
    names_found c.args.folder.now c.as_bytes.result.now c.args.self.now.files (told_files c.as_slice.result.now) _
    (c.from_vec.ensures ∙ c.in_ok-names.ensures) c.as_bytes.ensures.value (ap told_files c.as_slice.ensures ∙ ap (λ held. held.files) c.self.view_is)

pub returns-clause-utf8 : goal.returns-clause-utf8
returns-clause-utf8 c =
    rw (c.from_vec.ensures, c.in_ok-names.ensures)
    (names_utf8 c.as_bytes.result.now (told_files c.as_slice.result.now) (rw c.as_slice.ensures c.self.invariant))
