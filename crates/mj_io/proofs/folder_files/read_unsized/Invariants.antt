use Rattle.std.proofs.Common.{◌≤◌, vec_len}
use Rattle.mj_io.proofs.folder_files.read_unsized.Given as goal

abbrev pub invariant-loop : goal.invariant-loop
invariant-loop g l = l.filled ≤ vec_len l.bytes
