use Rattle.std.proofs.Common.{◌+◌, ◌≤◌, length, take}
use Rattle.std.specs.List.{flat_map}
use Rattle.mj_mail.specs.Entry.{fact_form}
use Rattle.mj_entry_len.specs.Stored.{stored}
use Rattle.mj_entry_len.proofs.most.facts_most.Given as goal

abbrev pub invariant-loop-fact : goal.invariant-loop-fact
invariant-loop-fact l = stored (4 + length (flat_map fact_form (take l.fact-index l.facts))) ≤ l.total
