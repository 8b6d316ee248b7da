use Rattle.mj_log.specs.FrameLaws.{AllShort}
use Rattle.mj_log.specs.Log.{texts}
use Rattle.log_bench.proofs.group_of.Given as goal

abbrev pub invariant-loop : goal.invariant-loop
invariant-loop l = AllShort (texts l.group.items)
