use Rattle.std.proofs.Common.{◌≡◌, ◌++◌, take}
use Rattle.std.specs.List.{flat_map}
use Rattle.mj_container.specs.Notices.{failure_line}
use Rattle.mj_bounce.proofs.notice_body.put_failures.Given as goal

-- the lines so far
abbrev pub invariant-loop-failure : goal.invariant-loop-failure
invariant-loop-failure l = l.out.items ≡ l.initial.out.items ++ flat_map failure_line (take l.failure-index l.failed)
