use Rattle.std.proofs.Common.{◌≡◌, ◌++◌}
use Rattle.mj_plan.proofs.user.Listed+User.of_names.Given as goal

-- the users so far, and the names that are left
abbrev pub invariant-loop-name : goal.invariant-loop-name
invariant-loop-name l = l.users ++ l.name-iterator.rest.items ≡ l.fn.names
