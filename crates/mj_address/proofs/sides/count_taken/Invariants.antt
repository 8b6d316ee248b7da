use Rattle.std.proofs.Common.{◌≡◌, take}
use Rattle.std.specs.List.{count_by}
use Rattle.mj_address.proofs.sides.count_taken.Given as goal

abbrev pub invariant-loop-is_taken : goal.invariant-loop-is_taken
invariant-loop-is_taken l = l.count ≡ count_by (λ is_taken. is_taken) (take l.is_taken-index l.mask)
