use Rattle.std.proofs.Common.{◌≡◌, ◌++◌, take}
use Rattle.std.specs.Int.{w32, to_le_bytes}
use Rattle.std.specs.List.{AllByRecursion, flat_map}
use Rattle.mj_entry_rows.specs.Forms.{IsWord}
use Rattle.mj_entry_write.proofs.mail.put_members.Given as goal

abbrev pub invariant-loop-member : goal.invariant-loop-member
invariant-loop-member l =
    (l.out ≡ l.initial.out ++ flat_map (to_le_bytes w32) (take l.member-index l.path)) × AllByRecursion IsWord (take l.member-index l.path)
