use Rattle.std.proofs.Common.{rules, ◌≡◌, length}
use Rattle.mj_disk.proofs.Taping.{taped_sync}
use Rattle.mj_disk.proofs.tape.Tape.sync.Goals as goal

pub invariant_of-self-2 : goal.invariant_of-self-2
invariant_of-self-2 c =
    let all : c.len-self-inside.result ≡ length c.push.new.self.items = search rules in
    let size : c.len.result ≡ length c.self.inside.bytes.items = search rules in
    taped_sync _ _ _ _ _ _ c.self.invariant _ _ _ c.in_ok-push.ensures.items all size
