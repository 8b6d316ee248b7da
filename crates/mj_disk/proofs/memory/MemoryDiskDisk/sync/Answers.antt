use Rattle.std.proofs.Common.{rules, ◌≡◌}
use Rattle.std.specs.Prelude.{OnOk, OnErr}
use Rattle.mj_disk.specs.declared.tape.DiskCall.TheVariants.{Sync}
use Rattle.mj_disk.specs.Media.{Media}
use Rattle.mj_disk.specs.Past.{then_call}
use Rattle.mj_disk.proofs.Tearing.{changed, now_sync}
use Rattle.mj_disk.proofs.memory.MemoryDiskDisk.sync.Goals as goal

pub returns-clause-change : goal.returns-clause-change
returns-clause-change c =
    let done : OnOk c.judge.result (c.judge.new.self.past ≡ then_call c.args.self.now.past Sync) = search rules in
    let lost : OnErr c.judge.result (c.judge.new.self.past ≡ c.args.self.now.past) = search rules in
    changed Sync (λ (m : Media). m) c.args.self.now.past _ c.judge.result done lost (now_sync _)
