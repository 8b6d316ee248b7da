use Rattle.std.proofs.Common.{rules, ◌≡◌}
use Rattle.std.specs.Prelude.{OnOk, OnErr}
use Rattle.mj_disk.specs.declared.tape.DiskCall.TheVariants.{Cut}
use Rattle.mj_disk.specs.Media.{shortened}
use Rattle.mj_disk.specs.Past.{then_call}
use Rattle.mj_disk.proofs.Tearing.{changed, now_cut}
use Rattle.mj_disk.proofs.memory.MemoryDiskDisk.cut.Goals as goal

pub returns-clause-change : goal.returns-clause-change
returns-clause-change c =
    let done : OnOk c.judge.result (c.judge.new.self.past ≡ then_call c.args.self.now.past (Cut c.args.size)) = search rules in
    let lost : OnErr c.judge.result (c.judge.new.self.past ≡ c.args.self.now.past) = search rules in
    changed (Cut c.args.size) (shortened c.args.size) c.args.self.now.past _ c.judge.result done lost (now_cut _ c.args.size)
