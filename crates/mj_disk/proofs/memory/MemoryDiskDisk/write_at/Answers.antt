use Rattle.std.proofs.Common.{rules, ◌≡◌}
use Rattle.std.specs.Prelude.{OnOk, OnErr}
use Rattle.mj_disk.specs.declared.tape.DiskCall.TheVariants.{Write}
use Rattle.mj_disk.specs.Media.{written}
use Rattle.mj_disk.specs.Past.{then_call}
use Rattle.mj_disk.proofs.Tearing.{nothing_done, changed, now_write}
use Rattle.mj_disk.proofs.memory.MemoryDiskDisk.write_at.Goals as goal

pub returns-then-next_fails-clause-change : goal.returns-then-next_fails-clause-change
returns-then-next_fails-clause-change c =
    let same : c.next_fails.new.self.past ≡ c.args.self.now.past = search rules in
    nothing_done _ _ _ c.args.self.now.past _ _ same (now_write _ c.args.at c.args.bytes.now c.requires.within)

pub returns-clause-change : goal.returns-clause-change
returns-clause-change c =
    let done : OnOk c.judge.result (c.judge.new.self.past ≡ then_call c.args.self.now.past (Write c.args.at c.args.bytes.now)) = search rules in
    let lost : OnErr c.judge.result (c.judge.new.self.past ≡ c.args.self.now.past) = search rules in
    changed (Write c.args.at c.args.bytes.now) (written c.args.at c.args.bytes.now) c.args.self.now.past _ c.judge.result done lost (now_write _ c.args.at c.args.bytes.now c.requires.within)
