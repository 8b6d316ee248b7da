use Rattle.mj_disk.specs.MomentLaws.{on_sync}
use Rattle.mj_log.proofs.Steps.{wrote, staged, gated, done}
use Rattle.mj_log.proofs.gate.put_behind_gate.Goals as goal

pub returns-in_err-write_at-clause-any_moment : goal.returns-in_err-write_at-clause-any_moment
returns-in_err-write_at-clause-any_moment g c front size rests =
    wrote front c.args.tail.now c.args.end size _ rests _ _ c.write_at.ensures.change

pub returns-in_err-sync-clause-any_moment : goal.returns-in_err-sync-clause-any_moment
returns-in_err-sync-clause-any_moment g c front size rests =
    let one = wrote front c.args.tail.now c.args.end size _ rests _ _ c.write_at.ensures.change in
    on_sync _ _ _ _ _ one c.sync.ensures.change (g.met.D.Disk.reads c.write_at.new.self)

pub returns-in_err-write_at-2-clause-any_moment : goal.returns-in_err-write_at-2-clause-any_moment
returns-in_err-write_at-2-clause-any_moment g c front size rests =
    let one = wrote front c.args.tail.now c.args.end size _ rests _ _ c.write_at.ensures.change in
    let two = on_sync _ _ _ _ _ one c.sync.ensures.change (g.met.D.Disk.reads c.write_at.new.self) in
    let at = staged front c.args.tail.now c.args.end size _ rests _ _ _ _ _ _ _ _ c.in_ok-write_at.ensures.change c.in_ok-sync.ensures.change in
    gated front c.args.tail.now c.args.end size _ rests _ _ _ two at c.write_at-2.ensures.change

pub returns-clause-any_moment : goal.returns-clause-any_moment
returns-clause-any_moment g c front size rests =
    let one = wrote front c.args.tail.now c.args.end size _ rests _ _ c.write_at.ensures.change in
    let two = on_sync _ _ _ _ _ one c.sync.ensures.change (g.met.D.Disk.reads c.write_at.new.self) in
    let at = staged front c.args.tail.now c.args.end size _ rests _ _ _ _ _ _ _ _ c.in_ok-write_at.ensures.change c.in_ok-sync.ensures.change in
    let three = gated front c.args.tail.now c.args.end size _ rests _ _ _ two at c.write_at-2.ensures.change in
    on_sync _ _ _ _ _ three c.sync-2.ensures.change (g.met.D.Disk.reads c.write_at-2.new.self)

pub returns-clause-done : goal.returns-clause-done
returns-clause-done g c front size rests =
    let at = staged front c.args.tail.now c.args.end size _ rests _ _ _ _ _ _ _ _ c.in_ok-write_at.ensures.change c.in_ok-sync.ensures.change in
    done front c.args.tail.now c.args.end size _ rests _ _ _ _ _ _ _ at c.in_ok-write_at-2.ensures.change c.sync-2.ensures.change
