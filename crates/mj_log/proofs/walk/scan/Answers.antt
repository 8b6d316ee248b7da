use Rattle.std.proofs.Common.{◌≡◌, Bool, take, subst}
use Rattle.std.specs.Str.{bytes_eq}
use Rattle.mj_disk.specs.Moments.{Now}
use Rattle.mj_log.specs.Journal.{magic}
use Rattle.mj_log.proofs.Walks.{other_now}
use Rattle.mj_log.proofs.walk.scan.Goals as goal

pub returns-in-Ok-false-clause-fault : goal.returns-in-Ok-false-clause-fault
returns-in-Ok-false-clause-fault g c = other_now _ c.args.file c.requires.file c.requires.long (subst (λ (b : Bool). Now (g.D.Disk.moments c.args.disk.now) (λ m. b ≡ bytes_eq (take 8 m.bytes) magic)) c.in-Ok-false.field-0-test c.in-Ok-false.ensures.begins)
