use Rattle.std.proofs.Common.{ap, subst, ◌∙◌, codes}
use Rattle.std.proofs.lemmas.Option.{IfSome_then}
use Rattle.mj_io.specs.Folder.{file_at}
use Rattle.mj_engine.specs.Config.{configuration}
use Rattle.mj_engine.specs.Run.{GivesPlan, plan_or}
use Rattle.mj_engine.proofs.Fronts.{plan_of_front}
use Rattle.mj_engine.proofs.run.load_plan.Goals as goal

pub returns-clause-exact : goal.returns-clause-exact
returns-clause-exact g c =
    IfSome_then (g.F.Files.told c.args.files.now) c.in_ok-file.ensures.bytes
    (λ told read.
    let same = ap configuration read ∙ plan_of_front c.args.room (file_at (codes "conf/mailetcontainer.toml") told) c.requires in
    subst (λ planned. GivesPlan c.plan_of_file.result (plan_or planned)) same c.plan_of_file.ensures.exact)
