use Rattle.std.proofs.Common.{ap, subst, ◌∙◌, codes}
use Rattle.std.proofs.lemmas.Option.{IfSome_then}
use Rattle.mj_io.specs.Folder.{file_at}
use Rattle.mj_engine.specs.Config.{table}
use Rattle.mj_engine.specs.Run.{GivesAnswers, rows_or}
use Rattle.mj_engine.proofs.Fronts.{answers_of_front}
use Rattle.mj_engine.proofs.run.load_answers.Goals as goal

pub returns-clause-exact : goal.returns-clause-exact
returns-clause-exact g c =
    IfSome_then (g.F.Files.told c.args.files.now) c.in_ok-file.ensures.bytes
    (λ told read.
    let same = ap table read ∙ answers_of_front c.args.room (file_at (codes "conf/answers.toml") told) c.requires in
    subst (λ said. GivesAnswers c.answers_of_file.result (rows_or said)) same c.answers_of_file.ensures.exact)
