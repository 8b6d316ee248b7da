use Rattle.std.proofs.Common.{ap, ◌∙◌}
use Rattle.std.proofs.lemmas.Option.{IfSome_then}
use Rattle.mj_io.specs.Folder.{file_at}
use Rattle.mj_engine.specs.Intake.{mail_in}
use Rattle.mj_engine.proofs.Fronts.{mail_of_front}
use Rattle.mj_engine.proofs.intake.read_mail.Goals as goal

pub returns-clause-judged : goal.returns-clause-judged
returns-clause-judged g c =
    IfSome_then (g.F.Files.told c.args.files.now) c.in_ok-file.ensures.bytes
    (λ told read. c.in_ok-parse_file.ensures.judged ∙ ap mail_in read ∙ mail_of_front c.args.room (file_at c.args.path.now told) c.requires)
