use Rattle.std.proofs.Common.{◌≡◌, Ok, ap}
use Rattle.mj_io.specs.Folder.{names_in}
use Rattle.mj_engine.specs.Intake.{folder}
use Rattle.mj_engine.specs.Run.{empty_report, report, site_of, with_names}
use Rattle.mj_engine.proofs.Names.{IfSome_then, report_is}
use Rattle.mj_engine.proofs.run.report_by.Goals as goal

pub returns-clause-exact : goal.returns-clause-exact
returns-clause-exact g c =
    let site = site_of c.args.rules.now in
    let found = c.in_ok-report.report in
    let text = c.in_ok-into_text.field-0 in
    IfSome_then (g.F.Files.told c.args.files.now)
    (λ told. found ≡ with_names site told (names_in folder told) empty_report)
    (λ told. Ok (report site told) ≡ Ok text)
    c.in_ok-report.ensures.exact
    (λ told named. ap (λ t. Ok t) (report_is site told found text named c.in_ok-into_text.ensures))
