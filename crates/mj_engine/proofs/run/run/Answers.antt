use Rattle.std.proofs.Common.{◌≡◌, Ok, IfSome, sym, ap, subst}
use Rattle.mj_engine.specs.Run.{GivesOutput, output, output_by, report, site_in, site_of}
use Rattle.mj_engine.proofs.Names.{IfSome_both}
use Rattle.mj_engine.proofs.run.run.Goals as goal

pub returns-clause-exact : goal.returns-clause-exact
returns-clause-exact g c =
    let site = site_of c.in_ok-rules.rules in
    let answer = c.report_by.result in
    IfSome_both (g.F.Files.told c.args.files.now)
    (λ told. site_in told ≡ Ok site)
    (λ told. GivesOutput answer (Ok (report site told)))
    (λ told. GivesOutput answer (output told))
    c.in_ok-rules.ensures.exact
    (subst (λ o. IfSome o (λ told. GivesOutput answer (Ok (report site told)))) c.in_ok-rules.ensures.same c.report_by.ensures.exact)
    (λ told planned said. subst (GivesOutput answer) (sym (ap (output_by told) planned)) said)
