use Rattle.std.proofs.Common.{Err, subst}
use Rattle.std.proofs.lemmas.Option.{IfSome_then}
use Rattle.mj_engine.specs.declared.run.RunFault.TheVariants.{Configuration}
use Rattle.mj_engine.specs.Run.{GivesOutput, output}
use Rattle.mj_engine.proofs.Names.{refused_site}
use Rattle.mj_engine.proofs.top.run_command.Goals as goal

pub returns-in-Err-Configuration-clause-config_text : goal.returns-in-Err-Configuration-clause-config_text
returns-in-Err-Configuration-clause-config_text g c =
    let kind = c.in-Err-Configuration.kind in
    let processor = c.in-Err-Configuration.processor in
    let step = c.in-Err-Configuration.step in
    λ at. (
      kind,
      processor,
      step,
      IfSome_then (g.F.Files.told c.args.files.now) c.in-Err-Configuration.ensures.exact
          (λ told read. refused_site told (Configuration kind processor step) (subst (λ fault. GivesOutput (Err fault) (output told)) c.in-Err-Configuration.field-0-is read)),
      c.put_fault.ensures.line at,
    )
