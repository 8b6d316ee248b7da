use Rattle.mj_container.proofs.Fit.{serve_fit}
use Rattle.mj_mailets.proofs.mailets.serve.Goals as goal

pub returns-clause-fit : goal.returns-clause-fit
returns-clause-fit c =
    serve_fit c.args.plan.now c.requires.sound c.args.kind.now c.requires.formed c.args.mail c.requires.fit c.served.result c.served.ensures
