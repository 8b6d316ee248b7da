use Rattle.std.proofs.Common.{arith}
use Rattle.engine_tests.proofs.sure.run_surely.Goals as goal

pub returns : goal.returns
returns c = c.james_one.ensures.runs.done (λ rises. omega (arith, rises)) (λ rises. omega (arith, rises)) c.requires.words c.requires.site.0 c.requires.site.1
