use Rattle.std.proofs.Common.{arith}
use Rattle.mj_container.proofs.Matchers.{few_conditions}
use Rattle.mj_match.proofs.evaluation.evaluate.Goals as goal

pub counted-requires : goal.counted-requires
counted-requires c = record { few = omega (arith, few_conditions c.args.matcher.now c.requires) }
