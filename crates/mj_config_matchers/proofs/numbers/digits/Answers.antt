use Rattle.std.proofs.Common.{length, arith}
use Rattle.mj_config_walk.proofs.Decimals.{below_longer}
use Rattle.mj_config_matchers.proofs.numbers.digits.Goals as goal

pub returns-clause-small : goal.returns-clause-small
returns-clause-small c = below_longer c.value_of_digits.result (length c.args.text.now) c.args.most (omega arith) c.value_of_digits.ensures.small
