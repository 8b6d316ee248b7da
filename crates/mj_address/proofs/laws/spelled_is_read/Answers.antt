use Rattle.mj_address.proofs.Spellings.{read_again}
use Rattle.mj_address.proofs.laws.spelled_is_read.Goals as goal

pub returns-clause-address : goal.returns-clause-address
returns-clause-address c = read_again
