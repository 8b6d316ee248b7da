use Rattle.mj_address.proofs.Spellings.{sound}
use Rattle.mj_address.proofs.laws.read_is_spelled.Goals as goal

pub returns-clause-address_text : goal.returns-clause-address_text
returns-clause-address_text c = sound
