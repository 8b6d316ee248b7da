use Rattle.mj_address.proofs.LowerCase.{lower_address}
use Rattle.mj_address.proofs.address.Address.with_lower_local.Goals as goal

pub invariant_of-result : goal.invariant_of-result
invariant_of-result c = rw (c.in_ok-local.ensures.ok, c.in_ok-domain.ensures, c.local.ensures.value, c.domain.ensures.value) (lower_address _ c.local.ensures.form)
