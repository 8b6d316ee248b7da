use Rattle.std.proofs.Common.{◌≡◌, take}
use Rattle.mj_mail.proofs.attributes.Attributes.copy.Given as goal

-- the first of the attributes were copied
abbrev pub invariant-loop-name : goal.invariant-loop-name
invariant-loop-name l = l.pairs.items ≡ take l.name-index l.name-items
