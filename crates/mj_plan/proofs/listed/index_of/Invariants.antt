use Rattle.std.proofs.Common.{take}
use Rattle.mj_plan.specs.Listed.{IsIndexOf}
use Rattle.mj_plan.proofs.listed.index_of.Given as goal

-- the index answers for the items so far
abbrev pub invariant-loop-item : goal.invariant-loop-item
invariant-loop-item g l = IsIndexOf g.T.PartialEq.eq (take l.item-index l.items) l.index.keys
