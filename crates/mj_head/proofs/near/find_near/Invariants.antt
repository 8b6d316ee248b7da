use Rattle.bstr.specs.Find.{Nowhere, Passes, is_byte}
use Rattle.mj_head.proofs.near.find_near.Given as goal

abbrev pub invariant-loop-place : goal.invariant-loop-place
invariant-loop-place l = Nowhere (Passes (is_byte l.byte) l.text) 0 l.place
