use Rattle.std.proofs.Common.{length, sym, arith}
use Rattle.std.proofs.lemmas.List.{take_rest, drop_all}
use Rattle.mj_head.proofs.Unfolding.{front_at, front_none}
use Rattle.mj_head.proofs.unfold.without_blanks_at_front.Goals as goal

pub returns-in-Some : goal.returns-in-Some
returns-in-Some c = rw (take_rest c.args.text.now c.in-Some.first) (sym (front_at c.args.text.now c.in-Some.first c.in-Some.ensures))

pub returns-in-None : goal.returns-in-None
returns-in-None c = rw (take_rest c.args.text.now (length c.args.text.now), drop_all (length c.args.text.now) c.args.text.now (omega arith)) (sym (front_none c.args.text.now c.in-None.ensures))
