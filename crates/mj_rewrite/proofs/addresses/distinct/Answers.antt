use Rattle.std.proofs.Common.{sym}
use Rattle.mj_rewrite.proofs.Turns.{distinct_few}
use Rattle.mj_rewrite.proofs.addresses.distinct.Goals as goal

pub returns-then-len-lt2 : goal.returns-then-len-lt2
returns-then-len-lt2 c = distinct_few c.args.addresses (rw (sym c.len.ensures) c.if-len-lt2.true)
