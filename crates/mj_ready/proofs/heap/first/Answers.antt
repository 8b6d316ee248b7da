use Rattle.std.proofs.Common.{Some, sym, ap, ◌∙◌, arith}
use Rattle.mj_ready.proofs.Sifting.{slice_get-in_order}
use Rattle.mj_ready.proofs.heap.first.Goals as goal

pub returns-else-len-eq0-clause-first : goal.returns-else-len-eq0-clause-first
returns-else-len-eq0-clause-first g c =
    ap (λ row. Some row) c.read.ensures.row
    ∙ sym (slice_get-in_order c.args.rows.now.rows (omega (arith, c.len.ensures)) c.requires)
