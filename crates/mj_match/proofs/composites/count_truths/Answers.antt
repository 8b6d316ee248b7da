use Rattle.std.proofs.Common.{◌<◌, ◌+◌, ◌^◌, length-set, sym, ◌∙◌, arith}
use Rattle.std.proofs.lemmas.List.{get_or_read}
use Rattle.mj_match.proofs.Lists.{higher, others}
use Rattle.mj_match.proofs.composites.count_truths.Goals as goal

pub loop-k-preserved : goal.loop-k-preserved
loop-k-preserved c = record {
  rest = rw c.one_more.ensures (higher c.loop-k.counts.items c.args.truths.now c.loop-k.k c.index.result.now (omega arith) (omega arith) (sym (get_or_read c.loop-k.counts.items c.loop-k.k c.index.result.now (omega arith) c.index.ensures 0)) ∙ c.loop-k.invariant.rest);
  beside = omega (arith, length-set c.loop-k.counts.items c.loop-k.k c.one_more.result);
  small = others (λ count. count + 1 < 2 ^ 64) c.loop-k.counts.items c.loop-k.k 0 c.one_more.result (omega arith) c.loop-k.invariant.small;
}
