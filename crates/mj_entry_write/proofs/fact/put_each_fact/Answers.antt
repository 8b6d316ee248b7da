use Rattle.std.proofs.Common.{arith}
use Rattle.mj_mail.specs.Entry.{fact_form}
use Rattle.mj_entry_write.proofs.Written.{item_small}
use Rattle.mj_entry_write.proofs.fact.put_each_fact.Goals as goal

pub put_fact-requires-clause-small : goal.put_fact-requires-clause-small
put_fact-requires-clause-small c =
    let small = item_small fact_form c.args.facts.now c.loop-fact.fact-index c.fact-item.result c.loop-fact-test.true c.fact-item.is in
    omega arith
