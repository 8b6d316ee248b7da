use Rattle.std.proofs.Common.{arith}
use Rattle.mj_mail.specs.Entry.{pair_form}
use Rattle.mj_entry_write.proofs.Written.{item_small}
use Rattle.mj_entry_write.proofs.parts.put_pairs.Goals as goal

pub put_pair-requires : goal.put_pair-requires
put_pair-requires c =
    let small = item_small pair_form c.args.pairs.now c.loop-name.name-index c.loop-name-item.result c.loop-name-test.true c.loop-name-item.is in
    rw (c.as_slice.ensures, c.as_slice-in-loop-name.ensures) (omega arith)
