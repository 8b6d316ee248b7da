use Rattle.mj_head.proofs.Names.{whole_line}
use Rattle.mj_head.proofs.read.read_beginning.Goals as goal

pub put_first_line-requires-clause-whole : goal.put_first_line-requires-clause-whole
put_first_line-requires-clause-whole c =
    let p = c.in_ok-name.ensures.parts in
    whole_line c.first_line.result.0.now c.in_ok-name.name.now c.in_ok-name.value.now p.colon p.name_is p.value_is
