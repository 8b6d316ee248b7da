use Rattle.std.proofs.Common.{arith}
use Rattle.std.proofs.lemmas.List.{take_rest}
use Rattle.mj_head_lines.proofs.FieldEnds.{few_ends}
use Rattle.mj_head_lines.proofs.ends.count_field_ends.Goals as goal

pub overflow_add-count : goal.overflow_add-count
overflow_add-count c = omega (arith, few_ends c.args.text.now, c.loop-rest.invariant, c.ends_in_block.ensures)

pub loop-rest-preserved : goal.loop-rest-preserved
loop-rest-preserved c = rw (take_rest c.loop-rest.rest.now 63) (omega (arith, c.loop-rest.invariant, c.ends_in_block.ensures))

pub overflow_add-result : goal.overflow_add-result
overflow_add-result c = omega (arith, few_ends c.args.text.now, c.loop-rest.invariant, c.ends_in_tail.ensures)
