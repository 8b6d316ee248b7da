use Rattle.std.proofs.Common.{◌≡◌, ◌+◌, true, false, drop, arith, rules}
use Rattle.std.proofs.lemmas.List.{length-drop, take_rest}
use Rattle.mj_head.specs.Head.{begins_blank}
use Rattle.mj_head.proofs.Walking.{field_len_ends, field_len_goes_on, field_len_last}
use Rattle.mj_head.proofs.walk.field_len.Goals as goal

pub returns-then-not-begins_with_blank : goal.returns-then-not-begins_with_blank
returns-then-not-begins_with_blank c =
    let rest = c.loop-end.rest.now in
    let k = c.in-Some.end in
    let ends : begins_blank (drop (k + 1) rest) ≡ false = rw (← take_rest rest (k + 1)) (search rules) in
    rw (take_rest rest (k + 1)) (omega (arith, field_len_ends rest k c.in-Some.ensures ends, length-drop (k + 1) rest, c.in-Some.ensures.0.high))

pub loop-end-preserved : goal.loop-end-preserved
loop-end-preserved c =
    let rest = c.loop-end.rest.now in
    let k = c.in-Some.end in
    let goes_on : begins_blank (drop (k + 1) rest) ≡ true = rw (← take_rest rest (k + 1)) (search rules) in
    rw (take_rest rest (k + 1)) (
      omega (arith, field_len_goes_on rest k c.in-Some.ensures goes_on, length-drop (k + 1) rest, c.in-Some.ensures.0.high),
      omega (arith, length-drop (k + 1) rest),
    )

pub returns : goal.returns
returns c = omega (arith, field_len_last c.loop-end.rest.now c.in_default.ensures)
