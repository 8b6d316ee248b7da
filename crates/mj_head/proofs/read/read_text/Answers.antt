use Rattle.std.proofs.Common.{◌≡◌, length, eqb, true, rules}
use Rattle.mj_head.specs.Head.{fields_in}
use Rattle.mj_head.specs.Reading.{head_at}
use Rattle.mj_head.proofs.Law.{is_kept}
use Rattle.mj_head.proofs.Whole.{head_read}
use Rattle.mj_head.proofs.read.read_text.Goals as goal

pub returns-clause-same : goal.returns-clause-same
returns-clause-same c =
    let text = c.loop-text.text.items in
    let over : eqb (length (head_at c.loop-text.cursor)) 0 ≡ true = cc in
    let read = head_read c.args.bytes.now text c.loop-text.cursor c.loop-text.invariant over in
    let kept = is_kept text (fields_in c.args.bytes.now) read.0 read.1 in
    rw c.shrink_to_fit.ensures.items kept.1.0

pub returns-clause-head : goal.returns-clause-head
returns-clause-head c =
    let text = c.loop-text.text.items in
    let over : eqb (length (head_at c.loop-text.cursor)) 0 ≡ true = cc in
    let read = head_read c.args.bytes.now text c.loop-text.cursor c.loop-text.invariant over in
    let kept = is_kept text (fields_in c.args.bytes.now) read.0 read.1 in
    rw c.shrink_to_fit.ensures.items kept.1.1

pub returns-clause-exact : goal.returns-clause-exact
returns-clause-exact c =
    let text = c.loop-text.text.items in
    let over : eqb (length (head_at c.loop-text.cursor)) 0 ≡ true = cc in
    let read = head_read c.args.bytes.now text c.loop-text.cursor c.loop-text.invariant over in
    let kept = is_kept text (fields_in c.args.bytes.now) read.0 read.1 in
    let read_so_far = c.loop-text.invariant in
    rw (c.shrink_to_fit.ensures.items, kept.0) (search rules)
