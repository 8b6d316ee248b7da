use Rattle.std.proofs.Common.{◌≡◌, ◌++◌, take, length, ap, arith}
use Rattle.std.proofs.lemmas.List.{length-drop}
use Rattle.mj_head.proofs.PlainRead.{plain_short, plain_read}
use Rattle.mj_head.proofs.read.read_plain.Goals as goal

pub past-requires-clause-counted : goal.past-requires-clause-counted
past-requires-clause-counted c = plain_short c.args.cursor.rest.now c.args.len c.args.count c.requires.within c.requires.plain

pub returns-clause-lines : goal.returns-clause-lines
returns-clause-lines c =
    let text : c.extend_from_slice.new.self.items ≡ c.args.text.now.items ++ take c.args.len c.args.cursor.rest.now = c.in_ok-extend_from_slice.ensures.items in
    plain_read c.args.text.now.items c.extend_from_slice.new.self.items c.args.cursor c.past.result c.args.len c.args.count c.requires.plain c.requires.within c.requires.later c.past.ensures.rest c.past.ensures.line c.past.ensures.written text

pub returns-clause-shorter : goal.returns-clause-shorter
returns-clause-shorter c =
    omega (arith, plain_short c.args.cursor.rest.now c.args.len c.args.count c.requires.within c.requires.plain, ap length c.past.ensures.rest, length-drop c.args.len c.args.cursor.rest.now)
