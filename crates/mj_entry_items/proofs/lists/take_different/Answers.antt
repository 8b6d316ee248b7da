use Rattle.std.proofs.Common.{rules, ◌≡◌, Some, false, sym, ◌∙◌, arith}
use Rattle.mj_entry_rows.specs.Items.{address_in, is_new_recipient}
use Rattle.mj_entry_items.proofs.Turns.{unfit_more}
use Rattle.mj_entry_items.proofs.lists.take_different.Goals as goal

pub returns-then-not-branch : goal.returns-then-not-branch
returns-then-not-branch c =
    let found : address_in c.loop.reader ≡ Some (c.in_ok-address.address, c.address.new.self) = search rules in
    let unfit : is_new_recipient c.loop.recipients c.in_ok-address.address ≡ false = search rules in
    sym c.loop.invariant
    ∙ unfit_more address_in is_new_recipient c.loop.recipients c.in_ok-count.count c.loop.counter c.loop.reader c.address.new.self c.in_ok-address.address
    (omega arith) found unfit
