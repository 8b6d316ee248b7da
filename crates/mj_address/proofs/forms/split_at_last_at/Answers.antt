use Rattle.std.proofs.Common.{◌+◌, sym, ◌∙◌}
use Rattle.mj_address.proofs.Cuts.{before_at, after_at, none_by_place, to_end, whole_at}
use Rattle.mj_address.proofs.forms.split_at_last_at.Goals as goal

pub returns-in_err-place-clause-none : goal.returns-in_err-place-clause-none
returns-in_err-place-clause-none c = rw c.from_residual.ensures (none_by_place c.args.text.now c.in_err-place.ensures.none)

pub returns-clause-local : goal.returns-clause-local
returns-clause-local c =
    let found = c.in_ok-place.ensures.found in
    sym (before_at c.args.text.now c.in_ok-place.place found.0 found.1 c.in_ok-place.ensures.last)

pub returns-clause-domain : goal.returns-clause-domain
returns-clause-domain c =
    let found = c.in_ok-place.ensures.found in
    to_end c.args.text.now (c.in_ok-place.place + 1)
    ∙ sym (after_at c.args.text.now c.in_ok-place.place found.0 found.1 c.in_ok-place.ensures.last)

pub returns-clause-whole : goal.returns-clause-whole
returns-clause-whole c =
    let found = c.in_ok-place.ensures.found in
    whole_at c.args.text.now c.in_ok-place.place found.0 found.1
