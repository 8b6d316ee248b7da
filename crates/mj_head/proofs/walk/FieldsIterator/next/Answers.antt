use Rattle.std.proofs.Common.{◌≡◌, ◌+◌, ◌-◌, ◌≤◌, [], length, arith, rules, ap, sym, ◌∙◌}
use Rattle.std.proofs.lemmas.List.{take_rest}
use Rattle.mj_head.proofs.Walking.{no_field, first_front, next_field}
use Rattle.mj_head.proofs.walk.FieldsIterator.next.Goals as goal

pub returns-in_err-name-clause-steps : goal.returns-in_err-name-clause-steps
returns-in_err-name-clause-steps c =
    let none : c.args.self.now ≡ [] = sym c.self.view_is ∙ no_field c.self.inside.text.now c.self.invariant c.in_err-name.ensures in
    rw c.from_residual.ensures (none, none)

pub slice_bounds-self-count : goal.slice_bounds-self-count
slice_bounds-self-count c =
    let front = first_front c.self.inside.text.now c.in_ok-name.name c.self.invariant c.in_ok-name.ensures in
    rw c.first_len-len.ensures front.within

pub slice_bounds-self-start : goal.slice_bounds-self-start
slice_bounds-self-start c =
    let front = first_front c.self.inside.text.now c.in_ok-name.name c.self.invariant c.in_ok-name.ensures in
    let within : c.first_len-len.result ≤ length c.self.inside.text.now = rw c.first_len-len.ensures front.within in
    search rules

pub slice_bounds-result-count : goal.slice_bounds-result-count
slice_bounds-result-count c =
    let front = first_front c.self.inside.text.now c.in_ok-name.name c.self.invariant c.in_ok-name.ensures in
    omega (arith, front.len)

pub slice_bounds-result-start : goal.slice_bounds-result-start
slice_bounds-result-start c =
    let front = first_front c.self.inside.text.now c.in_ok-name.name c.self.invariant c.in_ok-name.ensures in
    let order : c.in_ok-name.name + 1 ≤ c.first_len-len.result - 2 = omega (arith, front.len) in
    search rules

pub slice_bounds-result-end-2 : goal.slice_bounds-result-end-2
slice_bounds-result-end-2 c =
    let front = first_front c.self.inside.text.now c.in_ok-name.name c.self.invariant c.in_ok-name.ensures in
    let within : c.first_len-len.result ≤ length c.self.inside.text.now = rw c.first_len-len.ensures front.within in
    search rules

pub invariant_of-self : goal.invariant_of-self
invariant_of-self c =
    let front = first_front c.self.inside.text.now c.in_ok-name.name c.self.invariant c.in_ok-name.ensures in
    rw (take_rest c.self.inside.text.now c.first_len-len.result, c.first_len-len.ensures) front.rest

pub returns-clause-steps : goal.returns-clause-steps
returns-clause-steps c =
    let text = c.self.inside.text.now in
    next_field _ text c.in_ok-name.name c.first_len-len.result c.self.view_is (first_front text c.in_ok-name.name c.self.invariant c.in_ok-name.ensures) c.first_len-len.ensures

-- each field leaves one less
pub returns-clause-goes : goal.returns-clause-goes
returns-clause-goes c =
    let text = c.self.inside.text.now in
    let shorter = ap length (next_field _ text c.in_ok-name.name c.first_len-len.result c.self.view_is (first_front text c.in_ok-name.name c.self.invariant c.in_ok-name.ensures) c.first_len-len.ensures) in
    search rules
