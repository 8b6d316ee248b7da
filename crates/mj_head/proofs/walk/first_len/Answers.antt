use Rattle.std.proofs.Common.{◌≡◌, ◌+◌, ◌≤◌, length, drop, ap, ◌∙◌, arith, rules}
use Rattle.std.proofs.lemmas.List.{take_rest}
use Rattle.mj_head.specs.Reading.{field_len}
use Rattle.mj_head.proofs.Walking.{first_front}
use Rattle.mj_head.proofs.walk.first_len.Goals as goal

pub overflow_add-result-2 : goal.overflow_add-result-2
overflow_add-result-2 c =
    let text = c.args.text.now in
    let name = c.args.name in
    let front = first_front text name c.requires.written c.requires.colon in
    let behind : c.field_len.result ≡ field_len (drop (name + 1) text) = c.field_len.ensures ∙ ap field_len (take_rest text (name + 1)) in
    let within : name + 1 + c.field_len.result ≤ length text = omega (arith, front.behind, front.within, behind) in
    search rules

pub returns : goal.returns
returns c =
    let text = c.args.text.now in
    let name = c.args.name in
    let front = first_front text name c.requires.written c.requires.colon in
    let behind : c.field_len.result ≡ field_len (drop (name + 1) text) = c.field_len.ensures ∙ ap field_len (take_rest text (name + 1)) in
    omega (arith, front.behind, behind)
