use Rattle.std.proofs.Common.{◌<◌, ap, sym, ◌∙◌, subst, arith}
use Rattle.mj_lawful.specs.Entries.{epochs}
use Rattle.mj_lawful.proofs.Due.{accepted_within}
use Rattle.mj_core.specs.Held.{Held}
use Rattle.mj_core.proofs.machine.Machine.next_number.Goals as goal

pub overflow_add-result : goal.overflow_add-result
overflow_add-result c =
    let is = c.as_slice.ensures ∙ ap (λ (held : Held). held.machine.entries) c.self.view_is in
    let begun = subst (λ entries. 0 < epochs entries) (sym is) c.requires in
    let within = accepted_within c.as_slice.result.now in
    let few = c.as_slice.type_inv.0 in
    omega (arith, c.count_accepted.ensures)
