use Rattle.std.proofs.Common.{◌≡◌, sym, subst, arith}
use Rattle.std.proofs.lemmas.Bool.{le-leb, lt-leb}
use Rattle.mj_mail.specs.Attributes.{AreAttributes}
use Rattle.mj_mail.proofs.AttributeLists.{replaced, length-replaced, added, length-added, with_form}
use Rattle.mj_mail.proofs.attributes.Attributes.set.Goals as goal

pub returns-in_ok-self-inside-in-Ok-clause-list : goal.returns-in_ok-self-inside-in-Ok-clause-list
returns-in_ok-self-inside-in-Ok-clause-list c =
    let view : c.self.inside.pairs.items ≡ c.args.self.now = c.self.view_is in
    rw (view, c.in_ok-self-inside-in-Ok.ensures)
    (replaced c.args.self.now c.in-Ok.k c.args.name.now c.args.value.now c.index_mut.result.now c.in-Ok.ensures.form c.in-Ok.ensures.found (rw view at c.index_mut.ensures.value))

pub returns-in_ok-self-inside-in-Ok-clause-fits : goal.returns-in_ok-self-inside-in-Ok-clause-fits
returns-in_ok-self-inside-in-Ok-clause-fits c =
    let view : c.self.inside.pairs.items ≡ c.args.self.now = c.self.view_is in
    let size = length-replaced c.args.self.now c.in-Ok.k c.args.name.now c.args.value.now c.index_mut.result.now c.in-Ok.ensures.form c.in-Ok.ensures.found (rw view at c.index_mut.ensures.value) in
    let few = c.in-Ok.ensures.form.few in
    sym (le-leb _ _ (omega arith))

pub invariant_of-self : goal.invariant_of-self
invariant_of-self c =
    let view : c.self.inside.pairs.items ≡ c.args.self.now = c.self.view_is in
    let size = length-replaced c.args.self.now c.in-Ok.k c.args.name.now c.args.value.now c.index_mut.result.now c.in-Ok.ensures.form c.in-Ok.ensures.found (rw view at c.index_mut.ensures.value) in
    let few = c.in-Ok.ensures.form.few in
    subst AreAttributes (sym (returns-in_ok-self-inside-in-Ok-clause-list c)) (with_form c.args.self.now c.args.name.now c.args.value.now c.in-Ok.ensures.form (omega arith))

pub returns-in-Err-clause-fits : goal.returns-in-Err-clause-fits
returns-in-Err-clause-fits c =
    let size = length-added c.args.self.now _ c.args.name.now c.args.value.now c.in-Err.ensures.within c.in-Err.ensures.gap in
    let same = c.len.ensures.count in
    sym (lt-leb _ _ (omega arith))

pub insert-requires : goal.insert-requires
insert-requires c =
    let view : c.self.inside.pairs.items ≡ c.args.self.now = c.self.view_is in
    rw (c.self.inside.pairs.ok.0, view) c.in-Err.ensures.within

pub returns-in_ok-insert-in-Err-2-clause-list : goal.returns-in_ok-insert-in-Err-2-clause-list
returns-in_ok-insert-in-Err-2-clause-list c =
    let view : c.self.inside.pairs.items ≡ c.args.self.now = c.self.view_is in
    rw (c.in_ok-insert-in-Err-2.ensures.items, view, c.in_ok-name-in-Err-2.ensures, c.in_ok-value-in-Err-2.ensures)
    (added c.args.self.now _ c.args.name.now c.args.value.now c.in-Err.ensures.within c.in-Err.ensures.gap)

pub returns-in_ok-insert-in-Err-2-clause-fits : goal.returns-in_ok-insert-in-Err-2-clause-fits
returns-in_ok-insert-in-Err-2-clause-fits c =
    let size = length-added c.args.self.now _ c.args.name.now c.args.value.now c.in-Err.ensures.within c.in-Err.ensures.gap in
    let few = c.in-Err.ensures.form.few in
    let same = c.len.ensures.count in
    sym (le-leb _ _ (omega arith))

pub invariant_of-self-in_ok-insert-in-Err-2 : goal.invariant_of-self-in_ok-insert-in-Err-2
invariant_of-self-in_ok-insert-in-Err-2 c =
    let size = length-added c.args.self.now _ c.args.name.now c.args.value.now c.in-Err.ensures.within c.in-Err.ensures.gap in
    let few = c.in-Err.ensures.form.few in
    let same = c.len.ensures.count in
    subst AreAttributes (sym (returns-in_ok-insert-in-Err-2-clause-list c)) (with_form c.args.self.now c.args.name.now c.args.value.now c.in-Err.ensures.form (omega arith))
