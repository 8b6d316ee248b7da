use Rattle.std.proofs.Common.{◌≡◌, length, ap, sym, ◌∙◌, arith, true}
use Rattle.mj_head.specs.Head.{written, is_head}
use Rattle.mj_head.proofs.Replacing.{is_kept_replaced}
use Rattle.mj_head.proofs.head.Head.replace_at.Goals as goal

pub of-requires-clause-same : goal.of-requires-clause-same
of-requires-clause-same c =
    let fields = c.args.self.now in
    let old : c.as_slice.result.now ≡ written fields = c.as_slice.ensures ∙ sym c.self.invariant.0 ∙ ap written c.self.view_is in
    let head : is_head fields ≡ true = rw (← c.self.view_is) c.self.invariant.1 in
    (is_kept_replaced fields c.as_slice.result.now c.in_ok-text.text.items c.args.value.now c.args.place _ _ c.requires.place c.body_at-from.ensures head c.requires.value old c.in_ok-text.ensures (omega (arith, ap length c.as_slice.ensures, c.len.ensures))).1.0

pub of-requires-clause-head : goal.of-requires-clause-head
of-requires-clause-head c =
    let fields = c.args.self.now in
    let old : c.as_slice.result.now ≡ written fields = c.as_slice.ensures ∙ sym c.self.invariant.0 ∙ ap written c.self.view_is in
    let head : is_head fields ≡ true = rw (← c.self.view_is) c.self.invariant.1 in
    (is_kept_replaced fields c.as_slice.result.now c.in_ok-text.text.items c.args.value.now c.args.place _ _ c.requires.place c.body_at-from.ensures head c.requires.value old c.in_ok-text.ensures (omega (arith, ap length c.as_slice.ensures, c.len.ensures))).1.1

pub returns-clause-replaced : goal.returns-clause-replaced
returns-clause-replaced c =
    let fields = c.args.self.now in
    let old : c.as_slice.result.now ≡ written fields = c.as_slice.ensures ∙ sym c.self.invariant.0 ∙ ap written c.self.view_is in
    let head : is_head fields ≡ true = rw (← c.self.view_is) c.self.invariant.1 in
    λ _. c.branch.view_is ∙ c.in_ok-self-inside.ensures ∙ (is_kept_replaced fields c.as_slice.result.now c.in_ok-text.text.items c.args.value.now c.args.place _ _ c.requires.place c.body_at-from.ensures head c.requires.value old c.in_ok-text.ensures (omega (arith, ap length c.as_slice.ensures, c.len.ensures))).0
