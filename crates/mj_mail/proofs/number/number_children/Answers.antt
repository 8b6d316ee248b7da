use Rattle.std.proofs.Common.{◌≡◌, ◌∙◌, ◌+◌, [], ◌∷◌, ◌++◌, length, length-append, sym, arith}
use Rattle.mj_mail.specs.Outcome.{numbered_child, numbered_from}
use Rattle.mj_mail.proofs.Numbers.{numbered_next}
use Rattle.mj_mail.proofs.number.number_children.Goals as goal

pub loop-child-preserved : goal.loop-child-preserved
loop-child-preserved c =
    let before = c.loop-child.yielded in
    let child = c.in-Some.child in
    let next : 1 + length before ≡ c.loop-child.number + 1 = omega (arith, c.loop-child.invariant.count) in
    record {
      count = omega (arith, length-append before (child ∷ []), c.loop-child.invariant.count);
      numbered = c.in_ok-push.ensures.ok
          ∙ (λ i. c.loop-child.invariant.numbered i ++ c.in_ok-number_child.ensures i ∷ [])
          ∙ sym (numbered_next 1 before child ∙ (λ i. numbered_from 1 before ++ numbered_child (next i) child ∷ []));
    }
