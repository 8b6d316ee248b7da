use Rattle.std.proofs.Common.{◌+◌, ◌^◌, ◌<◌, List, [], ◌∷◌, ◌++◌, length, map, take, length-take, sym, ap, ◌∙◌, arith}
use Rattle.std.proofs.lemmas.List.{take_more}
use Rattle.mj_plan.specs.declared.matcher.MatchExpr.{MatchExpr}
use Rattle.mj_match.specs.Composites.{hits_of}
use Rattle.mj_match.specs.Evaluated.{truths}
use Rattle.mj_match.proofs.Lists.{answers}
use Rattle.mj_match.proofs.Hits.{one_truths, and_truths, or_truths, not_truths, xor_truths, no_hits, more_hits, few_hits}
use Rattle.mj_match.proofs.composites.+truths.Goals as goal

pub truths-returns-in-One : goal.truths-returns-in-One
truths-returns-in-One t c =
    answers c.truths_of_condition.result
    (one_truths c.args.plan.now c.args.mail.now c.in-One.condition ∙ sym (ap (λ (matcher : MatchExpr). truths c.args.plan.now c.args.mail.now matcher) c.in-One.is))
    c.truths_of_condition.ensures

pub truths-returns-in-And : goal.truths-returns-in-And
truths-returns-in-And t c =
    answers c.takes_between.result
    (rw (c.as_slice.ensures, c.len-all.ensures) (and_truths c.args.plan.now c.args.mail.now c.in-And.children) ∙ sym (ap (λ (matcher : MatchExpr). truths c.args.plan.now c.args.mail.now matcher) c.in-And.is))
    c.takes_between.ensures

pub truths-returns-in-Or : goal.truths-returns-in-Or
truths-returns-in-Or t c =
    answers c.takes_between-in-Or.result
    (rw (c.as_slice-in-Or.ensures, c.len.ensures) (or_truths c.args.plan.now c.args.mail.now c.in-Or.children) ∙ sym (ap (λ (matcher : MatchExpr). truths c.args.plan.now c.args.mail.now matcher) c.in-Or.is))
    c.takes_between-in-Or.ensures

pub truths-returns-in-Not : goal.truths-returns-in-Not
truths-returns-in-Not t c =
    answers c.takes_between-in-Not.result
    (rw c.as_slice-in-Not.ensures (not_truths c.args.plan.now c.args.mail.now c.in-Not.children) ∙ sym (ap (λ (matcher : MatchExpr). truths c.args.plan.now c.args.mail.now matcher) c.in-Not.is))
    c.takes_between-in-Not.ensures

pub truths-returns-in-Xor : goal.truths-returns-in-Xor
truths-returns-in-Xor t c =
    answers c.takes_between-in-Xor.result
    (rw c.as_slice-in-Xor.ensures (xor_truths c.args.plan.now c.args.mail.now c.in-Xor.children) ∙ sym (ap (λ (matcher : MatchExpr). truths c.args.plan.now c.args.mail.now matcher) c.in-Xor.is))
    c.takes_between-in-Xor.ensures

pub hits_of-loop-matcher-init : goal.hits_of-loop-matcher-init
hits_of-loop-matcher-init t c =
    c.in_ok-counts.ensures ∙ rw c.len.ensures.count (no_hits c.args.plan.now c.args.mail.now c.args.mail.now.recipients)

pub hits_of-count_truths-requires-clause-small : goal.hits_of-count_truths-requires-clause-small
hits_of-count_truths-requires-clause-small t c =
    let so_far = take c.loop-matcher.matcher-index c.args.matchers.now in
    let few : length so_far + 1 < 2 ^ 64 = omega (arith, length-take c.loop-matcher.matcher-index c.args.matchers.now) in
    rw c.loop-matcher.invariant (few_hits c.args.plan.now c.args.mail.now so_far (2 ^ 64) c.args.mail.now.recipients few)

pub hits_of-loop-matcher-preserved : goal.hits_of-loop-matcher-preserved
hits_of-loop-matcher-preserved t c =
    let i = c.loop-matcher.matcher-index in
    let x = c.matcher-item.result in
    let xs = c.args.matchers.now in
    c.count_truths.ensures
    ∙ rw (c.as_slice.ensures, c.in_ok-mask.ensures, c.loop-matcher.invariant) (more_hits c.args.plan.now c.args.mail.now (take i xs) x c.args.mail.now.recipients)
    ∙ ap (λ (ys : List MatchExpr). map (hits_of c.args.plan.now c.args.mail.now ys) c.args.mail.now.recipients)
    (ap (λ (y : MatchExpr). take i xs ++ y ∷ []) c.matcher-item.is ∙ sym (take_more xs i x c.loop-matcher-test.true))
