use Rattle.std.proofs.Common.{◌+◌, ◌^◌, ◌<◌, List, length, rules, subst, sym}
use Rattle.std.proofs.lemmas.Result.{err_from_is_err_and}
use Rattle.std.specs.List.{flat_map}
use Rattle.mj_container.specs.Matching.{conditions_of}
use Rattle.mj_plan.specs.declared.condition.Condition.{Condition}
use Rattle.mj_plan.specs.declared.matcher.MatchExpr.TheViews.{the_lemmas}
use Rattle.mj_match.specs.Evaluated.{counted, Gives}
use Rattle.mj_match.proofs.FirstFailed.{and_conditions, or_conditions, not_conditions, xor_conditions, few_left, goes_on, stays}
use Rattle.mj_match.proofs.failing.+failing.Goals as goal

pub counted-counted_in-requires : goal.counted-counted_in-requires
counted-counted_in-requires t c =
    let same = and_conditions c.args.matcher.now c.in-And.children c.as_slice.result.now c.in-And.is c.as_slice.ensures in
    (search (rules, the_lemmas), subst (λ (cs : List Condition). c.args.before + length cs < 2 ^ 32) same c.requires.few)

pub counted-returns-in-And : goal.counted-returns-in-And
counted-returns-in-And t c =
    let same = and_conditions c.args.matcher.now c.in-And.children c.as_slice.result.now c.in-And.is c.as_slice.ensures in
    subst (λ (cs : List Condition). Gives c.counted_in.result (counted c.args.mail.now c.args.before cs)) (sym same) c.counted_in.ensures

pub counted-counted_in-requires-in-Or : goal.counted-counted_in-requires-in-Or
counted-counted_in-requires-in-Or t c =
    let same = or_conditions c.args.matcher.now c.in-Or.children c.as_slice-in-Or.result.now c.in-Or.is c.as_slice-in-Or.ensures in
    (search (rules, the_lemmas), subst (λ (cs : List Condition). c.args.before + length cs < 2 ^ 32) same c.requires.few)

pub counted-returns-in-Or : goal.counted-returns-in-Or
counted-returns-in-Or t c =
    let same = or_conditions c.args.matcher.now c.in-Or.children c.as_slice-in-Or.result.now c.in-Or.is c.as_slice-in-Or.ensures in
    subst (λ (cs : List Condition). Gives c.counted_in-in-Or.result (counted c.args.mail.now c.args.before cs)) (sym same) c.counted_in-in-Or.ensures

pub counted-counted_in-requires-in-Not : goal.counted-counted_in-requires-in-Not
counted-counted_in-requires-in-Not t c =
    let same = not_conditions c.args.matcher.now c.in-Not.children c.as_slice-in-Not.result.now c.in-Not.is c.as_slice-in-Not.ensures in
    (search (rules, the_lemmas), subst (λ (cs : List Condition). c.args.before + length cs < 2 ^ 32) same c.requires.few)

pub counted-returns-in-Not : goal.counted-returns-in-Not
counted-returns-in-Not t c =
    let same = not_conditions c.args.matcher.now c.in-Not.children c.as_slice-in-Not.result.now c.in-Not.is c.as_slice-in-Not.ensures in
    subst (λ (cs : List Condition). Gives c.counted_in-in-Not.result (counted c.args.mail.now c.args.before cs)) (sym same) c.counted_in-in-Not.ensures

pub counted-counted_in-requires-in-Xor : goal.counted-counted_in-requires-in-Xor
counted-counted_in-requires-in-Xor t c =
    let same = xor_conditions c.args.matcher.now c.in-Xor.children c.as_slice-in-Xor.result.now c.in-Xor.is c.as_slice-in-Xor.ensures in
    (search (rules, the_lemmas), subst (λ (cs : List Condition). c.args.before + length cs < 2 ^ 32) same c.requires.few)

pub counted-returns-in-Xor : goal.counted-returns-in-Xor
counted-returns-in-Xor t c =
    let same = xor_conditions c.args.matcher.now c.in-Xor.children c.as_slice-in-Xor.result.now c.in-Xor.is c.as_slice-in-Xor.ensures in
    subst (λ (cs : List Condition). Gives c.counted_in-in-Xor.result (counted c.args.mail.now c.args.before cs)) (sym same) c.counted_in-in-Xor.ensures

pub counted_in-returns-in_err-count : goal.counted_in-returns-in_err-count
counted_in-returns-in_err-count t c =
    let p = err_from_is_err_and c.from_residual.result c.from_residual.ensures.1 in
    rw (p.1, p.2) (stays c.args.mail.now c.loop-matcher.count c.args.matchers.now c.loop-matcher.matcher-index c.matcher-item.result c.loop-matcher-test.true c.matcher-item.is
    c.in_err-count.field-0.0 (counted c.args.mail.now c.args.before (flat_map conditions_of c.args.matchers.now)) c.loop-matcher.invariant.rest c.in_err-count.ensures)

pub counted_in-loop-matcher-preserved : goal.counted_in-loop-matcher-preserved
counted_in-loop-matcher-preserved t c = record {
  rest = goes_on c.args.mail.now c.loop-matcher.count c.args.matchers.now c.loop-matcher.matcher-index c.matcher-item.result c.loop-matcher-test.true c.matcher-item.is
      c.in_ok-count.count (counted c.args.mail.now c.args.before (flat_map conditions_of c.args.matchers.now)) c.loop-matcher.invariant.rest c.in_ok-count.ensures;
  few = few_left c.args.mail.now c.loop-matcher.count c.args.matchers.now c.loop-matcher.matcher-index c.matcher-item.result c.loop-matcher-test.true c.matcher-item.is
      c.in_ok-count.count (2 ^ 32) c.loop-matcher.invariant.few c.in_ok-count.ensures;
}
