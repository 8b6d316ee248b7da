use Rattle.std.proofs.Common.{◌≡◌, ◌++◌, List, ℕ, ap, sym, ◌∙◌, rules}
use Rattle.mj_terms.specs.Text.{trim_front, trim_back}
use Rattle.mj_head.specs.Fields.{without_crlf}
use Rattle.mj_head.proofs.Unfolding.{all_unfolded, take_trim_back}
use Rattle.mj_head.proofs.unfold.unfold.Goals as goal

pub returns : goal.returns
returns c =
    let text = c.loop-line.text.items in
    let rest = c.loop-line.rest.now in
    let new = c.push_trimmed-2.new.text.items in
    let last : without_crlf rest ≡ rest = search rules in
    let so_far : trim_front (text ++ rest) ≡ trim_front (without_crlf c.args.body.now) = ap (λ (t : List ℕ). trim_front (text ++ t)) (sym last) ∙ c.loop-line.invariant.0 in
    rw (c.truncate.ensures.items, c.trim_end_blanks-len.ensures, c.deref.ensures.value) (
    take_trim_back new ∙ ap trim_back (all_unfolded c.args.body.now text rest new so_far c.in_ok-push_trimmed-2.ensures.trimmed c.in_ok-push_trimmed-2.ensures.same)
    )
