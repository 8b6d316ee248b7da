use Rattle.std.proofs.Common.{◌≡◌, ap, ◌∙◌, List, ℕ}
use Rattle.std.specs.Prelude.{filter}
use Rattle.mj_head.specs.Head.{fields_in, written}
use Rattle.mj_head.proofs.Changes.{is_head_filter}
use Rattle.mj_head.proofs.Law.{is_kept}
use Rattle.mj_head.proofs.Removal.{others}
use Rattle.mj_head.proofs.head.Head.remove.Goals as goal

pub of-requires-clause-same : goal.of-requires-clause-same
of-requires-clause-same c =
    let fs = fields_in c.self.inside.text in
    let left : c.remove_named.new.text.items ≡ written (filter (others c.args.name.now) fs) =
    c.remove_named.ensures ∙ ap (λ (text : List ℕ). written (filter (others c.args.name.now) (fields_in text))) c.in_ok-text.ensures in
    (is_kept c.remove_named.new.text.items (filter (others c.args.name.now) fs) left (is_head_filter (others c.args.name.now) fs c.self.invariant.1)).1.0

pub of-requires-clause-head : goal.of-requires-clause-head
of-requires-clause-head c =
    let fs = fields_in c.self.inside.text in
    let left : c.remove_named.new.text.items ≡ written (filter (others c.args.name.now) fs) =
    c.remove_named.ensures ∙ ap (λ (text : List ℕ). written (filter (others c.args.name.now) (fields_in text))) c.in_ok-text.ensures in
    (is_kept c.remove_named.new.text.items (filter (others c.args.name.now) fs) left (is_head_filter (others c.args.name.now) fs c.self.invariant.1)).1.1

pub returns-clause-ok : goal.returns-clause-ok
returns-clause-ok c =
    let fs = fields_in c.self.inside.text in
    let left : c.remove_named.new.text.items ≡ written (filter (others c.args.name.now) fs) =
    c.remove_named.ensures ∙ ap (λ (text : List ℕ). written (filter (others c.args.name.now) (fields_in text))) c.in_ok-text.ensures in
    c.branch.view_is ∙ c.in_ok-self-inside.ensures ∙ (is_kept c.remove_named.new.text.items (filter (others c.args.name.now) fs) left (is_head_filter (others c.args.name.now) fs c.self.invariant.1)).0 ∙ ap (filter (others c.args.name.now)) c.self.view_is
