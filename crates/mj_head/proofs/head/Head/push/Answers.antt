use Rattle.std.proofs.Common.{◌≡◌, ◌+◌, ◌≤◌, [], ◌∷◌, ◌++◌, List, ℕ, length, arith, ap, ◌∙◌, length-append}
use Rattle.mj_head.specs.Head.{RawField, fields_in, written}
use Rattle.mj_head.proofs.Law.{is_kept_push}
use Rattle.mj_head.proofs.head.Head.push.Goals as goal

pub of-requires-clause-same : goal.of-requires-clause-same
of-requires-clause-same c =
    let f : RawField = (c.args.name.now, c.args.front.now ++ c.args.body.now) in
    let fits : length (written (fields_in c.self.inside.text)) + (length f.0 + length f.1 + 3) ≤ 65536 = rw c.self.view_is (omega (arith, c.requires.fits, length-append c.args.front.now c.args.body.now)) in
    let pushed : c.put_field.new.text.items ≡ c.self.inside.text ++ written (f ∷ []) = c.in_ok-put_field.ensures.ok ∙ ap (λ (text : List ℕ). text ++ written (f ∷ [])) c.in_ok-text.ensures in
    (is_kept_push c.self.inside.text c.put_field.new.text.items f c.self.invariant.0 c.self.invariant.1 pushed c.requires.form fits).1.0

pub of-requires-clause-head : goal.of-requires-clause-head
of-requires-clause-head c =
    let f : RawField = (c.args.name.now, c.args.front.now ++ c.args.body.now) in
    let fits : length (written (fields_in c.self.inside.text)) + (length f.0 + length f.1 + 3) ≤ 65536 = rw c.self.view_is (omega (arith, c.requires.fits, length-append c.args.front.now c.args.body.now)) in
    let pushed : c.put_field.new.text.items ≡ c.self.inside.text ++ written (f ∷ []) = c.in_ok-put_field.ensures.ok ∙ ap (λ (text : List ℕ). text ++ written (f ∷ [])) c.in_ok-text.ensures in
    (is_kept_push c.self.inside.text c.put_field.new.text.items f c.self.invariant.0 c.self.invariant.1 pushed c.requires.form fits).1.1

pub returns-clause-ok : goal.returns-clause-ok
returns-clause-ok c =
    let f : RawField = (c.args.name.now, c.args.front.now ++ c.args.body.now) in
    let fits : length (written (fields_in c.self.inside.text)) + (length f.0 + length f.1 + 3) ≤ 65536 = rw c.self.view_is (omega (arith, c.requires.fits, length-append c.args.front.now c.args.body.now)) in
    let pushed : c.put_field.new.text.items ≡ c.self.inside.text ++ written (f ∷ []) = c.in_ok-put_field.ensures.ok ∙ ap (λ (text : List ℕ). text ++ written (f ∷ [])) c.in_ok-text.ensures in
    c.branch.view_is ∙ c.in_ok-self-inside.ensures ∙ (is_kept_push c.self.inside.text c.put_field.new.text.items f c.self.invariant.0 c.self.invariant.1 pushed c.requires.form fits).0 ∙ ap (λ (fs : List RawField). fs ++ f ∷ []) c.self.view_is
