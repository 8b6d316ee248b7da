use Rattle.std.proofs.Common.{◌≡◌, ◌+◌, ◌≤◌, [], ◌∷◌, ◌++◌, true, List, length, refl, ap, ◌∙◌, arith}
use Rattle.std.proofs.lemmas.Bool.{false≢true}
use Rattle.mj_head.specs.Head.{RawField, fields_in, written, is_field, is_head}
use Rattle.mj_head.proofs.Changes.{head_short, is_head_push}
use Rattle.mj_head.proofs.Law.{is_kept_push, push_parts, some_head}
use Rattle.mj_head.proofs.builder.HeadBuilder.add_raw.Goals as goal
use Rattle.mj_head.proofs.builder.HeadBuilder.add_raw.Goals.{then-needed-len-via-then-needed-len, then-needed-len-via-else-needed-len+then-not-is_field}

pub returns-then-needed-len-clause-answer : goal.returns-then-needed-len-clause-answer
returns-then-needed-len-clause-answer c = (
  λ no. absurd (false≢true no),
  λ some.
      let parts = push_parts c.args.self.now (c.args.name.now, c.args.body.now) some in
      let len : length (written c.args.self.now) ≡ length c.self.inside.text.items = rw (← c.self.view_is) (ap length c.self.invariant.0) in
      let short : length (written c.args.self.now) ≤ 65536 = rw (← c.self.view_is) (head_short _ c.self.invariant.1) in
      elim c.then-needed-len.branch [
        | then-needed-len-via-then-needed-len w ↦ absurd (omega (arith, parts.1, len, short))
        | then-needed-len-via-else-needed-len+then-not-is_field w ↦ absurd (false≢true (w.if-not-is_field.ensures ∙ parts.0))
      ],
)

pub invariant_of-self-2 : goal.invariant_of-self-2
invariant_of-self-2 c =
    let f : RawField = (c.args.name.now, c.args.body.now) in
    let formed : is_field f ≡ true = cc in
    let len : length (written (fields_in c.self.inside.text.items)) ≡ length c.self.inside.text.items = ap length c.self.invariant.0 in
    let fits : length (written (fields_in c.self.inside.text.items)) + (length f.0 + length f.1 + 3) ≤ 65536 = omega (arith, len, head_short (fields_in c.self.inside.text.items) c.self.invariant.1) in
    (is_kept_push c.self.inside.text.items c.put_field.new.text.items f c.self.invariant.0 c.self.invariant.1 c.in_ok-put_field.ensures.ok formed fits).1

pub returns-clause-answer : goal.returns-clause-answer
returns-clause-answer c = (
  λ _.
      let len : length (written c.args.self.now) ≡ length c.self.inside.text.items = rw (← c.self.view_is) (ap length c.self.invariant.0) in
      let head : is_head c.args.self.now ≡ true = rw (← c.self.view_is) c.self.invariant.1 in
      let formed : is_field (c.args.name.now, c.args.body.now) ≡ true = cc in
      some_head (c.args.self.now ++ (c.args.name.now, c.args.body.now) ∷ []) (is_head_push c.args.self.now (c.args.name.now, c.args.body.now) head formed (omega (arith, len, head_short c.args.self.now head))),
  λ _. refl,
)

pub returns-clause-added : goal.returns-clause-added
returns-clause-added c = λ _.
    let f : RawField = (c.args.name.now, c.args.body.now) in
    let formed : is_field f ≡ true = cc in
    let len : length (written (fields_in c.self.inside.text.items)) ≡ length c.self.inside.text.items = ap length c.self.invariant.0 in
    let fits : length (written (fields_in c.self.inside.text.items)) + (length f.0 + length f.1 + 3) ≤ 65536 = omega (arith, len, head_short (fields_in c.self.inside.text.items) c.self.invariant.1) in
    (is_kept_push c.self.inside.text.items c.put_field.new.text.items f c.self.invariant.0 c.self.invariant.1 c.in_ok-put_field.ensures.ok formed fits).0
    ∙ ap (λ (fs : List RawField). fs ++ f ∷ []) c.self.view_is
