use Rattle.std.proofs.Common.{◌≡◌, drop, length, ap, ◌∙◌, arith}
use Rattle.mj_head.specs.Head.{written}
use Rattle.mj_head.proofs.Replacing.{body_room, body_stands}
use Rattle.mj_head.proofs.head.Head.body_at.Goals as goal

pub overflow_sub-end : goal.overflow_sub-end
overflow_sub-end c =
    let fields = c.args.self.now in
    let at : c.fields_from-fields.result ≡ drop c.args.place fields = c.fields_from-fields.ensures ∙ ap (drop c.args.place) c.fields.ensures.all in
    let all : length (written fields) ≡ length c.self.inside.text = rw (← c.self.view_is) (ap length c.self.invariant.0) in
    omega (arith, all, body_room fields c.fields_from-fields.result c.next.new.self c.in-Some.field c.args.place at c.in-Some.ensures.steps)

pub overflow_sub-end-2 : goal.overflow_sub-end-2
overflow_sub-end-2 c =
    let fields = c.args.self.now in
    let at : c.fields_from-fields.result ≡ drop c.args.place fields = c.fields_from-fields.ensures ∙ ap (drop c.args.place) c.fields.ensures.all in
    let all : length (written fields) ≡ length c.self.inside.text = rw (← c.self.view_is) (ap length c.self.invariant.0) in
    omega (arith, all, body_room fields c.fields_from-fields.result c.next.new.self c.in-Some.field c.args.place at c.in-Some.ensures.steps)

pub overflow_sub-result : goal.overflow_sub-result
overflow_sub-result c =
    let fields = c.args.self.now in
    let at : c.fields_from-fields.result ≡ drop c.args.place fields = c.fields_from-fields.ensures ∙ ap (drop c.args.place) c.fields.ensures.all in
    let all : length (written fields) ≡ length c.self.inside.text = rw (← c.self.view_is) (ap length c.self.invariant.0) in
    omega (arith, all, ap length c.body.ensures, body_room fields c.fields_from-fields.result c.next.new.self c.in-Some.field c.args.place at c.in-Some.ensures.steps)

pub returns : goal.returns
returns c =
    let fields = c.args.self.now in
    let at : c.fields_from-fields.result ≡ drop c.args.place fields = c.fields_from-fields.ensures ∙ ap (drop c.args.place) c.fields.ensures.all in
    let all : length (written fields) ≡ length c.self.inside.text = rw (← c.self.view_is) (ap length c.self.invariant.0) in
    let room = body_room fields c.fields_from-fields.result c.next.new.self c.in-Some.field c.args.place at c.in-Some.ensures.steps in
    body_stands fields c.fields_from-fields.result c.next.new.self c.in-Some.field c.args.place _ _ at c.in-Some.ensures.steps (omega (arith, all, room)) (omega (arith, all, room, ap length c.body.ensures))
