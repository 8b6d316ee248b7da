use Rattle.std.proofs.Common.{◌∙◌, ap, ◌++◌}
use Rattle.mj_bounce.proofs.Texts.{opening_put}
use Rattle.mj_bounce.proofs.notice_body.put_opening.Goals as goal

pub returns : goal.returns
returns c =
    opening_put c.args.plan.now c.args.out.now.items c.extend_from_slice.new.self.items c.extend_from_slice-2.new.self.items c.extend_from_slice-3.new.self.items
    c.in_ok-extend_from_slice.ensures.items
    (c.in_ok-extend_from_slice-2.ensures.items ∙ ap (λ name. c.extend_from_slice.new.self.items ++ name) c.as_slice.ensures.value)
    c.in_ok-extend_from_slice-3.ensures.items
