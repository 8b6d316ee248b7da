use Rattle.std.proofs.Common.{◌∙◌, ap, ◌++◌}
use Rattle.mj_container.specs.Notices.{opening}
use Rattle.mj_bounce.proofs.Texts.{undelivered_put}
use Rattle.mj_bounce.proofs.notice_body.undelivered.Goals as goal

pub returns : goal.returns
returns c =
    c.from_vec.ensures
    ∙ undelivered_put c.args.plan.now c.args.mail.now c.args.failed.now c.put_opening.new.out.items c.extend_from_slice.new.self.items
    c.put_failures.new.out.items c.extend_from_slice-2.new.self.items c.put_closing.new.out.items
    (c.in_ok-put_opening.ensures ∙ ap (λ text. text ++ opening c.args.plan.now) c.in_ok-body.ensures.items)
    c.in_ok-extend_from_slice.ensures.items c.in_ok-put_failures.ensures c.in_ok-extend_from_slice-2.ensures.items c.in_ok-put_closing.ensures
