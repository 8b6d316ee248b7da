use Rattle.mj_bounce.proofs.Texts.{closing_put}
use Rattle.mj_bounce.proofs.notice_body.put_closing.Goals as goal

pub returns : goal.returns
returns c =
    closing_put c.args.mail.now c.args.out.now.items c.extend_from_slice.new.self.items c.write_to.new.out.items c.in_ok-extend_from_slice.ensures.items
    c.in_ok-write_to.ensures.ok
