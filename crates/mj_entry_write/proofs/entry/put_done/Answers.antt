use Rattle.std.proofs.Common.{◌++◌}
use Rattle.std.specs.Int.{w8, to_le_bytes}
use Rattle.mj_mail.specs.Entry.{fact_form, list_form, mail_form, name_form, reply_form}
use Rattle.mj_entry_write.proofs.Written.{both, both_written}
use Rattle.mj_entry_write.proofs.entry.put_done.Goals as goal

pub returns-clause-written : goal.returns-clause-written
returns-clause-written c =
    let before = c.args.out.now in
    let kind = to_le_bytes w8 2 in
    let name = kind ++ name_form c.args.name.now in
    let replies = name ++ list_form reply_form c.args.replies.now in
    let facts = replies ++ list_form fact_form c.args.outcome.now.facts in
    let to_name = both before c.put_u8.new.out c.put_name.new.out kind (name_form c.args.name.now)
    c.in_ok-put_u8.ensures.ok c.in_ok-put_name.ensures.written in
    let to_replies = both before c.put_name.new.out c.put_replies.new.out name (list_form reply_form c.args.replies.now)
    to_name c.in_ok-put_replies.ensures.written in
    let to_facts = both before c.put_replies.new.out c.put_facts.new.out replies (list_form fact_form c.args.outcome.now.facts)
    to_replies c.in_ok-put_facts.ensures.written in
    both_written before c.put_facts.new.out c.put_mails.new.out facts (list_form mail_form c.args.outcome.now.children)
    to_facts c.put_mails.result c.put_mails.ensures.written
