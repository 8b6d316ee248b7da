use Rattle.std.proofs.Common.{◌∙◌, sym, ap, subst}
use Rattle.mj_address.specs.Same.{AreRecipients}
use Rattle.mj_groups.specs.Groups.{grouped}
use Rattle.mj_mail.specs.Reply.{same_reply}
use Rattle.mj_remote.specs.Parts.{AreGroups}
use Rattle.mj_remote.proofs.Chosen.{given_groups}
use Rattle.mj_remote.proofs.sent_back.put_sent_back.Goals as goal

pub put_groups-requires-clause-groups : goal.put_groups-requires-clause-groups
put_groups-requires-clause-groups c =
    subst AreGroups (sym (c.in_ok-groups.ensures ∙ ap (grouped same_reply) c.in_ok-pairs.ensures))
    (given_groups c.args.delay c.as_slice.result.now c.args.replies.now (subst AreRecipients (sym c.as_slice.ensures.value) c.as_slice.ensures.form))
