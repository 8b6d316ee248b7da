use Rattle.std.proofs.Common.{sym, ◌∙◌}
use Rattle.mj_core.specs.Epochs.{meanings}
use Rattle.mj_core.proofs.Members.{split}
use Rattle.mj_core.proofs.epoch.numbered.Goals as goal

pub returns : goal.returns
returns g c =
    let rules = g.R.Rules in
    let r = meanings rules g.R.Stages.is_allowed in
    let parts = split c.args.epochs.now c.requires in
    let is = sym (c.member_of.ensures parts.0 parts.1 (c.as_slice.ensures ∙ parts.2)) in
    let number = c.args.number in
    record {
      first = (λ i. (r (parts.2 i)).first number) ∙ (λ i. rules.first_of (is i).rules);
      reply = (λ i. (r (parts.2 i)).reply number) ∙ (λ i. rules.reply_of (is i).rules);
      step = (λ i. (r (parts.2 i)).step number) ∙ (λ i. rules.outcome_of (is i).rules);
      sound = (λ i. (r (parts.2 i)).sound number) ∙ (λ i. rules.is_sound (is i).rules);
      allows = (λ i. (r (parts.2 i)).allows number) ∙ (λ i. g.R.Stages.is_allowed (is i).rules);
      start = (λ i. (r (parts.2 i)).start number) ∙ (λ i. (is i).start);
    }
