use Rattle.std.proofs.Common.{◌≡◌, ◌++◌, drop, map}
use Rattle.mj_mail.proofs.rules.ask.Given as goal

abbrev pub invariant-loop-recipient : goal.invariant-loop-recipient
invariant-loop-recipient g l =
    l.replies ++ map (λ r. g.R.Rules.reply_of l.rules l.host r l.attempt) (drop l.recipient-index l.recipients)
    ≡ map (λ r. g.R.Rules.reply_of l.rules l.host r l.attempt) l.recipients
