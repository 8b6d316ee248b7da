use Rattle.std.proofs.Common.{◌∙◌, ap}
use Rattle.mj_engine.proofs.carry.put_mail.Goals as goal

pub carry-requires : goal.carry-requires
carry-requires g c =
    ap (g.R.Rules.is_sound c.args.rules.now) c.in_ok-first.ensures
    ∙ g.met.R.Rules.first_sound c.args.rules.now c.args.number c.args.mail c.requires
