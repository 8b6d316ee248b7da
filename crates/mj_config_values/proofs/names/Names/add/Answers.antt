use Rattle.std.proofs.Common.{sym}
use Rattle.mj_config_walk.proofs.Added.{name_last}
use Rattle.mj_config_values.proofs.names.Names.add.Goals as goal

pub returns-clause-ok : goal.returns-clause-ok
returns-clause-ok c =
    name_last (λ name. name.items) _ _ _ _ _ (sym c.self.view_is) c.in_ok-name.ensures.items c.requires c.in_ok-insert.ensures.keys
