use Rattle.toml.specs.View.{table_view}
use Rattle.mj_config_walk.proofs.Deliveries.{delivery_is_new}
use Rattle.mj_config_mailets.proofs.mailets.mailet_of.Goals as goal

pub returns-in-Some-clause-new : goal.returns-in-Some-clause-new
returns-in-Some-clause-new c =
    delivery_is_new c.args.taken.now c.args.names.now (table_view c.args.step.now) c.in-Some.class c.of_class.result c.of_class.ensures
