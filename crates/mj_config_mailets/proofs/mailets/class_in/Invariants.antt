use Rattle.std.proofs.Common.{◌≡◌, drop, map}
use Rattle.mj_config_walk.specs.Classes.{class_in}
use Rattle.mj_config_mailets.proofs.mailets.class_in.Given as goal

abbrev pub invariant-loop-row : goal.invariant-loop-row
invariant-loop-row l = class_in (map (λ row. (row.0.now, row.1)) (drop l.row-index l.rows)) l.name ≡ class_in (map (λ row. (row.0.now, row.1)) l.rows) l.name
