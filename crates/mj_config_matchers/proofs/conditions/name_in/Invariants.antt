use Rattle.std.proofs.Common.{◌≡◌, drop, map}
use Rattle.mj_config_walk.specs.Conditions.{name_in}
use Rattle.mj_config_matchers.proofs.conditions.name_in.Given as goal

abbrev pub invariant-loop-row : goal.invariant-loop-row
invariant-loop-row l = name_in (map (λ row. (row.0.now, row.1)) (drop l.row-index l.rows)) l.text ≡ name_in (map (λ row. (row.0.now, row.1)) l.rows) l.text
