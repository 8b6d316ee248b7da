-- What the front of a processor's table stands for.
use Rattle.std.specs.Prelude.{map}
use Rattle.toml.specs.View.{table_view}
use Rattle.mj_config.specs.declared.header.Header.{Header}
use Rattle.mj_config_walk.specs.Walk as walk

abbrev pub header_seen : Header → walk.Header
header_seen header = record { name = header.name.now; steps = map (λ t. table_view t.now) header.steps.items }
