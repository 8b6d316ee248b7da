use Rattle.std.proofs.Common.{◌≡◌, ◌+◌, [], drop, length, map}
use Rattle.mj_config.specs.Seen.{header_seen}
use Rattle.mj_config_walk.specs.Walk.{processors_from}
use Rattle.mj_config_walk.proofs.Ahead.{ahead}
use Rattle.mj_config.proofs.processors.processors.Given as goal

abbrev pub invariant-loop-header : goal.invariant-loop-header
invariant-loop-header l = record {
  count : length l.processors ≡ l.header-index;
  exact : processors_from l.names [] 1 (map header_seen l.headers)
      ≡ ahead l.processors (processors_from l.names l.taken (l.header-index + 1) (map header_seen (drop l.header-index l.headers)));
}
