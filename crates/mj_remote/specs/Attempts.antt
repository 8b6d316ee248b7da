-- What contracts see of an attempt.
use Rattle.std.specs.Option.{option_copied}
use Rattle.mj_container.specs.Settling as settling
use Rattle.mj_remote.specs.declared.attempt.Attempt.{Attempt}

abbrev pub settled_attempt : Attempt → settling.Attempt
settled_attempt attempt = record {
  delivery = attempt.delivery.now;
  host = attempt.host.now;
  number = attempt.number;
  delay = attempt.delay;
  bounces = option_copied attempt.bounces;
}
