-- What a machine of the program holds: its state, and beside it the mails that are pending by its entries.
use Rattle.std.specs.Prelude.{◌≡◌, ◌<◌, List}
use Rattle.mj_mail.specs.declared.mail.Mail.{Mail}
use Rattle.mj_lawful.specs.Configurations.{Meanings}
use Rattle.mj_lawful.specs.Entries.{epochs, pending}
use Rattle.mj_lawful.specs.Lawful.{AreLawful}
use Rattle.mj_lawful.specs.Machine.{Machine}

pub record Held : Type 0 where
  pub machine : Machine
  -- the mails that wait for their step, in order of birth
  pub waiting : List Mail

-- It is a machine of these configurations: its entries are lawful by them, the first configuration has begun, and the
-- mails that wait are the pending ones.
pub record IsOf (r : Meanings) (held : Held) : Type 0 where
  pub lawful : AreLawful r held.machine.entries
  pub begun : 0 < epochs held.machine.entries
  pub waiting : held.waiting ≡ pending r held.machine.entries
