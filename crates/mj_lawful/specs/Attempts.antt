-- How often mails are attempted, and what holds of a machine whatever has happened to it.
use Rattle.std.specs.Prelude.{◌≡◌, ℕ, ◌+◌, Bool, true, false, ◌&&◌, ◌||◌, List, [], ◌∷◌, ◌++◌, Option, Some, None}
use Rattle.mj_mail.specs.declared.entry.Entry.{Entry}
use Rattle.mj_mail.specs.declared.mail.Mail.{Mail}
use Rattle.mj_mail.specs.declared.name.Name.{Name}
use Rattle.mj_mail.specs.Mail.{is_remote}
use Rattle.mj_lawful.specs.Configurations.{Meanings}
use Rattle.mj_lawful.specs.Entries.{accepted, births, facts, is_done, pending}
use Rattle.mj_lawful.specs.Lawful.{AreLawful, IsCutExactly, meaning}
use Rattle.mj_lawful.specs.Machine.{Claim, enabled, Event, fresh, happens, Machine, mail_of, run}
use Rattle.mj_lawful.specs.Machine.Event.{Crash}
use Rattle.mj_lawful.specs.Places.{in_order, same_name}

abbrev pub one_if : Bool → ℕ
one_if true = 1
one_if false = 0

-- how often the name stands there
abbrev pub times : Name → List Name → ℕ
times name [] = 0
times name (other ∷ names) = one_if (same_name other name) + times name names

-- a claim on the mail of this name stands, and its host was called
abbrev pub stands : List Claim → Name → Bool
stands [] name = false
stands (claim ∷ claims) name = (claim.attempted && same_name claim.name name) || stands claims name

-- it is a mail, and it is sent to a host
abbrev pub is_remote_mail : Option Mail → Bool
is_remote_mail None = false
is_remote_mail (Some mail) = is_remote mail.stage

-- the mail of this name is sent to a host, and is done
abbrev pub is_remote_done : Meanings → List Entry → Name → Bool
is_remote_done r entries name = is_done entries name && is_remote_mail (mail_of (births r entries) name)

abbrev pub is_crash : Event → Bool
is_crash Crash = true
is_crash other = false

-- at how many crashes a claim on the mail of this name stood whose host was called
abbrev pub crashes : Meanings → Machine → List Event → Name → ℕ
crashes r state [] name = 0
crashes r state (event ∷ events) name =
    one_if (is_crash event && (enabled r state event && stands state.claims name)) + crashes r (happens r state event) events name

-- these begin with those
abbrev pub IsFrontOf : List Entry → List Entry → Type 0
IsFrontOf entries later = (more : List Entry) × (entries ++ more ≡ later)

-- What holds of a machine that began with the first configuration, after any events.
pub record IsTrueAfter (r : Meanings) (plan : List ℕ) (events : List Event) : Type 0 where
  pub lawful : AreLawful r (run r (fresh r plan) events).entries
  pub cut : IsCutExactly r (run r (fresh r plan) events).entries
  -- each list of entries is a front of every later one
  pub grows : (more : List Event) → IsFrontOf (run r (fresh r plan) events).entries (run r (fresh r plan) (events ++ more)).entries
  -- where nothing is pending, the facts in the order of places are the meaning
  pub ended : pending r (run r (fresh r plan) events).entries ≡ []
      → in_order (facts (run r (fresh r plan) events).entries)
      ≡ meaning r (run r (fresh r plan) events).entries (accepted (run r (fresh r plan) events).entries)
  -- a mail was attempted once if it is done, which was sent to a host, once for each crash at which an attempted claim on it
  -- stood, and once if one stands now
  pub attempts : (name : Name) → times name (run r (fresh r plan) events).attempts
      ≡ one_if (is_remote_done r (run r (fresh r plan) events).entries name)
      + (crashes r (fresh r plan) events name + one_if (stands (run r (fresh r plan) events).claims name))
