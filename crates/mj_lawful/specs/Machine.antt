-- A machine that carries mails: its states, the events that may happen to it, which of them are enabled in a state, and
-- what each makes of the state. Every order of events of several workers is a list of these events.
use Rattle.std.specs.Prelude.{ℕ, suc, nat_lt, nat_le, ◌==◌, max, Bool, true, false, ◌&&◌, ◌||◌, not, if◌then◌else◌, List, [], ◌∷◌, ◌++◌, length, Option, Some, None}
use Rattle.std.specs.List.{list_all, list_any}
use Rattle.mj_mail.specs.declared.entry.Cause.{Cause}
use Rattle.mj_mail.specs.declared.entry.Entry.{Entry}
use Rattle.mj_mail.specs.declared.entry.Entry.TheVariants.{Setup as SetupEntry, Accept as AcceptEntry, Done}
use Rattle.mj_mail.specs.declared.mail.Mail.{Mail}
use Rattle.mj_mail.specs.declared.mail.NewMail.{NewMail}
use Rattle.mj_mail.specs.declared.name.Name.{Name}
use Rattle.mj_mail.specs.Mail.{is_remote}
use Rattle.mj_mail.specs.Rules.{is_acceptable, replies_to}
use Rattle.mj_lawful.specs.Configurations.{Meanings, outcome_at}
use Rattle.mj_lawful.specs.Entries.{accepted, epochs, files, in_force, pending}
use Rattle.mj_lawful.specs.Lawful.{has_file, is_change, max_epochs, max_file}
use Rattle.mj_lawful.specs.Places.{same_name}

-- ---- States and events

-- a worker has the mail of this name, and may have called its host since
pub record Claim : Type 0 where
  pub worker : ℕ
  pub name : Name
  pub attempted : Bool

pub record Machine : Type 0 where
  pub entries : List Entry
  pub claims : List Claim
  -- the moment, in milliseconds since 1970-01-01T00:00:00Z
  pub moment : ℕ
  -- the name of the mail of each attempt, in order
  pub attempts : List Name
  -- mails are still accepted
  pub intake : Bool
  pub stop : Option Cause
  pub running : Bool

pub data Event : Type 0 where
  Accept : (file : List ℕ) (new : NewMail) → Event
  CloseIntake : Event
  Take : (worker : ℕ) (name : Name) → Event
  Attempt : (worker : ℕ) → Event
  Commit : (worker : ℕ) → Event
  Advance : (moment : ℕ) → Event
  Stop : (worker : ℕ) (cause : Cause) → Event
  Crash : Event
  Reopen : Event
  Setup : Event

-- workers have numbers below this
abbrev pub max_workers : ℕ
max_workers = 16

-- ---- Claims and mails

-- the claim of a worker
abbrev pub claim_of : List Claim → ℕ → Option Claim
claim_of [] worker = None
claim_of (claim ∷ claims) worker = if claim.worker == worker then Some claim else claim_of claims worker

-- the claims of the other workers
abbrev pub without_claim : List Claim → ℕ → List Claim
without_claim [] worker = []
without_claim (claim ∷ claims) worker = if claim.worker == worker then claims else claim ∷ without_claim claims worker

-- the claims, where this worker has called the host
abbrev pub with_attempt : List Claim → ℕ → List Claim
with_attempt [] worker = []
with_attempt (claim ∷ claims) worker =
    if claim.worker == worker then record { worker = claim.worker; name = claim.name; attempted = true } ∷ claims else claim ∷ with_attempt claims worker

abbrev pub is_claimed : List Claim → Name → Bool
is_claimed claims name = list_any (λ (claim : Claim). same_name claim.name name) claims

-- the mail of this name
abbrev pub mail_of : List Mail → Name → Option Mail
mail_of [] name = None
mail_of (mail ∷ mails) name = if same_name mail.name name then Some mail else mail_of mails name

-- of two mails the one that is due first, and the one before where both are due at the same moment
abbrev pub sooner : Option Mail → Mail → Option Mail
sooner None mail = Some mail
sooner (Some best) mail = if nat_lt mail.due best.due then Some mail else Some best

abbrev pub next_behind : List Claim → Option Mail → List Mail → Option Mail
next_behind claims best [] = best
next_behind claims best (mail ∷ mails) = next_behind claims (if is_claimed claims mail.name then best else sooner best mail) mails

-- the mail that is due first of those without a claim
abbrev pub next_of : List Claim → List Mail → Option Mail
next_of claims mails = next_behind claims None mails

abbrev pub is_none : {X : Type 0} → Option X → Bool
is_none None = true
is_none (Some x) = false

abbrev pub is_empty : {X : Type 0} → List X → Bool
is_empty [] = true
is_empty (x ∷ xs) = false

-- ---- What is enabled

-- a file with this mail may be accepted behind these entries
abbrev pub may_accept : List Entry → List ℕ → NewMail → Bool
may_accept entries file new = nat_le (length file) max_file && (not (has_file (files entries) file) && is_acceptable new)

-- it is the next mail, and it is due, or nothing else can be done before it is
abbrev pub may_take : Machine → Name → Option Mail → Bool
may_take state name None = false
may_take state name (Some mail) = same_name mail.name name && (nat_le mail.due state.moment || (is_empty state.claims && not state.intake))

-- the claimed mail is sent to a host that wasn't called yet
abbrev pub may_attempt : Bool → Option Mail → Bool
may_attempt attempted None = false
may_attempt attempted (Some mail) = is_remote mail.stage && not attempted

-- the claimed mail can take its step: its host was called, if it is sent to one
abbrev pub may_commit : Bool → Option Mail → Bool
may_commit attempted None = false
may_commit attempted (Some mail) = not (is_remote mail.stage) || attempted

-- the worker has a claim, and the test holds of whether it called the host and of its mail
abbrev pub with_claim : (Bool → Option Mail → Bool) → List Mail → Option Claim → Bool
with_claim test mails None = false
with_claim test mails (Some claim) = test claim.attempted (mail_of mails claim.name)

-- the next configuration, if there is one, may come behind these entries
abbrev pub may_set_up : Meanings → List Entry → Option (List ℕ) → Bool
may_set_up r entries None = false
may_set_up r entries (Some plan) =
    is_change (in_force entries) plan && (nat_lt (epochs entries) max_epochs && list_all (r.sound (suc (epochs entries))) (pending r entries))

-- running, and not stopped
abbrev pub goes_on : Machine → Bool
goes_on state = state.running && is_none state.stop

abbrev pub enabled : Meanings → Machine → Event → Bool
enabled r state (Accept file new) = goes_on state && (state.intake && may_accept state.entries file new)
enabled r state CloseIntake = state.running
enabled r state (Take worker name) =
    goes_on state && (nat_lt worker max_workers
    && (is_none (claim_of state.claims worker) && may_take state name (next_of state.claims (pending r state.entries))))
enabled r state (Attempt worker) = state.running && with_claim may_attempt (pending r state.entries) (claim_of state.claims worker)
enabled r state (Commit worker) = goes_on state && with_claim may_commit (pending r state.entries) (claim_of state.claims worker)
enabled r state (Advance moment) = state.running
enabled r state (Stop worker cause) = state.running
enabled r state Crash = state.running
enabled r state Reopen = not state.running
enabled r state Setup = goes_on state && (is_empty state.claims && may_set_up r state.entries (r.plan (suc (epochs state.entries))))

-- ---- What happens

-- the entry of a mail's step by the configuration in force
abbrev pub done_of : Meanings → ℕ → Mail → Entry
done_of r epoch mail = Done mail.name (replies_to (r.reply epoch) mail) (outcome_at r epoch mail)

-- the entries with the step of this mail, if there is one
abbrev pub with_step : Meanings → List Entry → Option Mail → List Entry
with_step r entries None = entries
with_step r entries (Some mail) = entries ++ done_of r (epochs entries) mail ∷ []

-- the entries with the step of the claimed mail
abbrev pub committed : Meanings → List Entry → Option Claim → List Entry
committed r entries None = entries
committed r entries (Some claim) = with_step r entries (mail_of (pending r entries) claim.name)

-- the entries with these bytes as the configuration from here on, if there are such
abbrev pub set_up : List Entry → Option (List ℕ) → List Entry
set_up entries None = entries
set_up entries (Some plan) = entries ++ SetupEntry plan ∷ []

-- a first stop is kept
abbrev pub first_stop : Option Cause → Cause → Option Cause
first_stop None cause = Some cause
first_stop (Some earlier) cause = Some earlier

-- not before the mail is due
abbrev pub moment_by : ℕ → Option Mail → ℕ
moment_by moment None = moment
moment_by moment (Some mail) = max moment mail.due

abbrev pub claimed_name : Option Claim → List Name
claimed_name None = []
claimed_name (Some claim) = claim.name ∷ []

-- a claim that was just taken
abbrev pub taken : ℕ → Name → Claim
taken worker name = record { worker = worker; name = name; attempted = false }

-- what an enabled event makes of the state
abbrev pub after : Meanings → Machine → Event → Machine
after r state (Accept file new) = record state { entries = state.entries ++ AcceptEntry (suc (length (accepted state.entries))) file new ∷ [] }
after r state CloseIntake = record state { intake = false }
after r state (Take worker name) =
    record state { claims = state.claims ++ taken worker name ∷ []; moment = moment_by state.moment (next_of state.claims (pending r state.entries)) }
after r state (Attempt worker) =
    record state { claims = with_attempt state.claims worker; attempts = state.attempts ++ claimed_name (claim_of state.claims worker) }
after r state (Commit worker) =
    record state { entries = committed r state.entries (claim_of state.claims worker); claims = without_claim state.claims worker }
after r state (Advance moment) = record state { moment = max state.moment moment }
after r state (Stop worker cause) = record state { stop = first_stop state.stop cause }
after r state Crash = record state { claims = []; moment = 0; intake = false; stop = None; running = false }
after r state Reopen = record state { claims = []; moment = r.start (epochs state.entries); intake = true; stop = None; running = true }
after r state Setup =
    record state { entries = set_up state.entries (r.plan (suc (epochs state.entries))); moment = max state.moment (r.start (suc (epochs state.entries))) }

-- an event that isn't enabled is passed over
abbrev pub happens : Meanings → Machine → Event → Machine
happens r state event = if enabled r state event then after r state event else state

abbrev pub run : Meanings → Machine → List Event → Machine
run r state [] = state
run r state (event ∷ events) = run r (happens r state event) events

-- the state in which a machine begins: the first configuration is in force, and mails are accepted
abbrev pub fresh : Meanings → List ℕ → Machine
fresh r plan =
    record { entries = SetupEntry plan ∷ []; claims = []; moment = r.start 1; attempts = []; intake = true; stop = None; running = true }
