-- The meaning of mails: all facts about them and about the mails that they become, each with its place. It speaks of
-- one mail at a time, and knows no queue, whatever program carries it.
use Rattle.std.specs.Prelude.{ℕ, zero, suc, List, [], ◌++◌, map}
use Rattle.std.specs.List.{flat_map, enumerate_from}
use Rattle.mj_mail.specs.declared.fact.Fact.{Fact}
use Rattle.mj_mail.specs.declared.fact.Outcome.{Outcome}
use Rattle.mj_mail.specs.declared.mail.Mail.{Mail}
use Rattle.mj_mail.specs.declared.mail.NewMail.{NewMail}
use Rattle.mj_mail.specs.declared.name.Name.{Name}

-- the place of a fact is the mail's name and the fact's number in the outcome, from 1
pub record Placed : Type 0 where
  pub name : Name
  pub number : ℕ
  pub fact : Fact

abbrev pub placed : Name → List Fact → List Placed
placed name facts = map (λ fact. record { name = name; number = fact.0; fact = fact.1 }) (enumerate_from 1 facts)

-- What each of these has: a mail, and all mails that it becomes within so many steps down, where `step` says what one
-- step makes of a mail. First the mail's own, and then that of its children, in order.
abbrev pub gather_within : {X : Type 0} → (Mail → List X) → (Mail → Outcome) → ℕ → Mail → List X
gather_within own step zero mail = []
gather_within own step (suc steps) mail = own mail ++ flat_map (gather_within own step steps) (step mail).children

-- The same all the way down. The measure of a mail falls at each step, so no way is longer than the measure.
unfoldable pub gather : {X : Type 0} → (Mail → List X) → (Mail → ℕ) → (Mail → Outcome) → Mail → List X
gather own measure step mail = gather_within own step (suc (measure mail)) mail

-- the facts of a mail's step, with their places
abbrev pub facts_of : (Mail → Outcome) → Mail → List Placed
facts_of step mail = placed mail.name (step mail).facts

-- all that becomes of a mail: the facts of its step, and then all that becomes of its children, in order
abbrev pub tree : (Mail → ℕ) → (Mail → Outcome) → Mail → List Placed
tree measure step mail = gather (facts_of step) measure step mail

-- the trees of the first mails of what was accepted, a number and a new mail each
abbrev pub meaning : (ℕ → NewMail → Mail) → (Mail → ℕ) → (Mail → Outcome) → List (ℕ × NewMail) → List Placed
meaning first measure step accepted = flat_map (λ new. tree measure step (first new.0 new.1)) accepted
