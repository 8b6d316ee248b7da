-- What the evaluation of a matcher answers.
use Rattle.std.specs.Prelude.{ℕ, ◌+◌, Bool, List, length, map, Option, Some, None, Result, Ok, Err}
use Rattle.std.specs.List.{position_from}
use Rattle.mj_terms.specs.Answers.{GivesBy}
use Rattle.mj_mail.specs.declared.mail.Mail.{Mail}
use Rattle.mj_plan.specs.declared.condition.Condition.{Condition}
use Rattle.mj_plan.specs.declared.matcher.MatchExpr.{MatchExpr}
use Rattle.mj_plan.specs.declared.plan.Plan.{Plan}
use Rattle.mj_container.specs.Matching.{fails, first_failed, hits}
use Rattle.mj_match.specs.declared.match_error.MatchError.{MatchError}
use Rattle.mj_match.specs.declared.match_error.MatchError.TheVariants.{Failed, Memory}

-- for each recipient of the mail, whether the matcher takes it
abbrev pub truths : Plan → Mail → MatchExpr → List Bool
truths plan mail matcher = map (λ r. hits plan mail r matcher) mail.recipients

-- the condition that failed, or else what is found without a failure
abbrev pub unless_failed : {X : Type 0} → Option ℕ → X → Result X MatchError
unless_failed (Some number) found = Err (Failed number)
unless_failed None found = Ok found

-- a truth for each recipient, or the first condition that fails
abbrev pub evaluated : Plan → MatchExpr → Mail → Result (List Bool) MatchError
evaluated plan matcher mail = unless_failed (first_failed mail matcher) (truths plan mail matcher)

-- how many conditions there are with these behind so many others, unless one of these fails
abbrev pub counted : Mail → ℕ → List Condition → Result ℕ MatchError
counted mail before conditions = unless_failed (position_from (fails mail) (before + 1) conditions) (before + length conditions)

-- a fault but want of memory
abbrev pub told : MatchError → Option MatchError
told Memory = None
told fault = Some fault

-- A call's answer is what the definition says. Only want of memory comes beside it.
abbrev pub Gives : {X : Type 0} → Result X MatchError → Result X MatchError → Type 0
Gives answer definition = GivesBy told (λ x. x) answer definition
