-- Outcomes of an attempt, part by part.
use Rattle.std.proofs.Common.{◌≡◌, ℕ, Bool, true, false, List, [], ◌∷◌, if◌then◌else◌, Option, Some, None, refl, sym, ap, ◌∙◌, append_assoc}
use Rattle.std.specs.Str.{bytes_eq}
use Rattle.mj_mail.specs.declared.fact.Outcome.{Outcome}
use Rattle.mj_mail.specs.declared.mail.Mail.{Mail}
use Rattle.mj_mail.specs.Outcome.{both, nothing}
use Rattle.mj_plan.specs.declared.plan.Plan.{Plan}
use Rattle.mj_container.specs.Serving.{ghost_state}
use Rattle.mj_container.specs.Settling.{Answer, Attempt, given_up, is_given_up, is_served, is_tried_again, recipients_of, served_outcome, settle, those, tried_again}
use Rattle.mj_remote.specs.Parts.{discarded, given_up_to, sent_back_each}

both_more : (a b c : Outcome) → both (both a b) c ≡ both a (both b c)
both_more a b c = λ i. record { facts = append_assoc a.facts b.facts c.facts i; children = append_assoc a.children b.children c.children i }

none_given_up : (mail : Mail) (state : List ℕ) (b : Bool) → nothing ≡ (if b then discarded [] else sent_back_each state mail [])
none_given_up mail state true = refl
none_given_up mail state false = refl

given_up_by_bounces : (plan : Plan) (mail : Mail) (attempt : Attempt) (bounces : Option (List ℕ)) (answers : List Answer)
    → given_up plan mail (record attempt { bounces = bounces }) answers ≡ given_up_to plan mail bounces answers
given_up_by_bounces plan mail attempt None [] = refl
given_up_by_bounces plan mail attempt None (answer ∷ answers) = refl
given_up_by_bounces plan mail attempt (Some state) [] = none_given_up mail state (bytes_eq state ghost_state)
given_up_by_bounces plan mail attempt (Some state) (answer ∷ answers) = refl

-- the parts, put down one after the other
pub in_parts : (plan : Plan) (mail : Mail) (attempt : Attempt) (answers : List Answer)
    → both (both (served_outcome attempt (those is_served answers)) (given_up_to plan mail attempt.bounces (those (is_given_up attempt.delay) answers)))
    (tried_again mail attempt attempt.delay (recipients_of (those (is_tried_again attempt.delay) answers)))
    ≡ settle plan mail attempt answers
in_parts plan mail attempt answers =
    let served = served_outcome attempt (those is_served answers) in
    let again = tried_again mail attempt attempt.delay (recipients_of (those (is_tried_again attempt.delay) answers)) in
    both_more served (given_up_to plan mail attempt.bounces (those (is_given_up attempt.delay) answers)) again
    ∙ ap (λ outcome. both served (both outcome again)) (sym (given_up_by_bounces plan mail attempt attempt.bounces (those (is_given_up attempt.delay) answers)))
