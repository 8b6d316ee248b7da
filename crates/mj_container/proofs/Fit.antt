-- A sound mail is fit for a mailet, and so is what a mailet leaves of a fit one.
use Rattle.std.proofs.Common.{◌≡◌, ℕ, ◌<◌, ◌≤◌, true, List, refl, subst, arith, Result, Ok, Err}
use Rattle.std.specs.Prelude.{◌&&◌}
use Rattle.std.specs.List.{list_all}
use Rattle.mj_address.specs.Short.{is_short}
use Rattle.mj_address.specs.Grammar.{Mailbox}
use Rattle.mj_mail.specs.declared.mail.Mail.{Mail}
use Rattle.mj_mail.specs.declared.mail.Stage.{Stage}
use Rattle.mj_mail.specs.declared.mail.Stage.TheVariants.{Process, Remote}
use Rattle.mj_mail.specs.Mail.{restrict}
use Rattle.mj_mail.specs.Rules.{has_recipients}
use Rattle.mj_plan.specs.declared.mailet.MailetKind.{MailetKind}
use Rattle.mj_plan.specs.declared.mailet.MailetKind.TheVariants as mailet
use Rattle.mj_plan.specs.declared.plan.Plan.{Plan}
use Rattle.mj_plan.specs.Sound.{IsSound}
use Rattle.mj_container.specs.declared.service.Onward.{Onward}
use Rattle.mj_container.specs.declared.service.Onward.TheVariants.{GoOn, Leave, End}
use Rattle.mj_container.specs.declared.service.ServeError.{ServeError}
use Rattle.mj_container.specs.declared.service.ServeError.TheVariants.{Failed, Memory}
use Rattle.mj_container.specs.declared.service.Served.{Served}
use Rattle.mj_container.specs.declared.service.Unserved.{Unserved}
use Rattle.mj_container.specs.Serving.{Gives, HasFit, KeepsFit, serve}
use Rattle.mj_container.specs.Sound.{IsFit, is_sound, keeps_limits, latest, latest_attempt, may_stand}
use Rattle.mj_container.proofs.Facts.{tried, waits}
use Rattle.mj_container.proofs.Services.{IsMailet, IsOnward, IsPart, IsService, is_part, restricted_part, serve_lawful}

-- ---- A sound mail

early : (hops : ℕ) → hops ≤ 1_001 → latest hops < 253_402_300_800_000
unfolding latest
early hops few = omega (arith, few)

early_attempt : (hops number : ℕ) → hops ≤ 1_000 → number ≤ 101 → latest_attempt hops number < 253_402_300_800_000
unfolding latest_attempt
early_attempt hops number few least = omega (arith, few, least)

fit_at : (plan : Plan) (stage : Stage) (mail : Mail) → (keeps_limits mail && may_stand plan stage mail) ≡ true → IsFit mail
fit_at plan (Process state) mail h =
    let w = waits plan state mail h in
    record { limits = w.limits; hops = omega (arith, w.hops); due = omega (arith, w.due, early mail.hops w.hops) }
fit_at plan (Remote delivery host number) mail h =
    let t = tried plan delivery host number mail h in
    record { limits = t.limits; hops = omega (arith, t.few_hops); due = omega (arith, t.due, early_attempt mail.hops number t.few_hops t.last) }

pub sound_fit : (plan : Plan) (mail : Mail) → is_sound plan mail ≡ true → IsFit mail
sound_fit plan mail h = fit_at plan mail.stage mail h

-- ---- A part

of_part : (mail part : Mail) → IsFit mail → IsPart mail part → IsFit part
of_part mail part fit p = record { limits = p.limits; hops = omega (arith, fit.hops, p.hops); due = omega (arith, fit.due, p.due) }

-- a fit mail for one to 500 short recipients
pub restricted_fit : (mail : Mail) (rs : List Mailbox) → IsFit mail → has_recipients rs ≡ true → list_all is_short rs ≡ true → IsFit (restrict mail rs)
restricted_fit mail rs fit some short = of_part mail (restrict mail rs) fit (restricted_part mail mail rs (is_part mail fit.limits) some short)

-- ---- What a mailet leaves

onward_fit : (plan : Plan) (mail : Mail) (onward : Onward) → IsFit mail → IsOnward plan mail onward → HasFit onward
onward_fit plan mail (GoOn part) fit p = of_part mail part fit p
onward_fit plan mail (Leave part state) fit p = of_part mail part fit p.0
onward_fit plan mail End fit p = tt

-- what is kept of a service
abbrev KeepsFitOf : Result Served Unserved → Type 0
KeepsFitOf (Ok served) = HasFit served.onward
KeepsFitOf (Err unserved) = IsFit unserved.mail

service_fit : (plan : Plan) (mail : Mail) (service : Result Served Unserved) → IsFit mail → IsService plan mail service → KeepsFitOf service
service_fit plan mail (Ok served) fit s = onward_fit plan mail served.onward fit s.1
service_fit plan mail (Err unserved) fit s = of_part mail unserved.mail fit s.0

-- a remote delivery lets no mail go on, and what other mailets give asks for no delivery of the plan
served_fit : (plan : Plan) → IsSound plan → (kind : MailetKind) → IsMailet plan kind → (mail : Mail) → IsFit mail → KeepsFitOf (serve plan kind mail)
served_fit plan sound (mailet.RemoteDelivery outgoing schedule gateway bounce_processor) formed mail fit = tt
served_fit plan sound kind formed mail fit =
    service_fit plan mail (serve plan kind mail) fit (serve_lawful plan sound mail kind mail (is_part mail fit.limits) formed refl)

answer_fit : (answer : Result Served ServeError) (service : Result Served Unserved) → KeepsFitOf service → Gives answer service → KeepsFit answer
answer_fit (Ok served) service fit g = subst KeepsFitOf g fit
answer_fit (Err (Failed unserved)) service fit g = subst KeepsFitOf g fit
answer_fit (Err Memory) service fit g = tt

pub serve_fit : (plan : Plan) → IsSound plan → (kind : MailetKind) → IsMailet plan kind → (mail : Mail) → IsFit mail → (answer : Result Served ServeError)
    → Gives answer (serve plan kind mail) → KeepsFit answer
serve_fit plan sound kind formed mail fit answer g =
    answer_fit answer (serve plan kind mail) (served_fit plan sound kind formed mail fit) g
