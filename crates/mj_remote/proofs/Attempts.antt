-- The attempt that a sound mail waits for.
use Rattle.std.proofs.Common.{◌≡◌, ℕ, true, List, sym, ap, ◌∙◌}
use Rattle.std.specs.Prelude.{◌&&◌}
use Rattle.mj_mail.specs.declared.mail.Mail.{Mail}
use Rattle.mj_mail.specs.declared.mail.Stage.TheVariants.{Remote}
use Rattle.mj_plan.specs.declared.plan.Plan.{Plan}
use Rattle.mj_container.specs.Sound.{is_sound, keeps_limits, may_stand}
use Rattle.mj_container.proofs.Facts.{Tried, tried}

-- a sound mail on its way to a host is tried within the limits
pub sound_tried : (plan : Plan) (mail : Mail) (delivery host : List ℕ) (number : ℕ) → mail.stage ≡ Remote delivery host number
    → is_sound plan mail ≡ true → Tried plan delivery number mail
sound_tried plan mail delivery host number at sound =
    tried plan delivery host number mail (ap (λ stage. keeps_limits mail && may_stand plan stage mail) (sym at) ∙ sound)
