-- A plain matcher asks nothing of the other recipients.
use Rattle.std.proofs.Common.{◌≡◌, ◌∙◌, ℕ, Bool, true, not, List, [], ◌∷◌, map, Option, Some, None, refl, sym, ap}
use Rattle.std.specs.List.{AllByRecursion, list_all, list_any, position_from}
use Rattle.std.proofs.lemmas.Bool.{and_parts, false≢true}
use Rattle.mj_mail.specs.declared.mail.Mail.{Mail}
use Rattle.mj_mail.specs.Mail.{restrict}
use Rattle.mj_plan.specs.declared.condition.Condition.{Condition}
use Rattle.mj_plan.specs.declared.condition.Condition.TheVariants as condition
use Rattle.mj_plan.specs.declared.matcher.MatchExpr.{MatchExpr}
use Rattle.mj_plan.specs.declared.matcher.MatchExpr.TheFolds.{fold-MatchExpr}
use Rattle.mj_plan.specs.declared.matcher.MatchExpr.TheOpen.{MatchExpr-F}
use Rattle.mj_plan.specs.declared.plan.Plan.{Plan}
use Rattle.mj_plan.specs.declared.plan.Step.{Step}
use Rattle.mj_container.specs.Alone.{counts_recipients, is_plain_at, is_plain_matcher}
use Rattle.mj_container.specs.Matching.{Mailbox, conditions_of, fails, first_failed, hits, hits_at, holds, is_one}
use Rattle.mj_container.specs.Verdict.{Takes, judged, verdict}
use Rattle.mj_container.proofs.Matchers.{Induction, by_induction, fold-One, fold-And, fold-Or, fold-Not, fold-Xor}

holds_same : (plan : Plan) (mail : Mail) (rs : List Mailbox) (r : Mailbox) (c : Condition) → not (counts_recipients c) ≡ true → holds plan (restrict mail rs) r c ≡ holds plan mail r c
holds_same plan mail rs r condition.All h = refl
holds_same plan mail rs r (condition.RecipientIs addresses) h = refl
holds_same plan mail rs r condition.RecipientIsLocal h = refl
holds_same plan mail rs r (condition.HostIs hosts) h = refl
holds_same plan mail rs r condition.HostIsLocal h = refl
holds_same plan mail rs r (condition.UserIs users) h = refl
holds_same plan mail rs r (condition.SenderIs addresses) h = refl
holds_same plan mail rs r (condition.SenderHostIs hosts) h = refl
holds_same plan mail rs r condition.SenderIsNull h = refl
holds_same plan mail rs r (condition.SizeGreaterThan bytes) h = refl
holds_same plan mail rs r (condition.SubjectIs text) h = refl
holds_same plan mail rs r (condition.SubjectStartsWith front) h = refl
holds_same plan mail rs r (condition.HasHeader field value) h = refl
holds_same plan mail rs r (condition.HasMailAttribute name) h = refl
holds_same plan mail rs r (condition.HasMailAttributeWithValue name value) h = refl
holds_same plan mail rs r (condition.RelayLimit most) h = refl
holds_same plan mail rs r condition.IsSingleRecipient h = absurd (false≢true h)
holds_same plan mail rs r (condition.TooManyRecipients most) h = absurd (false≢true h)
holds_same plan mail rs r (condition.CompareNumericHeaderValue field relation number) h = refl
holds_same plan mail rs r condition.IsRemoteDeliveryPermanentError h = refl
holds_same plan mail rs r condition.IsRemoteDeliveryTemporaryError h = refl
holds_same plan mail rs r (condition.RemoteDeliveryFailedWithSMTPCode code) h = refl
holds_same plan mail rs r condition.Fail h = refl

module _ (plan : Plan) (mail : Mail) (rs : List Mailbox) (r : Mailbox) where
  abbrev part_at : MatchExpr-F Bool → Bool
  part_at = hits_at plan (restrict mail rs) r

  abbrev whole_at : MatchExpr-F Bool → Bool
  whole_at = hits_at plan mail r

  abbrev IsSame : MatchExpr → Type 0
  IsSame x = is_plain_matcher x ≡ true → hits plan (restrict mail rs) r x ≡ hits plan mail r x

  same_kids : (xs : List MatchExpr) → AllByRecursion IsSame xs → list_all (λ child. child) (map (fold-MatchExpr Bool is_plain_at) xs) ≡ true
      → map (fold-MatchExpr Bool part_at) xs ≡ map (fold-MatchExpr Bool whole_at) xs
  same_kids [] all plain = refl
  same_kids (x ∷ xs) all plain =
      let parts = and_parts (is_plain_matcher x) (list_all (λ child. child) (map (fold-MatchExpr Bool is_plain_at) xs)) plain in
      (λ i. all.0 parts.0 i ∷ same_kids xs all.1 parts.1 i)

  same : Induction IsSame
  same = record {
    one = λ c plain. fold-One part_at c ∙ holds_same plan mail rs r c (sym (fold-One is_plain_at c) ∙ plain) ∙ sym (fold-One whole_at c);
    and = λ xs all plain. fold-And part_at xs ∙ ap (list_all (λ child. child)) (same_kids xs all (sym (fold-And is_plain_at xs) ∙ plain)) ∙ sym (fold-And whole_at xs);
    or = λ xs all plain. fold-Or part_at xs ∙ ap (list_any (λ child. child)) (same_kids xs all (sym (fold-Or is_plain_at xs) ∙ plain)) ∙ sym (fold-Or whole_at xs);
    not = λ xs all plain. fold-Not part_at xs ∙ ap (λ kids. not (list_any (λ child. child) kids)) (same_kids xs all (sym (fold-Not is_plain_at xs) ∙ plain)) ∙ sym (fold-Not whole_at xs);
    xor = λ xs all plain. fold-Xor part_at xs ∙ ap is_one (same_kids xs all (sym (fold-Xor is_plain_at xs) ∙ plain)) ∙ sym (fold-Xor whole_at xs);
  }

  hits_same : (x : MatchExpr) → is_plain_matcher x ≡ true → hits plan (restrict mail rs) r x ≡ hits plan mail r x
  hits_same x plain = by_induction IsSame same x plain

-- whether a condition fails is asked of the whole mail
fails_same : (mail : Mail) (rs : List Mailbox) (c : Condition) → fails (restrict mail rs) c ≡ fails mail c
fails_same mail rs condition.All = refl
fails_same mail rs (condition.RecipientIs addresses) = refl
fails_same mail rs condition.RecipientIsLocal = refl
fails_same mail rs (condition.HostIs hosts) = refl
fails_same mail rs condition.HostIsLocal = refl
fails_same mail rs (condition.UserIs users) = refl
fails_same mail rs (condition.SenderIs addresses) = refl
fails_same mail rs (condition.SenderHostIs hosts) = refl
fails_same mail rs condition.SenderIsNull = refl
fails_same mail rs (condition.SizeGreaterThan bytes) = refl
fails_same mail rs (condition.SubjectIs text) = refl
fails_same mail rs (condition.SubjectStartsWith front) = refl
fails_same mail rs (condition.HasHeader field value) = refl
fails_same mail rs (condition.HasMailAttribute name) = refl
fails_same mail rs (condition.HasMailAttributeWithValue name value) = refl
fails_same mail rs (condition.RelayLimit most) = refl
fails_same mail rs condition.IsSingleRecipient = refl
fails_same mail rs (condition.TooManyRecipients most) = refl
fails_same mail rs (condition.CompareNumericHeaderValue field relation number) = refl
fails_same mail rs condition.IsRemoteDeliveryPermanentError = refl
fails_same mail rs condition.IsRemoteDeliveryTemporaryError = refl
fails_same mail rs (condition.RemoteDeliveryFailedWithSMTPCode code) = refl
fails_same mail rs condition.Fail = refl

first_failed_same : (mail : Mail) (rs : List Mailbox) (x : MatchExpr) → first_failed (restrict mail rs) x ≡ first_failed mail x
first_failed_same mail rs x = ap (λ (test : Condition → Bool). position_from test 1 (conditions_of x)) (λ i c. fails_same mail rs c i)

judged_same : (plan : Plan) (step : Step) (mail : Mail) (rs : List Mailbox) (found : Option ℕ) → is_plain_matcher step.matcher ≡ true
    → judged plan step (restrict mail rs) found ≡ judged plan step mail found
judged_same plan step mail rs None plain = λ i. Takes (λ r. hits_same plan mail rs r step.matcher plain i)
judged_same plan step mail rs (Some condition) plain = refl

-- so a step says the same of a recipient among others and alone
pub verdict_same : (plan : Plan) (step : Step) (mail : Mail) (rs : List Mailbox) → is_plain_matcher step.matcher ≡ true
    → verdict plan step (restrict mail rs) ≡ verdict plan step mail
verdict_same plan step mail rs plain =
    ap (judged plan step (restrict mail rs)) (first_failed_same mail rs step.matcher) ∙ judged_same plan step mail rs (first_failed mail step.matcher) plain
