-- Where a mail may stand under a plan: what the plan's look-ups find has a name of the plan, and a mail that is sound for one
-- plan is sound for each other plan that has its stage.
use Rattle.std.proofs.Common.{◌≡◌, ◌∙◌, ℕ, Bool, true, false, ◌&&◌, ◌||◌, List, [], ◌∷◌, refl, sym, Option, Some, None, if◌then◌else◌}
use Rattle.std.specs.Prelude.{nat_le}
use Rattle.std.specs.List.{cons_option, filter_map, list_any}
use Rattle.std.specs.Option.{is_some, option_map_or}
use Rattle.std.specs.Str.{bytes_eq}
use Rattle.std.proofs.lemmas.Bool.{and_parts}
use Rattle.std.proofs.lemmas.List.Folds.{list_any-append}
use Rattle.std.proofs.lemmas.Slice.Eq.{bytes_eq-Decides}
use Rattle.mj_container.proofs.Facts.{both_true}
use Rattle.mj_container.specs.Sound.{has_room, is_sound, keeps_limits, latest, latest_attempt, may_stand, names_delivery, names_processor}
use Rattle.mj_mail.specs.declared.mail.Mail.{Mail}
use Rattle.mj_mail.specs.declared.mail.Stage.{Stage}
use Rattle.mj_mail.specs.declared.mail.Stage.TheVariants.{Process, Remote}
use Rattle.mj_plan.specs.declared.mailet.MailetKind.{MailetKind}
use Rattle.mj_plan.specs.declared.mailet.MailetKind.TheVariants.{ToProcessor, Null, SetMailAttribute, RemoveMailAttribute, RemoveAllMailAttributes, SetMimeHeader, RemoveMimeHeader, MailAttributesToMimeHeaders, AddSubjectPrefix, RecipientToLowerCase, PostmasterAlias, RecipientRewriteTable, Forward, Bounce, NotifyPostmaster, LocalDelivery, ToRepository, RemoteDelivery, Fail}
use Rattle.mj_plan.specs.declared.plan.Plan.{Plan}
use Rattle.mj_plan.specs.declared.plan.Processor.{Processor}
use Rattle.mj_plan.specs.declared.plan.Step.{Step}
use Rattle.mj_plan.specs.Lookups.{delivery_in, delivery_named, delivery_of, or_else, processor_named}
use Rattle.mj_plan.specs.Sound.{deliveries_of, is_between, names_of, outgoing_of}
use Rattle.mj_container.specs.Stages.{has_stage}

-- ---- What look-ups find

same_by : (a b : Bool) → (a ≡ true → b ≡ true) → (b ≡ true → a ≡ true) → a ≡ b
same_by true b there back = sym (there refl)
same_by false true there back = back refl
same_by false false there back = refl

turned : (a b : List ℕ) → bytes_eq a b ≡ bytes_eq b a
turned a b = same_by (bytes_eq a b) (bytes_eq b a)
    (λ same. (bytes_eq-Decides b a).1 (sym ((bytes_eq-Decides a b).0 same)))
    (λ same. (bytes_eq-Decides a b).1 (sym ((bytes_eq-Decides b a).0 same)))

first_or : {X : Type 0} (b : Bool) (x : X) (others : Option X) → is_some (if b then Some x else others) ≡ (b || is_some others)
first_or true x others = refl
first_or false x others = refl

pub processor_there : (name : List ℕ) (processors : List Processor) → is_some (processor_named name processors) ≡ list_any (bytes_eq name) (names_of processors)
processor_there name [] = refl
processor_there name (processor ∷ processors) =
    first_or (bytes_eq processor.name name) processor (processor_named name processors)
    ∙ (λ i. turned processor.name name i || processor_there name processors i)

else_or : {X : Type 0} (first others : Option X) → is_some (or_else first others) ≡ (is_some first || is_some others)
else_or None others = refl
else_or (Some x) others = refl

-- whether the mailet is the remote delivery of this name
mailet_there : (name : List ℕ) (mailet : MailetKind) → is_some (delivery_of name mailet) ≡ option_map_or (bytes_eq name) (outgoing_of mailet) false
mailet_there name (RemoteDelivery outgoing schedule gateway bounce_processor) =
    some_if (bytes_eq outgoing name) (schedule, bounce_processor) ∙ turned outgoing name
  where
    some_if : {X : Type 0} (b : Bool) (x : X) → is_some (if b then Some x else None) ≡ b
    some_if true x = refl
    some_if false x = refl
mailet_there name (ToProcessor processor) = refl
mailet_there name Null = refl
mailet_there name (SetMailAttribute attributes) = refl
mailet_there name (RemoveMailAttribute names) = refl
mailet_there name RemoveAllMailAttributes = refl
mailet_there name (SetMimeHeader field value) = refl
mailet_there name (RemoveMimeHeader names) = refl
mailet_there name (MailAttributesToMimeHeaders mapping) = refl
mailet_there name (AddSubjectPrefix prefix) = refl
mailet_there name RecipientToLowerCase = refl
mailet_there name PostmasterAlias = refl
mailet_there name RecipientRewriteTable = refl
mailet_there name (Forward to pass_through) = refl
mailet_there name (Bounce message pass_through) = refl
mailet_there name (NotifyPostmaster pass_through) = refl
mailet_there name LocalDelivery = refl
mailet_there name (ToRepository path pass_through) = refl
mailet_there name (Fail text) = refl

first_or_later : (name : List ℕ) (first : Option (List ℕ)) (later : List (List ℕ))
    → (option_map_or (bytes_eq name) first false || list_any (bytes_eq name) later) ≡ list_any (bytes_eq name) (cons_option first later)
first_or_later name None later = refl
first_or_later name (Some other) later = refl

steps_there : (name : List ℕ) (steps : List Step)
    → is_some (delivery_in name steps) ≡ list_any (bytes_eq name) (filter_map (λ step. outgoing_of step.mailet) steps)
steps_there name [] = refl
steps_there name (step ∷ steps) =
    else_or (delivery_of name step.mailet) (delivery_in name steps)
    ∙ (λ i. mailet_there name step.mailet i || steps_there name steps i)
    ∙ first_or_later name (outgoing_of step.mailet) (filter_map (λ step. outgoing_of step.mailet) steps)

pub delivery_there : (name : List ℕ) (processors : List Processor)
    → is_some (delivery_named name processors) ≡ list_any (bytes_eq name) (deliveries_of processors)
delivery_there name [] = refl
delivery_there name (processor ∷ processors) =
    else_or (delivery_in name processor.steps) (delivery_named name processors)
    ∙ (λ i. steps_there name processor.steps i || delivery_there name processors i)
    ∙ sym (list_any-append (bytes_eq name) (filter_map (λ step. outgoing_of step.mailet) processor.steps) (deliveries_of processors))

-- ---- Mails that are sound for one plan and stand in another

allowed_at : (plan : Plan) (stage : Stage) (mail : Mail) → may_stand plan stage mail ≡ true → has_stage plan stage ≡ true
allowed_at plan (Process state) mail stands =
    (and_parts (names_processor plan state) (nat_le mail.hops 1_001 && (nat_le mail.due (latest mail.hops) && has_room mail)) stands).0
allowed_at plan (Remote delivery host number) mail stands =
    (and_parts (names_delivery plan delivery)
    ((is_between 1 1_000 mail.hops && is_between 1 101 number) && (nat_le mail.due (latest_attempt mail.hops number) && has_room mail)) stands).0

pub sound_allowed : (plan : Plan) (mail : Mail) → is_sound plan mail ≡ true → has_stage plan mail.stage ≡ true
sound_allowed plan mail sound = allowed_at plan mail.stage mail (and_parts (keeps_limits mail) (may_stand plan mail.stage mail) sound).1

stands_in : (plan other : Plan) (stage : Stage) (mail : Mail) → may_stand plan stage mail ≡ true → has_stage other stage ≡ true
    → may_stand other stage mail ≡ true
stands_in plan other (Process state) mail stands allowed =
    let bounds = nat_le mail.hops 1_001 && (nat_le mail.due (latest mail.hops) && has_room mail) in
    both_true (names_processor other state) bounds allowed (and_parts (names_processor plan state) bounds stands).1
stands_in plan other (Remote delivery host number) mail stands allowed =
    let bounds = (is_between 1 1_000 mail.hops && is_between 1 101 number) && (nat_le mail.due (latest_attempt mail.hops number) && has_room mail) in
    both_true (names_delivery other delivery) bounds allowed (and_parts (names_delivery plan delivery) bounds stands).1

pub allowed_sound : (plan other : Plan) (mail : Mail) → is_sound plan mail ≡ true → has_stage other mail.stage ≡ true → is_sound other mail ≡ true
allowed_sound plan other mail sound allowed =
    let parts = and_parts (keeps_limits mail) (may_stand plan mail.stage mail) sound in
    both_true (keeps_limits mail) (may_stand other mail.stage mail) parts.0 (stands_in plan other mail.stage mail parts.1 allowed)
