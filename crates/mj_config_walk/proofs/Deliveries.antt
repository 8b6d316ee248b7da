-- A remote delivery that is read has a name that isn't taken.
use Rattle.std.proofs.Common.{◌≡◌, ℕ, Bool, true, false, List, Result, Ok, Err, not, refl, subst, codes, IfOk}
use Rattle.std.specs.List.{list_any}
use Rattle.std.specs.Str.{bytes_eq}
use Rattle.toml.specs.Data.{Members, get_member}
use Rattle.mj_head.specs.Head.{is_field_name}
use Rattle.mj_plan.specs.Forms.{is_attribute_name, is_line, is_processor_name, is_repository}
use Rattle.mj_plan.specs.declared.mailet.MailetKind.{MailetKind}
use Rattle.mj_plan.specs.declared.mailet.MailetKind.TheVariants as mailet
use Rattle.mj_config_walk.specs.declared.fault.PlanKind.{PlanKind}
use Rattle.mj_config_walk.specs.declared.fault.PlanKind.TheVariants.{Twice}
use Rattle.mj_config_walk.specs.declared.fault.Refusal.{Refusal}
use Rattle.mj_config_walk.specs.declared.classes.Class.{Class}
use Rattle.mj_config_walk.specs.declared.classes.Class.TheVariants as class
use Rattle.mj_config_walk.specs.Classes.{of_class}
use Rattle.mj_config_walk.specs.Mailets.{attributes_param, formed_value, forward_param, mapping_param, names_param, new_outgoing, param, pass_through, schedule_param, target_value}
use Rattle.mj_config_walk.specs.Deliveries.{IsNew}
use Rattle.mj_terms.specs.Answers.{◌>>=◌}
use Rattle.mj_config_walk.specs.Values.{Gives, checked, domain_value, maybe, optional, required}

module _ (taken : List (List ℕ)) where
  abbrev Fresh : Result MailetKind PlanKind → Type 0
  Fresh read = (kind : MailetKind) → read ≡ Ok kind → IsNew taken kind

  -- a mailet, and one behind one, two or three readings
  made : (kind : MailetKind) → IsNew taken kind → Fresh (Ok kind)
  made kind new other e = let same : kind ≡ other = cc in subst (IsNew taken) same new

  one : {X : Type 0} (read : Result X PlanKind) (build : X → MailetKind) → ((x : X) → IsNew taken (build x)) → Fresh (read >>= λ x. Ok (build x))
  one (Ok x) build new = made (build x) (new x)
  one (Err kind) build new = λ other e. absurd (cc)

  two : {X Y : Type 0} (read : Result X PlanKind) (next : X → Result Y PlanKind) (build : X → Y → MailetKind)
      → ((x : X) (y : Y) → IsNew taken (build x y)) → Fresh (read >>= λ x. next x >>= λ y. Ok (build x y))
  two (Ok x) next build new = one (next x) (build x) (new x)
  two (Err kind) next build new = λ other e. absurd (cc)

  three : {X Y Z : Type 0} (read : Result X PlanKind) (second : Result Y PlanKind) (third : Result Z PlanKind) (build : X → Y → Z → MailetKind)
      → ((x : X) (y : Y) (z : Z) → IsNew taken (build x y z)) → Fresh (read >>= λ x. second >>= λ y. third >>= λ z. Ok (build x y z))
  three (Ok x) second third build new = two second (λ y. third) (build x) (new x)
  three (Err kind) second third build new = λ other e. absurd (cc)

  -- behind a name that is judged
  named : (read : Result (List ℕ) PlanKind) (next : List ℕ → Result MailetKind PlanKind)
      → ((s : List ℕ) → list_any (bytes_eq s) taken ≡ false → Fresh (next s)) → Fresh ((read >>= new_outgoing taken) >>= next)
  named (Err kind) next fresh = λ other e. absurd (cc)
  named (Ok s) next fresh = λ other. judged other (list_any (bytes_eq s) taken) refl
    where
      judged : (other : MailetKind) (b : Bool) → list_any (bytes_eq s) taken ≡ b → (checked (not b) Twice s >>= next) ≡ Ok other → IsNew taken other
      judged other true is e = absurd (cc)
      judged other false is e = fresh s is other e

  module _ (names : List (List ℕ)) (step : Members) where
    fresh_class : (kind : Class) → Fresh (of_class names taken step kind)
    fresh_class class.ToProcessor = two (required (codes "processor") step) (target_value names) (λ _ s. mailet.ToProcessor s) (λ _ s. tt)
    fresh_class class.Null = made mailet.Null tt
    fresh_class class.SetMailAttribute = one (attributes_param step) mailet.SetMailAttribute (λ x. tt)
    fresh_class class.RemoveMailAttribute = one (names_param is_attribute_name step) mailet.RemoveMailAttribute (λ x. tt)
    fresh_class class.RemoveAllMailAttributes = made mailet.RemoveAllMailAttributes tt
    fresh_class class.SetMimeHeader = two (param is_field_name (codes "name") step) (λ _. param is_line (codes "value") step) mailet.SetMimeHeader (λ x y. tt)
    fresh_class class.RemoveMimeHeader = one (names_param is_field_name step) mailet.RemoveMimeHeader (λ x. tt)
    fresh_class class.MailAttributesToMimeHeaders = one (mapping_param step) mailet.MailAttributesToMimeHeaders (λ x. tt)
    fresh_class class.AddSubjectPrefix = one (param is_line (codes "subjectPrefix") step) mailet.AddSubjectPrefix (λ x. tt)
    fresh_class class.RecipientToLowerCase = made mailet.RecipientToLowerCase tt
    fresh_class class.PostmasterAlias = made mailet.PostmasterAlias tt
    fresh_class class.RecipientRewriteTable = made mailet.RecipientRewriteTable tt
    fresh_class class.Forward = two (forward_param step) (λ _. pass_through false step) mailet.Forward (λ x y. tt)
    fresh_class class.Bounce =
        two (optional (codes "Bounced") (formed_value is_line) (get_member (codes "message") step)) (λ _. pass_through true step) mailet.Bounce (λ x y. tt)
    fresh_class class.NotifyPostmaster = one (pass_through true step) mailet.NotifyPostmaster (λ x. tt)
    fresh_class class.LocalDelivery = made mailet.LocalDelivery tt
    fresh_class class.ToRepository = two (param is_repository (codes "repositoryPath") step) (λ _. pass_through false step) mailet.ToRepository (λ x y. tt)
    fresh_class class.RemoteDelivery =
        let gateway = maybe domain_value (get_member (codes "gateway") step) in
        let bounces = maybe (target_value names) (get_member (codes "bounceProcessor") step) in
        named (optional (codes "outgoing") (formed_value is_processor_name) (get_member (codes "outgoing") step))
        (λ s. schedule_param step >>= λ x. gateway >>= λ y. bounces >>= λ z. Ok (mailet.RemoteDelivery s x y z))
        (λ s new. three (schedule_param step) gateway bounces (mailet.RemoteDelivery s) (λ x y z. new))
    fresh_class class.Fail = one (optional (codes "Fail") (formed_value is_line) (get_member (codes "text") step)) mailet.Fail (λ x. tt)

    pub delivery_is_new : (kind : Class) (result : Result MailetKind Refusal) → Gives result (of_class names taken step kind) → IfOk result (IsNew taken)
    delivery_is_new kind (Ok read) gives = fresh_class kind read gives
    delivery_is_new kind (Err refusal) gives = tt
