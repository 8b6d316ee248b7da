-- The mailets that a step is read to have their forms, and no remote delivery has a name that was taken.
use Rattle.std.proofs.Common.{◌≡◌, ℕ, ◌≤◌, Bool, true, false, not, List, [], ◌∷◌, length, Option, Some, None, Ok, refl, ap, ◌∙◌, ◌&&◌, arith}
use Rattle.std.specs.Prelude.{nat_le, codes}
use Rattle.std.proofs.lemmas.Bool.{and_from}
use Rattle.std.proofs.lemmas.Bool.Decides.{nat_tests}
use Rattle.std.proofs.lemmas.List.Splits.{length-slice_split}
use Rattle.std.proofs.lemmas.List.{length-map}
use Rattle.std.specs.List.{list_all, list_any}
use Rattle.std.specs.Option.{option_map_or}
use Rattle.std.specs.Str.{bytes_eq}
use Rattle.toml.specs.Data.{Data, table, Members, no_members, member, get_member, is_before, is_sorted, members_are_sorted}
use Rattle.mj_terms.specs.Text.{before, behind_byte, trimmed}
use Rattle.mj_address.specs.Short.{is_short}
use Rattle.mj_head.specs.Head.{is_field_name}
use Rattle.mj_plan.specs.declared.mailet.MailetKind.{MailetKind}
use Rattle.mj_plan.specs.declared.mailet.MailetKind.TheVariants.{ToProcessor, Null, SetMailAttribute, RemoveMailAttribute, RemoveAllMailAttributes, SetMimeHeader, RemoveMimeHeader, MailAttributesToMimeHeaders, AddSubjectPrefix, RecipientToLowerCase, PostmasterAlias, RecipientRewriteTable, Forward, Bounce, NotifyPostmaster, LocalDelivery, ToRepository, RemoteDelivery, Fail}
use Rattle.mj_plan.specs.declared.mailet.Named.{Named}
use Rattle.mj_plan.specs.Forms.{is_attribute_name, is_line, is_processor_name, is_repository}
use Rattle.mj_plan.specs.Sound.{is_between, has_items, are_items, is_target, ascends, is_attribute, is_header_mapping, is_mailet, outgoing_of}
use Rattle.mj_config_walk.specs.declared.fault.PlanKind.{PlanKind}
use Rattle.mj_config_walk.specs.declared.fault.PlanKind.TheVariants.{WrongType, Twice, UnknownClass, UnknownProcessor, BadArgument, TooMany}
use Rattle.mj_config_walk.specs.Values.{required, maybe, some_or, text, texts, formed, target, address, domain_value, each, few, is_filled}
use Rattle.mj_config_walk.specs.Arguments.{is_comma, items}
use Rattle.mj_config_walk.specs.Mailets.{param, formed_value, target_value, list_text, names_param, named_texts, table_of_texts, attribute, attributes_param, header_mapping, mapping_param, forward_param, pass_through, outgoing_param, to_processor, set_mail_attribute, remove_mail_attribute, set_mime_header, remove_mime_header, attributes_to_headers, add_subject_prefix, forward, bounce, notify_postmaster, to_repository, remote_delivery, fail}
use Rattle.mj_config_walk.specs.declared.classes.Class.{Class}
use Rattle.mj_config_walk.specs.declared.classes.Class.TheVariants as class
use Rattle.mj_config_walk.specs.Classes.{class_in, class_rows, of_class, of_known, mailet_of}
use Rattle.mj_config_sound.proofs.Holds.{Holds, ok, err, bind, skip, checks, form_of, optional_of, maybe_of, each_of, each_text_of, each_long, weaken, both}
use Rattle.mj_config_sound.proofs.Schedules.{schedule_param_of}
use Rattle.mj_config_sound.proofs.SoundAddresses.{address_is_short}
use Rattle.mj_config_sound.proofs.Sorted.{first_sorted, required_sorted}

-- ---- Parameters

pub formed_value_of : (form : List ℕ → Bool) (value : Data) → Holds (λ s. form s ≡ true) (formed_value form value)
formed_value_of form value = skip (text value) (λ s. form_of form s)

param_of : (form : List ℕ → Bool) (key : List ℕ) (step : Members) → Holds (λ s. form s ≡ true) (param form key step)
param_of form key step = skip (required key step) (λ value. formed_value_of form value)

pub target_of : (names : List (List ℕ)) (s : List ℕ) → Holds (λ s. is_target names s ≡ true) (target names s)
target_of names s = checks (is_target names s) UnknownProcessor s (λ h. h)

target_value_of : (names : List (List ℕ)) (value : Data) → Holds (λ s. is_target names s ≡ true) (target_value names value)
target_value_of names value = skip (text value) (λ s. target_of names s)

-- so many items of a form
few_of : {X : Type 0} (form : X → Bool) (xs : List X) → list_all form xs ≡ true → Holds (λ xs. are_items form xs ≡ true) (few xs)
few_of form xs all = checks (has_items 100 xs) BadArgument xs (λ h. rw (h, all))

names_param_of : (form : List ℕ → Bool) (step : Members) → Holds (λ xs. are_items form xs ≡ true) (names_param form step)
names_param_of form step =
    skip (required (codes "name") step) (λ value.
    skip (list_text value) (λ names.
    bind (each_of form (formed form) (form_of form) names) (λ xs all. few_of form xs all)))

header_mapping_of : (s : List ℕ) → Holds (λ named. is_header_mapping named ≡ true) (header_mapping s)
header_mapping_of s =
    skip (some_or BadArgument (behind_byte 59 s)) (λ field.
    bind (form_of is_attribute_name (before 59 s)) (λ name h.
    bind (form_of is_field_name field) (λ field k. ok (record { name = name; value = field }) (rw (h, k)))))

mapping_param_of : (step : Members) → Holds (λ xs. are_items is_header_mapping xs ≡ true) (mapping_param step)
mapping_param_of step =
    skip (required (codes "simplemapping") step) (λ value.
    skip (texts value) (λ pairs.
    bind (each_text_of is_header_mapping header_mapping header_mapping_of pairs) (λ xs all. few_of is_header_mapping xs all)))

-- there is at least one item
some_items : (s : List ℕ) → 1 ≤ length (items s)
some_items s = omega (arith, length-map {A = List ℕ} {B = List ℕ}, length-slice_split is_comma s)

listed_by : (n most : ℕ) → 1 ≤ n → nat_le n most ≡ true → is_between 1 most n ≡ true
listed_by n most low high = grind (arith, nat_tests)

list_text_of : (value : Data) → Holds (λ names. 1 ≤ length names) (list_text value)
list_text_of value =
    skip (text value) (λ s.
    skip (formed is_filled (trimmed s)) (λ filled. ok (items filled) (some_items filled)))

forward_param_of : (step : Members) → Holds (λ xs. (has_items 500 xs && list_all is_short xs) ≡ true) (forward_param step)
forward_param_of step =
    skip (required (codes "forwardTo") step) (λ value.
    bind (list_text_of value) (λ names some.
    bind (both (each_long address names) (each_of is_short address address_is_short names)) (λ xs h.
    let long = h.0 in
    checks (nat_le (length xs) 500) TooMany xs (λ few. and_from (has_items 500 xs) (list_all is_short xs) (listed_by (length xs) 500 (omega arith) few) h.1))))

-- ---- Attributes

-- names that ascend, behind any that comes before the members
record Ascend (members : Members) (named : List Named) : Type 0 where
  alone : ascends named ≡ true
  behind : (k value : List ℕ) → is_before k members ≡ true → ascends (record { name = k; value = value } ∷ named) ≡ true

ascend_more : (k s : List ℕ) (value : Data) (rest : Members) (others : List Named) → is_before k rest ≡ true → Ascend rest others → Ascend (member k value rest) (record { name = k; value = s } ∷ others)
ascend_more k s value rest others next h = record {
  alone = h.behind k s next;
  behind = λ l t first. rw first (h.behind k s next);
}

named_texts_ascend : (members : Members) → members_are_sorted members ≡ true → Holds (Ascend members) (named_texts members)
named_texts_ascend no_members h = ok [] (record { alone = refl; behind = λ k value first. refl })
named_texts_ascend (member name value rest) h =
    let parts = first_sorted name value rest h in
    skip (text value) (λ s.
    bind (named_texts_ascend rest parts.2) (λ others k. ok (record { name = name; value = s } ∷ others) (ascend_more name s value rest others parts.0 k)))

table_of_texts_ascends : (value : Data) → is_sorted value ≡ true → Holds (λ named. ascends named ≡ true) (table_of_texts value)
table_of_texts_ascends (table members) h = weaken (λ named a. a.alone) (named_texts_ascend members h)
table_of_texts_ascends other h = err WrongType

attributes_kept : (named : List Named) → Holds (λ xs. (xs ≡ named) × (list_all is_attribute xs ≡ true)) (each attribute named)
attributes_kept [] = ok [] (refl, refl)
attributes_kept (a ∷ rest) =
    bind (checks {Q = λ x. (x ≡ a) × (is_attribute x ≡ true)} (is_attribute a) BadArgument a (λ h. (refl, h))) (λ first h.
    bind (attributes_kept rest) (λ others k. ok (first ∷ others) ((λ i. h.0 i ∷ k.0 i), rw (h.1, k.1))))

attributes_param_of : (step : Members) → members_are_sorted step ≡ true → Holds (λ xs. (are_items is_attribute xs && ascends xs) ≡ true) (attributes_param step)
attributes_param_of step sorted =
    bind (required_sorted (codes "attributes") step sorted) (λ value h.
    bind (table_of_texts_ascends value h) (λ named up.
    bind (attributes_kept named) (λ xs k.
    checks (has_items 100 xs) BadArgument xs (λ some. let rising : ascends xs ≡ true = ap ascends k.0 ∙ up in rw (some, k.1, rising)))))

-- ---- Remote deliveries

outgoing_param_of : (taken : List (List ℕ)) (step : Members) → Holds (λ s. (is_processor_name s ≡ true) × (not (list_any (bytes_eq s) taken) ≡ true)) (outgoing_param taken step)
outgoing_param_of taken step =
    bind (optional_of {Q = λ s. is_processor_name s ≡ true} (codes "outgoing") (formed_value is_processor_name) (get_member (codes "outgoing") step) refl (formed_value_of is_processor_name)) (λ s h.
    checks (not (list_any (bytes_eq s) taken)) Twice s (λ new. (h, new)))

-- ---- Classes

-- a mailet of its form, whose name as a remote delivery isn't taken
pub record IsNew (names taken : List (List ℕ)) (kind : MailetKind) : Type 0 where
  pub formed : is_mailet names kind ≡ true
  pub new : option_map_or (λ s. not (list_any (bytes_eq s) taken)) (outgoing_of kind) true ≡ true

module _ (names taken : List (List ℕ)) where
  to_processor_of : (step : Members) → Holds (IsNew names taken) (to_processor names step)
  to_processor_of step =
      skip (required (codes "processor") step) (λ value.
      bind (target_value_of names value) (λ s h. ok (ToProcessor s) (record { formed = h; new = refl })))

  set_mail_attribute_of : (step : Members) → members_are_sorted step ≡ true → Holds (IsNew names taken) (set_mail_attribute step)
  set_mail_attribute_of step sorted = bind (attributes_param_of step sorted) (λ xs h. ok (SetMailAttribute xs) (record { formed = h; new = refl }))

  remove_mail_attribute_of : (step : Members) → Holds (IsNew names taken) (remove_mail_attribute step)
  remove_mail_attribute_of step = bind (names_param_of is_attribute_name step) (λ xs h. ok (RemoveMailAttribute xs) (record { formed = h; new = refl }))

  set_mime_header_of : (step : Members) → Holds (IsNew names taken) (set_mime_header step)
  set_mime_header_of step =
      bind (param_of is_field_name (codes "name") step) (λ name h.
      bind (param_of is_line (codes "value") step) (λ value k. ok (SetMimeHeader name value) (record { formed = rw (h, k); new = refl })))

  remove_mime_header_of : (step : Members) → Holds (IsNew names taken) (remove_mime_header step)
  remove_mime_header_of step = bind (names_param_of is_field_name step) (λ xs h. ok (RemoveMimeHeader xs) (record { formed = h; new = refl }))

  attributes_to_headers_of : (step : Members) → Holds (IsNew names taken) (attributes_to_headers step)
  attributes_to_headers_of step = bind (mapping_param_of step) (λ xs h. ok (MailAttributesToMimeHeaders xs) (record { formed = h; new = refl }))

  add_subject_prefix_of : (step : Members) → Holds (IsNew names taken) (add_subject_prefix step)
  add_subject_prefix_of step = bind (param_of is_line (codes "subjectPrefix") step) (λ s h. ok (AddSubjectPrefix s) (record { formed = h; new = refl }))

  forward_of : (step : Members) → Holds (IsNew names taken) (forward step)
  forward_of step =
      bind (forward_param_of step) (λ to h.
      skip (pass_through false step) (λ goes_on. ok (Forward to goes_on) (record { formed = h; new = refl })))

  bounce_of : (step : Members) → Holds (IsNew names taken) (bounce step)
  bounce_of step =
      bind (optional_of {Q = λ s. is_line s ≡ true} (codes "Bounced") (formed_value is_line) (get_member (codes "message") step) refl (formed_value_of is_line)) (λ message h.
      skip (pass_through true step) (λ goes_on. ok (Bounce message goes_on) (record { formed = h; new = refl })))

  notify_postmaster_of : (step : Members) → Holds (IsNew names taken) (notify_postmaster step)
  notify_postmaster_of step = skip (pass_through true step) (λ goes_on. ok (NotifyPostmaster goes_on) (record { formed = refl; new = refl }))

  to_repository_of : (step : Members) → Holds (IsNew names taken) (to_repository step)
  to_repository_of step =
      bind (param_of is_repository (codes "repositoryPath") step) (λ path h.
      skip (pass_through false step) (λ goes_on. ok (ToRepository path goes_on) (record { formed = h; new = refl })))

  remote_delivery_of : (step : Members) → Holds (IsNew names taken) (remote_delivery names taken step)
  remote_delivery_of step =
      bind (outgoing_param_of taken step) (λ outgoing h.
      bind (schedule_param_of step) (λ delays few.
      skip (maybe domain_value (get_member (codes "gateway") step)) (λ gateway.
      bind (maybe_of (is_target names) (target_value names) (get_member (codes "bounceProcessor") step) (target_value_of names)) (λ bounces k.
      ok (RemoteDelivery outgoing delays gateway bounces) (record { formed = rw (h.0, few, k); new = h.1 })))))

  fail_of : (step : Members) → Holds (IsNew names taken) (fail step)
  fail_of step =
      bind (optional_of {Q = λ s. is_line s ≡ true} (codes "Fail") (formed_value is_line) (get_member (codes "text") step) refl (formed_value_of is_line)) (λ s h.
      ok (Fail s) (record { formed = h; new = refl }))

  plain : (kind : MailetKind) → is_mailet names kind ≡ true → option_map_or (λ s. not (list_any (bytes_eq s) taken)) (outgoing_of kind) true ≡ true → Holds {E = PlanKind} (IsNew names taken) (Ok kind)
  plain kind h k = ok kind (record { formed = h; new = k })

  class_of_of : (c : Class) (step : Members) → members_are_sorted step ≡ true → Holds (IsNew names taken) (of_class names taken step c)
  class_of_of class.ToProcessor step sorted = to_processor_of step
  class_of_of class.Null step sorted = plain Null refl refl
  class_of_of class.SetMailAttribute step sorted = set_mail_attribute_of step sorted
  class_of_of class.RemoveMailAttribute step sorted = remove_mail_attribute_of step
  class_of_of class.RemoveAllMailAttributes step sorted = plain RemoveAllMailAttributes refl refl
  class_of_of class.SetMimeHeader step sorted = set_mime_header_of step
  class_of_of class.RemoveMimeHeader step sorted = remove_mime_header_of step
  class_of_of class.MailAttributesToMimeHeaders step sorted = attributes_to_headers_of step
  class_of_of class.AddSubjectPrefix step sorted = add_subject_prefix_of step
  class_of_of class.RecipientToLowerCase step sorted = plain RecipientToLowerCase refl refl
  class_of_of class.PostmasterAlias step sorted = plain PostmasterAlias refl refl
  class_of_of class.RecipientRewriteTable step sorted = plain RecipientRewriteTable refl refl
  class_of_of class.Forward step sorted = forward_of step
  class_of_of class.Bounce step sorted = bounce_of step
  class_of_of class.NotifyPostmaster step sorted = notify_postmaster_of step
  class_of_of class.LocalDelivery step sorted = plain LocalDelivery refl refl
  class_of_of class.ToRepository step sorted = to_repository_of step
  class_of_of class.RemoteDelivery step sorted = remote_delivery_of step
  class_of_of class.Fail step sorted = fail_of step

  known_of : (c : Option Class) (step : Members) → members_are_sorted step ≡ true → Holds (IsNew names taken) (of_known names taken step c)
  known_of None step sorted = err UnknownClass
  known_of (Some c) step sorted = class_of_of c step sorted

  pub mailet_of_of : (s : List ℕ) (step : Members) → members_are_sorted step ≡ true → Holds (IsNew names taken) (mailet_of names taken s step)
  mailet_of_of s step sorted = known_of (class_in class_rows s) step sorted
