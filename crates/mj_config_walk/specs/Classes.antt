-- Mailets: a class by its name, with its parameters.
use Rattle.std.specs.Prelude.{ℕ, if◌then◌else◌, List, [], ◌∷◌, codes, Option, Some, None, Result, Ok, Err}
use Rattle.std.specs.Str.{bytes_eq}
use Rattle.toml.specs.Data.{Members}
use Rattle.mj_plan.specs.declared.mailet.MailetKind.{MailetKind}
use Rattle.mj_plan.specs.declared.mailet.MailetKind.TheVariants.{Null, RemoveAllMailAttributes, RecipientToLowerCase, PostmasterAlias, RecipientRewriteTable, LocalDelivery}
use Rattle.mj_config_walk.specs.declared.fault.PlanKind.{PlanKind}
use Rattle.mj_config_walk.specs.declared.fault.PlanKind.TheVariants.{UnknownClass}
use Rattle.mj_config_walk.specs.declared.classes.Class.{Class}
use Rattle.mj_config_walk.specs.declared.classes.Class.TheVariants as class
use Rattle.mj_config_walk.specs.Mailets.{to_processor, set_mail_attribute, remove_mail_attribute, set_mime_header, remove_mime_header, attributes_to_headers, add_subject_prefix, forward, bounce, notify_postmaster, to_repository, remote_delivery, fail}

-- one row a class
abbrev pub class_rows : List (List ℕ × Class)
class_rows =
    (codes "ToProcessor", class.ToProcessor) ∷
    (codes "Null", class.Null) ∷
    (codes "SetMailAttribute", class.SetMailAttribute) ∷
    (codes "RemoveMailAttribute", class.RemoveMailAttribute) ∷
    (codes "RemoveAllMailAttributes", class.RemoveAllMailAttributes) ∷
    (codes "SetMimeHeader", class.SetMimeHeader) ∷
    (codes "RemoveMimeHeader", class.RemoveMimeHeader) ∷
    (codes "MailAttributesToMimeHeaders", class.MailAttributesToMimeHeaders) ∷
    (codes "AddSubjectPrefix", class.AddSubjectPrefix) ∷
    (codes "RecipientToLowerCase", class.RecipientToLowerCase) ∷
    (codes "PostmasterAlias", class.PostmasterAlias) ∷
    (codes "RecipientRewriteTable", class.RecipientRewriteTable) ∷
    (codes "Forward", class.Forward) ∷
    (codes "Bounce", class.Bounce) ∷
    (codes "NotifyPostmaster", class.NotifyPostmaster) ∷
    (codes "LocalDelivery", class.LocalDelivery) ∷
    (codes "ToRepository", class.ToRepository) ∷
    (codes "RemoteDelivery", class.RemoteDelivery) ∷
    (codes "Fail", class.Fail) ∷
    []

-- the class that stands behind a name
abbrev pub class_in : List (List ℕ × Class) → List ℕ → Option Class
class_in [] s = None
class_in (row ∷ rows) s = if bytes_eq s row.0 then Some row.1 else class_in rows s

-- the mailet of a class
abbrev pub of_class : List (List ℕ) → List (List ℕ) → Members → Class → Result MailetKind PlanKind
of_class names taken step class.ToProcessor = to_processor names step
of_class names taken step class.Null = Ok Null
of_class names taken step class.SetMailAttribute = set_mail_attribute step
of_class names taken step class.RemoveMailAttribute = remove_mail_attribute step
of_class names taken step class.RemoveAllMailAttributes = Ok RemoveAllMailAttributes
of_class names taken step class.SetMimeHeader = set_mime_header step
of_class names taken step class.RemoveMimeHeader = remove_mime_header step
of_class names taken step class.MailAttributesToMimeHeaders = attributes_to_headers step
of_class names taken step class.AddSubjectPrefix = add_subject_prefix step
of_class names taken step class.RecipientToLowerCase = Ok RecipientToLowerCase
of_class names taken step class.PostmasterAlias = Ok PostmasterAlias
of_class names taken step class.RecipientRewriteTable = Ok RecipientRewriteTable
of_class names taken step class.Forward = forward step
of_class names taken step class.Bounce = bounce step
of_class names taken step class.NotifyPostmaster = notify_postmaster step
of_class names taken step class.LocalDelivery = Ok LocalDelivery
of_class names taken step class.ToRepository = to_repository step
of_class names taken step class.RemoteDelivery = remote_delivery names taken step
of_class names taken step class.Fail = fail step

-- the mailet of a class, where it is known
abbrev pub of_known : List (List ℕ) → List (List ℕ) → Members → Option Class → Result MailetKind PlanKind
of_known names taken step None = Err UnknownClass
of_known names taken step (Some class) = of_class names taken step class

-- the mailet of a class of this name, where these processors are there and these names of remote deliveries are taken
abbrev pub mailet_of : List (List ℕ) → List (List ℕ) → List ℕ → Members → Result MailetKind PlanKind
mailet_of names taken s step = of_known names taken step (class_in class_rows s)
