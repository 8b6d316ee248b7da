-- When a plan keeps every form, limit and reference of the configuration. What is an address, a domain or a schedule
-- keeps its form by its type; here it is said only that the addresses which stand in mails and notices are short, and how
-- long a remote delivery may wait.
use Rattle.std.specs.Prelude.{◌≡◌, ℕ, suc, max, ◌*◌, ◌^◌, ◌<◌, ◌≤◌, nat_le, nat_lt, ◌==◌, Bool, true, not, ◌&&◌, ◌||◌, List, [], ◌∷◌, length, map, codes, Option, Some, None}
use Rattle.std.specs.Ordering.{nat_cmp, is_lt}
use Rattle.std.specs.Cmp.Lexicographic.{slice_cmp}
use Rattle.std.specs.List.{list_all, list_any, flat_map, filter_map, sum}
use Rattle.std.specs.Option.{option_map_or}
use Rattle.std.specs.Str.{bytes_eq}
use Rattle.mj_address.specs.Grammar.{is_dot_atom}
use Rattle.mj_address.specs.Short.{is_short, is_short_domain}
use Rattle.mj_delays.specs.Limits as delay
use Rattle.mj_head.specs.Head.{is_field_name}
use Rattle.mj_plan.specs.declared.condition.Condition.{Condition}
use Rattle.mj_plan.specs.declared.condition.Condition.TheVariants as condition
use Rattle.mj_plan.specs.declared.mailet.MailetKind.{MailetKind}
use Rattle.mj_plan.specs.declared.mailet.MailetKind.TheVariants as mailet
use Rattle.mj_plan.specs.declared.mailet.Named.{Named}
use Rattle.mj_plan.specs.declared.matcher.MatchExpr.{MatchExpr}
use Rattle.mj_plan.specs.declared.matcher.MatchExpr.TheOpen.{MatchExpr-F}
use Rattle.mj_plan.specs.declared.matcher.MatchExpr.TheFolds.{fold-MatchExpr}
use Rattle.mj_plan.specs.declared.plan.MailetRoute.{MailetRoute}
use Rattle.mj_plan.specs.declared.plan.MailetRoute.TheVariants as on_mailet
use Rattle.mj_plan.specs.declared.plan.Mapping.{Mapping}
use Rattle.mj_plan.specs.declared.plan.Mapping.TheVariants as mapping
use Rattle.mj_plan.specs.declared.plan.MatchRoute.{MatchRoute}
use Rattle.mj_plan.specs.declared.plan.MatchRoute.TheVariants as on_match
use Rattle.mj_plan.specs.declared.plan.Plan.{Plan}
use Rattle.mj_plan.specs.declared.plan.Processor.{Processor}
use Rattle.mj_plan.specs.declared.plan.Step.{Step}
use Rattle.mj_plan.specs.Forms.{is_attribute_name, is_attribute_value, is_line, is_processor_name, is_reply_code, is_repository}

abbrev pub is_between : ℕ → ℕ → ℕ → Bool
is_between least most n = nat_le least n && nat_le n most

-- a list of one to so many items
abbrev pub has_items : {X : Type 0} → ℕ → List X → Bool
has_items most items = is_between 1 most (length items)

abbrev pub is_filled : List ℕ → Bool
is_filled text = nat_le 1 (length text)

-- no two of the texts are equal
abbrev pub are_different : List (List ℕ) → Bool
are_different [] = true
are_different (text ∷ texts) = not (list_any (bytes_eq text) texts) && are_different texts

-- ---- Conditions

abbrev pub is_condition : Condition → Bool
is_condition condition.All = true
is_condition (condition.RecipientIs addresses) = has_items 100 addresses
is_condition condition.RecipientIsLocal = true
is_condition (condition.HostIs hosts) = has_items 100 hosts
is_condition condition.HostIsLocal = true
is_condition (condition.UserIs users) = has_items 100 users && list_all is_filled users
is_condition (condition.SenderIs addresses) = has_items 100 addresses
is_condition (condition.SenderHostIs hosts) = has_items 100 hosts
is_condition condition.SenderIsNull = true
is_condition (condition.SizeGreaterThan bound) = nat_le bound (999_999_999 * 1_048_576)
is_condition (condition.SubjectIs text) = is_filled text
is_condition (condition.SubjectStartsWith text) = is_filled text
is_condition (condition.HasHeader field value) = is_field_name field
is_condition (condition.HasMailAttribute name) = is_attribute_name name
is_condition (condition.HasMailAttributeWithValue name value) = is_attribute_name name && is_attribute_value value
is_condition (condition.RelayLimit count) = is_between 1 9_999 count
is_condition condition.IsSingleRecipient = true
is_condition (condition.TooManyRecipients count) = is_between 1 9_999 count
is_condition (condition.CompareNumericHeaderValue field relation number) = is_field_name field && nat_lt number (10 ^ 18)
is_condition condition.IsRemoteDeliveryPermanentError = true
is_condition condition.IsRemoteDeliveryTemporaryError = true
is_condition (condition.RemoteDeliveryFailedWithSMTPCode code) = is_reply_code code
is_condition condition.Fail = true

-- ---- Matchers

-- how many conditions a matcher has
abbrev pub conditions_at : MatchExpr-F ℕ → ℕ
conditions_at (MatchExpr-F.One c) = 1
conditions_at (MatchExpr-F.And counts) = sum counts
conditions_at (MatchExpr-F.Or counts) = sum counts
conditions_at (MatchExpr-F.Not counts) = sum counts
conditions_at (MatchExpr-F.Xor counts) = sum counts

abbrev pub conditions : MatchExpr → ℕ
conditions = fold-MatchExpr ℕ conditions_at

-- the greatest of the depths
abbrev pub deepest : List ℕ → ℕ
deepest [] = 0
deepest (depth ∷ depths) = max depth (deepest depths)

-- how many composites stand inside each other at the deepest place
abbrev pub depth_at : MatchExpr-F ℕ → ℕ
depth_at (MatchExpr-F.One c) = 0
depth_at (MatchExpr-F.And depths) = suc (deepest depths)
depth_at (MatchExpr-F.Or depths) = suc (deepest depths)
depth_at (MatchExpr-F.Not depths) = suc (deepest depths)
depth_at (MatchExpr-F.Xor depths) = suc (deepest depths)

abbrev pub depth : MatchExpr → ℕ
depth = fold-MatchExpr ℕ depth_at

-- each condition has its form, `And`, `Or` and `Not` have a child, and `Xor` has two
abbrev pub is_formed_at : MatchExpr-F Bool → Bool
is_formed_at (MatchExpr-F.One c) = is_condition c
is_formed_at (MatchExpr-F.And formed) = nat_le 1 (length formed) && list_all (λ x. x) formed
is_formed_at (MatchExpr-F.Or formed) = nat_le 1 (length formed) && list_all (λ x. x) formed
is_formed_at (MatchExpr-F.Not formed) = nat_le 1 (length formed) && list_all (λ x. x) formed
is_formed_at (MatchExpr-F.Xor formed) = length formed == 2 && list_all (λ x. x) formed

abbrev pub is_formed : MatchExpr → Bool
is_formed = fold-MatchExpr Bool is_formed_at

-- a matcher has at most 100 conditions, with at most 16 composites inside each other
abbrev pub is_matcher : MatchExpr → Bool
is_matcher x = is_formed x && nat_le (conditions x) 100 && nat_le (depth x) 16

-- ---- Mailets

-- a mail may be sent to a processor of these names, or to `ghost`
abbrev pub is_target : List (List ℕ) → List ℕ → Bool
is_target names state = bytes_eq state (codes "ghost") || list_any (bytes_eq state) names

-- a list of one to 100 items, each of this form
abbrev pub are_items : {X : Type 0} → (X → Bool) → List X → Bool
are_items form items = has_items 100 items && list_all form items

-- the names ascend byte by byte, so no two are equal
abbrev pub ascends : List Named → Bool
ascends [] = true
ascends (a ∷ []) = true
ascends (a ∷ b ∷ rest) = is_lt (slice_cmp nat_cmp a.name b.name) && ascends (b ∷ rest)

abbrev pub is_attribute : Named → Bool
is_attribute named = is_attribute_name named.name && is_attribute_value named.value

abbrev pub is_header_mapping : Named → Bool
is_header_mapping named = is_attribute_name named.name && is_field_name named.value

-- at most 100 delays, each of at most seven days
abbrev pub is_schedule : List ℕ → Bool
is_schedule schedule = nat_le (length schedule) 100 && list_all delay.is_short schedule

abbrev pub is_mailet : List (List ℕ) → MailetKind → Bool
is_mailet names (mailet.ToProcessor processor) = is_target names processor
is_mailet names mailet.Null = true
is_mailet names (mailet.SetMailAttribute attributes) = are_items is_attribute attributes && ascends attributes
is_mailet names (mailet.RemoveMailAttribute removed) = are_items is_attribute_name removed
is_mailet names mailet.RemoveAllMailAttributes = true
is_mailet names (mailet.SetMimeHeader name value) = is_field_name name && is_line value
is_mailet names (mailet.RemoveMimeHeader removed) = are_items is_field_name removed
is_mailet names (mailet.MailAttributesToMimeHeaders mapping) = are_items is_header_mapping mapping
is_mailet names (mailet.AddSubjectPrefix prefix) = is_line prefix
is_mailet names mailet.RecipientToLowerCase = true
is_mailet names mailet.PostmasterAlias = true
is_mailet names mailet.RecipientRewriteTable = true
is_mailet names (mailet.Forward to pass_through) = has_items 500 to && list_all is_short to
is_mailet names (mailet.Bounce message pass_through) = is_line message
is_mailet names (mailet.NotifyPostmaster pass_through) = true
is_mailet names mailet.LocalDelivery = true
is_mailet names (mailet.ToRepository path pass_through) = is_repository path
is_mailet names (mailet.RemoteDelivery outgoing schedule gateway bounce_processor) =
    is_processor_name outgoing && (is_schedule schedule && option_map_or (is_target names) bounce_processor true)
is_mailet names (mailet.Fail text) = is_line text

-- ---- Steps and processors

abbrev pub is_match_route : List (List ℕ) → MatchRoute → Bool
is_match_route names on_match.NoMatch = true
is_match_route names on_match.MatchAll = true
is_match_route names (on_match.To state) = is_target names state

abbrev pub is_mailet_route : List (List ℕ) → MailetRoute → Bool
is_mailet_route names on_mailet.Ignore = true
is_mailet_route names (on_mailet.To state) = is_target names state

abbrev pub is_step : List (List ℕ) → Step → Bool
is_step names step = is_matcher step.matcher && is_match_route names step.on_match && is_mailet names step.mailet && is_mailet_route names step.on_mailet

-- words that route a failure, and the state that ends all processing, name no processor
abbrev pub is_reserved : List ℕ → Bool
is_reserved name = list_any (bytes_eq name) (codes "ghost" ∷ codes "nomatch" ∷ codes "matchall" ∷ codes "ignore" ∷ [])

abbrev pub is_processor : List (List ℕ) → Processor → Bool
is_processor names processor =
    (is_processor_name processor.name && not (is_reserved processor.name))
    && nat_le (length processor.steps) 200 && list_all (is_step names) processor.steps

abbrev pub names_of : List Processor → List (List ℕ)
names_of processors = map (λ processor. processor.name) processors

-- the names of the remote deliveries
abbrev pub outgoing_of : MailetKind → Option (List ℕ)
outgoing_of (mailet.RemoteDelivery outgoing schedule gateway bounce_processor) = Some outgoing
outgoing_of kind = None

abbrev pub deliveries_of : List Processor → List (List ℕ)
deliveries_of processors = flat_map (λ processor. filter_map (λ step. outgoing_of step.mailet) processor.steps) processors

-- ---- Plans

-- 1 to 100 targets, a text that failures give, or another host
abbrev pub is_mapping : Mapping → Bool
is_mapping (mapping.Addresses from to) = are_items is_short to
is_mapping (mapping.Error from text) = is_line text
is_mapping (mapping.Host from to) = is_short_domain to

-- a user of the service is a local part (RFC 5321, 4.5.3.1.1)
abbrev pub is_user : List ℕ → Bool
is_user name = nat_le (length name) 64 && is_dot_atom name

-- A plan that keeps every form, limit and reference.
pub record IsSound (plan : Plan) : Type 0 where
  pub host_name : is_short_domain plan.host_name ≡ true
  pub postmaster : is_short plan.postmaster ≡ true
  pub local_users : list_all is_user plan.local_users ≡ true
  -- until the end of the year 2100
  pub start : plan.start < 4_133_980_800_000
  pub max_hops : is_between 1 1_000 plan.max_hops ≡ true
  pub mappings : (nat_le (length plan.mappings) 1_000 && list_all is_mapping plan.mappings) ≡ true
  pub few : length plan.processors ≤ 100
  pub names : are_different (names_of plan.processors) ≡ true
  -- a mail begins in `root`, and what fails goes to `error` where no other processor is named
  pub root : list_any (bytes_eq (codes "root")) (names_of plan.processors) ≡ true
  pub error : list_any (bytes_eq (codes "error")) (names_of plan.processors) ≡ true
  pub processors : list_all (is_processor (names_of plan.processors)) plan.processors ≡ true
  -- each remote delivery has a name of its own
  pub deliveries : are_different (deliveries_of plan.processors) ≡ true
