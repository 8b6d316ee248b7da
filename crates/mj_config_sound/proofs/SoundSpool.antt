-- The moment, the limit of hops and the rewrite rows that a document is read to have their forms.
use Rattle.std.proofs.Common.{◌≡◌, ℕ, ◌<◌, Bool, true, false, List, [], ◌∷◌, length, Option, Some, None, Result, Ok, Err, refl, ap, ◌∙◌, ◌&&◌, arith}
use Rattle.std.specs.Prelude.{nat_le, nat_lt, if◌then◌else◌, codes}
use Rattle.std.proofs.lemmas.Bool.Decides.{nat_tests}
use Rattle.std.specs.List.{list_all}
use Rattle.toml.specs.Data.{Data, Items, Members, get_member}
use Rattle.mj_address.specs.declared.fault.AddressFault.TheVariants.{LocalTooLong, BadLocal}
use Rattle.mj_address.specs.Grammar.{is_dot_atom}
use Rattle.mj_address.specs.Short.{is_short, is_short_domain}
use Rattle.mj_time.specs.declared.moments.MomentFault.{MomentFault}
use Rattle.mj_time.specs.Moment.{moment_of}
use Rattle.mj_time.proofs.Bounds.{moment_small}
use Rattle.mj_plan.specs.declared.plan.Mapping.{Mapping}
use Rattle.mj_plan.specs.declared.plan.Mapping.TheVariants as mapping
use Rattle.mj_plan.specs.Forms.{is_line}
use Rattle.mj_plan.specs.Sound.{are_items, is_between, is_mapping, is_user}
use Rattle.mj_config_walk.specs.declared.fault.PlanKind.{PlanKind}
use Rattle.mj_config_walk.specs.declared.fault.PlanKind.TheVariants.{Missing, BadAddress, BadArgument, BadMoment, TooMany}
use Rattle.mj_config_walk.specs.declared.spool.Spool.{Spool}
use Rattle.mj_config_walk.specs.Values.{required, text, texts, number, whole, in_moment, address, domain, each, tables, in_address, local_part}
use Rattle.mj_config_walk.specs.Walk.{table_or_none, moment_value, each_value, needed, owner_in, locals_in, bounds_in, spool_of, spool_in, tables_or_none, addresses_row, error_row, host_row, host_row_or_none, row_with, mapping_of, rewrite_of, targets}
use Rattle.mj_config_sound.proofs.Holds.{Holds, ok, err, bind, skip, checks, each_text_of, form_of, optional_of}
use Rattle.mj_config_sound.proofs.SoundAddresses.{address_is_short, address_value_is_short, domain_is_short, domain_value_is_short}

-- ---- [spool]

-- the addresses, the users, the moment, and the limit of hops
pub record IsSpool (spool : Spool) : Type 0 where
  pub host_name : is_short_domain spool.host_name ≡ true
  pub postmaster : is_short spool.postmaster ≡ true
  pub local_users : list_all is_user spool.local_users ≡ true
  pub start : spool.start < 4_133_980_800_000
  pub max_hops : is_between 1 1_000 spool.max_hops ≡ true

pub number_of : (least most : ℕ) (value : Data) → Holds (λ n. is_between least most n ≡ true) (number least most value)
number_of least most value = skip (whole value) (λ n. checks (is_between least most n) BadArgument n (λ h. h))

in_moment_of : (r : Result ℕ MomentFault) → ((m : ℕ) → r ≡ Ok m → m < 4_133_980_800_000) → Holds (λ m. m < 4_133_980_800_000) (in_moment r)
in_moment_of (Ok m) h = ok m (h m refl)
in_moment_of (Err fault) h = err BadMoment

moment_value_of : (value : Data) → Holds (λ m. m < 4_133_980_800_000) (moment_value value)
moment_value_of value = skip (text value) (λ s. in_moment_of (moment_of s) (λ m e. moment_small s m e))

-- the two of them that a reading of `[spool]` gives
record AreBounds (bounds : ℕ × ℕ) : Type 0 where
  start : bounds.0 < 4_133_980_800_000
  max_hops : is_between 1 1_000 bounds.1 ≡ true

bounds_in_of : (members : Members) → Holds AreBounds (bounds_in members)
bounds_in_of members =
    bind (skip (required (codes "start") members) moment_value_of) (λ start h.
    bind (optional_of {Q = λ n. is_between 1 1_000 n ≡ true} 100 (number 1 1_000) (get_member (codes "max_hops") members) refl (number_of 1 1_000)) (λ max_hops k.
    ok (start, max_hops) (record { start = h; max_hops = k })))

user_by : (name : List ℕ) (long formed : Bool) → nat_lt 64 (length name) ≡ long → is_dot_atom name ≡ formed
    → Holds (λ user. is_user user ≡ true) (in_address (if long then Err LocalTooLong else (if formed then Ok name else Err BadLocal)))
user_by name true formed e f = err BadAddress
user_by name false false e f = err BadAddress
user_by name false true e f =
    let short : nat_le (length name) 64 ≡ true = grind (arith, nat_tests) in
    ok name (rw (short, f))

user_of : (name : List ℕ) → Holds (λ user. is_user user ≡ true) (local_part name)
user_of name = user_by name (nat_lt 64 (length name)) (is_dot_atom name) refl refl

users_of : (value : Data) → Holds (λ users. list_all is_user users ≡ true) (each_value local_part value)
users_of value = skip (texts value) (each_text_of is_user local_part user_of)

locals_in_of : (members : Members) → Holds (λ served. list_all is_user served.1 ≡ true) (locals_in members)
locals_in_of members =
    skip (needed (codes "local_hosts") (each_value domain) members) (λ hosts.
    bind (skip (required (codes "local_users") members) users_of) (λ users h.
    ok (hosts, users) h))

-- who the service is
record IsOwner (owner : List ℕ × (List ℕ × List ℕ)) : Type 0 where
  host_name : is_short_domain owner.0 ≡ true
  postmaster : is_short owner.1 ≡ true

owner_in_of : (members : Members) → Holds IsOwner (owner_in members)
owner_in_of members =
    bind (skip (required (codes "host_name") members) domain_value_is_short) (λ host_name h.
    bind (skip (required (codes "postmaster") members) address_value_is_short) (λ postmaster k.
    ok (host_name, postmaster) (record { host_name = h; postmaster = k })))

spool_of_of : (members : Members) → Holds IsSpool (spool_of members)
spool_of_of members =
    bind (owner_in_of members) (λ owner owns.
    bind (locals_in_of members) (λ served users.
    bind (bounds_in_of members) (λ bounds h.
    ok (record { host_name = owner.0; postmaster = owner.1; local_hosts = served.0; local_users = served.1; start = bounds.0; max_hops = bounds.1 })
    (record { host_name = owns.host_name; postmaster = owns.postmaster; local_users = users; start = h.start; max_hops = h.max_hops }))))

pub spool_sound : (value : Option Data) → Holds IsSpool (spool_in value)
spool_sound value = skip (table_or_none value) spool_of_of

-- ---- [[rewrite]]

-- so many short ones at most
record AreFew (to : List (List ℕ × List ℕ)) : Type 0 where
  few : nat_le (length to) 100 ≡ true
  short : list_all is_short to ≡ true

some_targets : (to : List (List ℕ × List ℕ)) → AreFew to → nat_le 1 (length to) ≡ true → are_items is_short to ≡ true
some_targets to h some = rw (some, h.few, h.short)

targets_of : (to : Items) → Holds (λ to. are_items is_short to ≡ true) (targets to)
targets_of to =
    bind (each_text_of is_short address address_is_short to) (λ to short.
    bind (checks {Q = AreFew} (nat_le (length to) 100) TooMany to (λ few. record { few = few; short = short })) (λ to h.
    checks (nat_le 1 (length to)) BadArgument to (λ some. some_targets to h some)))

addresses_row_of : (from to : Data) → Holds (λ m. is_mapping m ≡ true) (addresses_row from to)
addresses_row_of from to =
    skip (text from) (λ from.
    skip (texts to) (λ to.
    skip (address from) (λ from.
    bind (targets_of to) (λ to h. ok (mapping.Addresses from to) h))))

error_row_of : (from error : Data) → Holds (λ m. is_mapping m ≡ true) (error_row from error)
error_row_of from error =
    skip (text from) (λ from.
    skip (text error) (λ error.
    skip (address from) (λ from.
    bind (form_of is_line error) (λ error h. ok (mapping.Error from error) h))))

host_row_of : (from to : Data) → Holds (λ m. is_mapping m ≡ true) (host_row from to)
host_row_of from to =
    skip (text from) (λ from.
    skip (text to) (λ to.
    skip (domain from) (λ from.
    bind (domain_is_short to) (λ to h. ok (mapping.Host from to) h))))

host_row_or_none_of : (from to : Option Data) → Holds (λ m. is_mapping m ≡ true) (host_row_or_none from to)
host_row_or_none_of (Some from) (Some to) = host_row_of from to
host_row_or_none_of None to = err Missing
host_row_or_none_of (Some from) None = err Missing

row_with_of : (from to error : Option Data) (other : Result Mapping PlanKind) → Holds (λ m. is_mapping m ≡ true) other → Holds (λ m. is_mapping m ≡ true) (row_with from to error other)
row_with_of (Some from) (Some to) error other h = addresses_row_of from to
row_with_of (Some from) None (Some error) other h = error_row_of from error
row_with_of (Some from) None None other h = h
row_with_of None to error other h = h

mapping_of_of : (row : Members) → Holds (λ m. is_mapping m ≡ true) (mapping_of row)
mapping_of_of row =
    row_with_of (get_member (codes "from") row) (get_member (codes "to") row) (get_member (codes "error") row)
    (host_row_or_none (get_member (codes "domain") row) (get_member (codes "to_domain") row))
    (host_row_or_none_of (get_member (codes "domain") row) (get_member (codes "to_domain") row))

record AreMappings (count : ℕ) (mappings : List Mapping) : Type 0 where
  long : length mappings ≡ count
  formed : list_all is_mapping mappings ≡ true

mappings_more : (row : Members) (rows : List Members) (first : Mapping) (others : List Mapping) → is_mapping first ≡ true → AreMappings (length rows) others → AreMappings (length (row ∷ rows)) (first ∷ others)
mappings_more row rows first others h k = record { long = omega (arith, k.long); formed = rw (h, k.formed) }

mappings_of_of : (rows : List Members) → Holds (AreMappings (length rows)) (each mapping_of rows)
mappings_of_of [] = ok [] (record { long = refl; formed = refl })
mappings_of_of (row ∷ rows) = bind (mapping_of_of row) (λ first h. bind (mappings_of_of rows) (λ others k. ok (first ∷ others) (mappings_more row rows first others h k)))

few_rows : (most : ℕ) (value : Option Data) → Holds (λ all. nat_le (length all) most ≡ true) (tables_or_none most value)
few_rows most None = ok [] (grind (arith, nat_tests))
few_rows most (Some value) = skip (tables value) (λ all. checks (nat_le (length all) most) TooMany all (λ h. h))

few_mappings : (rows : List Members) (mappings : List Mapping) → nat_le (length rows) 1_000 ≡ true → AreMappings (length rows) mappings → (nat_le (length mappings) 1_000 && list_all is_mapping mappings) ≡ true
few_mappings rows mappings few h =
    let short : nat_le (length mappings) 1_000 ≡ true = ap (λ n. nat_le n 1_000) h.long ∙ few in
    rw (short, h.formed)

pub rewrite_sound : (value : Option Data) → Holds (λ mappings. (nat_le (length mappings) 1_000 && list_all is_mapping mappings) ≡ true) (rewrite_of value)
rewrite_sound value =
    bind (few_rows 1_000 value) (λ rows few. record { of = λ mappings e. few_mappings rows mappings few ((mappings_of_of rows).of mappings e) })
