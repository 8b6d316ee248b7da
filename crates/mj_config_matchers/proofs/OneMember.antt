-- Tables of one entry.
use Rattle.std.proofs.Common.{◌≡◌, ◌≢◌, false, List, [], ◌∷◌, length, Some, String, Global, string_bytes, slice_get, refl, ap, arith}
use Rattle.toml.specs.Data.{no_members, member}
use Rattle.toml.specs.View.{members_view, view}
use Rattle.toml.specs.declared.value.Value.{Value}
use Rattle.mj_config_matchers.specs.Composites.{has_one_member}

abbrev Entry : Type 0
Entry = String Global × Value

pub not_one : (entries : List Entry) → length entries ≢ 1 → has_one_member (members_view entries) ≡ false
not_one [] other = refl
not_one (e ∷ []) other = absurd (other refl)
not_one (e ∷ f ∷ rest) other = refl

pub only_one : (entries : List Entry) (e : Entry) → length entries ≡ 1 → slice_get entries 0 ≡ Some e → members_view entries ≡ member (string_bytes e.0) (view e.1) no_members
only_one [] e one first = absurd (omega arith)
only_one (f ∷ []) e one first =
    let same : f ≡ e = cc in
    ap (λ (x : Entry). member (string_bytes x.0) (view x.1) no_members) same
only_one (f ∷ g ∷ rest) e one first = absurd (omega arith)
