-- The names of remote deliveries, which differ.
use Rattle.std.specs.Prelude.{◌≡◌, ℕ, false, List, [], ◌∷◌, IfSome}
use Rattle.std.specs.List.{list_any}
use Rattle.std.specs.Option.{option_map_or}
use Rattle.std.specs.Str.{bytes_eq}
use Rattle.mj_plan.specs.declared.mailet.MailetKind.{MailetKind}
use Rattle.mj_plan.specs.Sound.{outgoing_of}

-- if the mailet is a remote delivery, its name isn't among these
abbrev pub IsNew : List (List ℕ) → MailetKind → Type 0
IsNew taken mailet = IfSome (outgoing_of mailet) (λ name. list_any (bytes_eq name) taken ≡ false)

-- the name of a remote delivery as a list
abbrev pub deliveries_of : MailetKind → List (List ℕ)
deliveries_of mailet = option_map_or (λ name. name ∷ []) (outgoing_of mailet) []
