-- The addresses of a list of recipients, in either form.
use Rattle.std.specs.Prelude.{ℕ, List}
use Rattle.mj_address.specs.declared.kept.Kept.{Kept}
use Rattle.mj_address.specs.declared.kept.Kept.TheVariants.{Hashed, Plain}

abbrev pub listed : Kept → List (List ℕ × List ℕ)
listed (Hashed set) = set.keys
listed (Plain list) = list.items
