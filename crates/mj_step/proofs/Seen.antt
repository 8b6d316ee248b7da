-- What is seen of an option is there where the option is.
use Rattle.std.proofs.Common.{◌≡◌, Option, Some, None, refl}
use Rattle.std.specs.Option.{is_some, option_map}

pub seen_there : {X Y : Type 0} (seen : X → Y) (found : Option X) → is_some (option_map seen found) ≡ is_some found
seen_there seen None = refl
seen_there seen (Some x) = refl
