-- Lists of references, and what they show.
use Rattle.std.proofs.Common.{◌≡◌, List, length, map}
use Rattle.std.proofs.lemmas.List.{length-map}

pub map_length : {A B : Type 0} (xs : List A) (f : A → B) → length (map f xs) ≡ length xs
map_length xs f = length-map xs f
