-- What a sink or a wire tells after more was put at its end.
use Rattle.std.specs.Prelude.{List, ◌++◌, Option, option_map}

-- the list with more at its end, where it is told
abbrev pub grown : {T : Type 0} → Option (List T) → List T → Option (List T)
grown told more = option_map (λ all. all ++ more) told
