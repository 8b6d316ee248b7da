-- Where the fields of a written head end (RFC 5322, 2.2.3).
use Rattle.std.specs.Prelude.{ℕ, ◌+◌, ◌==◌, Bool, false, not, ◌&&◌, if◌then◌else◌, List, [], ◌∷◌}
use Rattle.mj_terms.specs.Text.{is_blank}

-- a space or a tab stands at the front
abbrev pub begins_blank : List ℕ → Bool
begins_blank [] = false
begins_blank (b ∷ text) = is_blank b

-- how many LFs have no blank right behind them
abbrev pub field_ends : List ℕ → ℕ
field_ends [] = 0
field_ends (b ∷ text) = (if b == 10 && not (begins_blank text) then 1 else 0) + field_ends text
