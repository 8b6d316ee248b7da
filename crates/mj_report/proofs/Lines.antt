-- Lists of lines, one more at a time.
use Rattle.std.specs.Prelude.{ℕ, List, map}
use Rattle.std.specs.List.{enumerate_from}
use Rattle.mj_mail.specs.declared.fact.Fact.{Fact}
use Rattle.mj_mail.specs.declared.name.Name.{Name}
use Rattle.mj_mail.specs.Meaning.{Placed}

-- facts with their places, the first of them under this number
abbrev pub placed_from : Name → ℕ → List Fact → List Placed
placed_from name number facts = map (λ fact. record { name = name; number = fact.0; fact = fact.1 }) (enumerate_from number facts)
