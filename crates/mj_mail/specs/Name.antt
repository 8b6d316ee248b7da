-- Names of mails, and how a name is printed.
use Rattle.std.specs.Prelude.{ℕ, List, [], ◌∷◌, ◌++◌}
use Rattle.std.specs.Fmt.{decimal}
use Rattle.std.specs.List.{flat_map}
use Rattle.mj_mail.specs.declared.name.Name.{Name}

-- the name of the mail that was accepted under this number
abbrev pub first_name : ℕ → Name
first_name number = record { number = number; path = [] }

-- the name of the child of this number
abbrev pub child_name : Name → ℕ → Name
child_name name number = record { number = name.number; path = name.path ++ number ∷ [] }

-- the number, and for each member of the path a slash and the member
abbrev pub text_of : Name → List ℕ
text_of name = decimal name.number ++ flat_map (λ member. 47 ∷ decimal member) name.path
