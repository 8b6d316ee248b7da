use Rattle.std.proofs.Common.{◌≡◌, ◌∷◌, ◌++◌, take}
use Rattle.std.specs.Fmt.{decimal}
use Rattle.std.specs.List.{flat_map}
use Rattle.mj_mail.proofs.name.name_text.Given as goal

abbrev pub invariant-loop-member : goal.invariant-loop-member
invariant-loop-member l = l.text ≡ decimal l.name.number ++ flat_map (λ member. 47 ∷ decimal member) (take l.member-index l.member-items)
