-- Fields with which a head is one still.
use Rattle.std.proofs.Common.{◌≡◌, ◌↔◌, IsTrue, Bool, true, false, List, Result, Ok, Err, IfOk, refl, sym}
use Rattle.mj_head.specs.Head.{RawField, is_head}
use Rattle.mj_head.specs.Fields.{IsSomeHead}
use Rattle.mj_head.proofs.Law.{some_head, some_head_is}

same_tests : (a b : Bool) → (a ≡ true → b ≡ true) → (b ≡ true → a ≡ true) → a ≡ b
same_tests true b there back = sym (there refl)
same_tests false true there back = back refl
same_tests false false there back = refl

-- A test of whether some text has a head is that of the head's form.
pub is_some : {E : Type 0} (answer : Result Bool E) (fields : List RawField) → IfOk answer (λ added. IsTrue added ↔ IsSomeHead fields)
    → IfOk answer (λ added. added ≡ is_head fields)
is_some (Ok added) fields decides =
    same_tests added (is_head fields) (λ yes. some_head_is fields (decides.0 yes)) (λ head. decides.1 (some_head fields head))
is_some (Err fault) fields decides = tt
