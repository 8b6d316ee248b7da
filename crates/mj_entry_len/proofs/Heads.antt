-- How many bytes the fields of a head have.
use Rattle.std.proofs.Common.{◌≡◌, ◌+◌, ◌*◌, ◌≤◌, List, [], ◌∷◌, ◌++◌, length, refl, arith, length-append}
use Rattle.std.specs.List.{flat_map}
use Rattle.mj_head.specs.Head.{RawField, written}
use Rattle.mj_mail.specs.Entry.{pair_form}

-- the two lengths of a field take the place of its colon and its CRLF, and five bytes more
pub fields_len : (fields : List RawField) → length (flat_map pair_form fields) ≡ length (written fields) + length fields * 5
fields_len [] = refl
fields_len (field ∷ fields) = simp length-append (omega (arith, fields_len fields))

-- each field has a colon and a CRLF
pub fields_few : (fields : List RawField) → 3 * length fields ≤ length (written fields)
fields_few [] = omega arith
fields_few (field ∷ fields) =
    let e = length-append field.0 ((58 ∷ field.1) ++ ((13 ∷ 10 ∷ []) ++ written fields)) in
    let f = length-append field.1 ((13 ∷ 10 ∷ []) ++ written fields) in
    omega (arith, fields_few fields, e, f)
