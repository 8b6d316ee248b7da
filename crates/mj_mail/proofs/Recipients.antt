-- Lists of recipients, one more at a time.
use Rattle.std.proofs.Common.{◌≡◌, ℕ, zero, suc, ◌+◌, List, [], ◌∷◌, ◌++◌, take, Some, sym, ap, add-one, append_assoc, append-nil}
use Rattle.std.specs.List.{flat_map, slice_get}
use Rattle.mj_address.specs.Reading.{spelled}
use Rattle.mj_mail.specs.Line.{recipients_text, separator}

others_next : (rs : List (List ℕ × List ℕ)) (k : ℕ) (a : List ℕ × List ℕ) → slice_get rs k ≡ Some a
    → flat_map (λ other. 44 ∷ spelled other) (take (suc k) rs) ≡ flat_map (λ other. 44 ∷ spelled other) (take k rs) ++ (44 ∷ spelled a)
others_next [] k a e = cc
others_next (r ∷ rs) zero a e =
    let same : r ≡ a = cc in
    rw (append-nil (44 ∷ spelled r)) (ap (λ x. 44 ∷ spelled x) same)
others_next (r ∷ rs) (suc k) a e = rw (others_next rs k a e) (sym (append_assoc (44 ∷ spelled r) _ _))

-- one more recipient
pub recipients_next : (rs : List (List ℕ × List ℕ)) (k : ℕ) (a : List ℕ × List ℕ) → slice_get rs k ≡ Some a
    → recipients_text (take (k + 1) rs) ≡ (recipients_text (take k rs) ++ separator k) ++ spelled a
recipients_next [] k a e = cc
recipients_next (r ∷ rs) zero a e =
    let same : r ≡ a = cc in
    rw (append-nil (spelled r)) (ap spelled same)
recipients_next (r ∷ rs) (suc k) a e = rw (add-one (suc k), others_next rs k a e) (simp append_assoc)
