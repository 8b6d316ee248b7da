-- One turn of the reading of a list.
use Rattle.std.proofs.Common.{◌≡◌, ℕ, suc, ◌+◌, ◌-◌, ◌<◌, Bool, true, false, if◌then◌else◌, List, [], ◌∷◌, ◌++◌, Option, Some, None, ap, ◌∙◌, arith}
use Rattle.mj_entry_rows.specs.Readings.{Reading, more_in, then_in}

-- what is made of an item that was read
abbrev pub turn : {X : Type 0} → Reading X → (List X → X → Bool) → List X → ℕ → X → List ℕ → Option (List X × List ℕ)
turn read fits so_far count item rest = if fits so_far item then more_in read fits (so_far ++ item ∷ []) count rest else None

left : {X : Type 0} (read : Reading X) (fits : List X → X → Bool) (so_far : List X) (count more : ℕ) (bytes : List ℕ) → more ≡ suc count
    → more_in read fits so_far more bytes ≡ then_in (read bytes) (turn read fits so_far count)
left read fits so_far count more bytes is = ap (λ (n : ℕ). more_in read fits so_far n bytes) is

-- an item that fits is put behind those so far
pub one_more : {X : Type 0} (read : Reading X) (fits : List X → X → Bool) (so_far : List X) (count i : ℕ) (bytes rest : List ℕ) (item : X) → i < count
    → read bytes ≡ Some (item, rest) → fits so_far item ≡ true
    → more_in read fits so_far (count - i) bytes ≡ more_in read fits (so_far ++ item ∷ []) (count - (i + 1)) rest
one_more read fits so_far count i bytes rest item within is fit =
    left read fits so_far (count - (i + 1)) (count - i) bytes (omega arith)
    ∙ ap (λ (found : Option _). then_in found (turn read fits so_far (count - (i + 1)))) is
    ∙ ap (λ (fitting : Bool). if fitting then more_in read fits (so_far ++ item ∷ []) (count - (i + 1)) rest else None) fit

-- where no item is, there is no list
pub none_more : {X : Type 0} (read : Reading X) (fits : List X → X → Bool) (so_far : List X) (count i : ℕ) (bytes : List ℕ) → i < count
    → read bytes ≡ None → more_in read fits so_far (count - i) bytes ≡ None
none_more read fits so_far count i bytes within is =
    left read fits so_far (count - (i + 1)) (count - i) bytes (omega arith)
    ∙ ap (λ (found : Option _). then_in found (turn read fits so_far (count - (i + 1)))) is

-- nor is there one with an item that doesn't fit
pub unfit_more : {X : Type 0} (read : Reading X) (fits : List X → X → Bool) (so_far : List X) (count i : ℕ) (bytes rest : List ℕ) (item : X) → i < count
    → read bytes ≡ Some (item, rest) → fits so_far item ≡ false → more_in read fits so_far (count - i) bytes ≡ None
unfit_more read fits so_far count i bytes rest item within is fit =
    left read fits so_far (count - (i + 1)) (count - i) bytes (omega arith)
    ∙ ap (λ (found : Option _). then_in found (turn read fits so_far (count - (i + 1)))) is
    ∙ ap (λ (fitting : Bool). if fitting then more_in read fits (so_far ++ item ∷ []) (count - (i + 1)) rest else None) fit
