-- Readings: what stands at the front of some bytes, and the bytes behind it.
use Rattle.std.specs.Prelude.{◌≡◌, ℕ, zero, suc, ◌<◌, ◌^◌, nat_le, ◌==◌, Bool, true, if◌then◌else◌, List, [], ◌∷◌, ◌++◌, length, take, drop, slice_index, Option, Some, None}
use Rattle.std.specs.Int.{Width, w8, w32, byte_len, from_le_bytes}

-- an item and the bytes behind it, where the front of the bytes has the item's form
abbrev pub Reading : Type 0 → Type 0
Reading X = List ℕ → Option (X × List ℕ)

-- ---- One behind the other

-- what is read next, by what was read before
abbrev pub then_in : {X Y : Type 0} → Option (X × List ℕ) → (X → Reading Y) → Option (Y × List ℕ)
then_in None next = None
then_in (Some found) next = next found.0 found.1

abbrev pub both_in : {X Y : Type 0} → Reading X → Reading Y → Reading (X × Y)
both_in first second bytes = then_in (first bytes) (λ x rest. then_in (second rest) (λ y behind. Some ((x, y), behind)))

-- what is made of an item
abbrev pub made_in : {X Y : Type 0} → (X → Y) → Reading X → Reading Y
made_in make read bytes = then_in (read bytes) (λ x rest. Some (make x, rest))

-- an item that passes a test
abbrev pub passing_in : {X : Type 0} → (X → Bool) → Reading X → Reading X
passing_in test read bytes = then_in (read bytes) (λ x rest. if test x then Some (x, rest) else None)

-- nothing has this form
abbrev pub no_item : {X : Type 0} → Reading X
no_item bytes = None

-- ---- Numbers, strings, options and lists

-- so many bytes
abbrev pub bytes_in : ℕ → Reading (List ℕ)
bytes_in count bytes = if nat_le count (length bytes) then Some (take count bytes, drop count bytes) else None

-- a number, its lowest byte first
abbrev pub number_in : Width → Reading ℕ
number_in w bytes = then_in (bytes_in (byte_len w) bytes) (λ digits rest. Some (from_le_bytes w digits, rest))

-- a string behind its length
abbrev pub string_in : Reading (List ℕ)
string_in bytes = then_in (number_in w32 bytes) bytes_in

abbrev pub pair_in : Reading (List ℕ × List ℕ)
pair_in = both_in string_in string_in

-- a number for the kind of what follows, by which it is read
abbrev pub kind_in : {X : Type 0} → (ℕ → Reading X) → Reading X
kind_in by bytes = then_in (number_in w8 bytes) by

-- what may be missing
abbrev pub optional_in : {X : Type 0} → Reading X → ℕ → Reading (Option X)
optional_in read kind = if kind == 0 then (λ rest. Some (None, rest)) else if kind == 1 then made_in Some read else no_item

abbrev pub option_in : {X : Type 0} → Reading X → Reading (Option X)
option_in read = kind_in (optional_in read)

-- so many more items, each of which fits those so far
abbrev pub more_in : {X : Type 0} → Reading X → (List X → X → Bool) → List X → ℕ → Reading (List X)
more_in read fits so_far zero bytes = Some (so_far, bytes)
more_in read fits so_far (suc count) bytes =
    then_in (read bytes) (λ item rest. if fits so_far item then more_in read fits (so_far ++ item ∷ []) count rest else None)

-- a list behind its count, each item of which fits those before it
abbrev pub fitting_in : {X : Type 0} → Reading X → (List X → X → Bool) → Reading (List X)
fitting_in read fits bytes = then_in (number_in w32 bytes) (more_in read fits [])

abbrev pub list_in : {X : Type 0} → Reading X → Reading (List X)
list_in read = fitting_in read (λ so_far item. true)

-- ---- Whole bytes

-- the item, where nothing stands behind it
abbrev pub alone : {X : Type 0} → Option (X × List ℕ) → Option X
alone None = None
alone (Some found) = if length found.1 == 0 then Some found.0 else None

-- each is a byte
abbrev pub AreBytes : List ℕ → Type 0
AreBytes bytes = (i : ℕ) → slice_index bytes i < 2 ^ 8

-- What a row owes: an item that was written is read again, whatever stands behind it, and what is read of bytes was written so.
pub record IsRow {X : Type 0} (Is : X → Type 0) (form : X → List ℕ) (read : Reading X) : Type 0 where
  pub again : (x : X) (rest : List ℕ) → Is x → read (form x ++ rest) ≡ Some (x, rest)
  pub written : (bytes : List ℕ) (x : X) (rest : List ℕ) → AreBytes bytes → read bytes ≡ Some (x, rest) → Is x × (bytes ≡ form x ++ rest)
