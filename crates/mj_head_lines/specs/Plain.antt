-- Lines that stand in the written form of a head as they are.
use Rattle.std.specs.Prelude.{◌≡◌, ◌≢◌, ◌⊎◌, ℕ, zero, suc, ◌+◌, ◌-◌, ◌<◌, ◌≤◌, ◌==◌, Bool, true, false, not, ◌&&◌, ◌||◌, List, [], ◌∷◌, ◌++◌, take, length, slice_index}
use Rattle.std.specs.Int.{bit_at}
use Rattle.std.specs.List.{list_all, list_any, flat_map}
use Rattle.mj_terms.specs.Text.{is_blank}
use Rattle.mj_head_lines.specs.declared.plain.Masks.{Masks}
use Rattle.mj_head_lines.specs.Lines.{before_colon, is_field_name, is_continuation, is_name_byte}

-- a plain line has no LF, and it continues the field before it or has a name right before its first colon
abbrev pub is_plain : List ℕ → Bool
is_plain line = list_all (λ b. not (b == 10)) line && (is_continuation line || (is_field_name (before_colon line) && list_any (λ b. b == 58) line))

-- lines one after another, each with CRLF at its end
abbrev pub with_ends : List (List ℕ) → List ℕ
with_ends lines = flat_map (λ line. line ++ 13 ∷ 10 ∷ []) lines

-- so many bytes at the front of a text are so many plain lines
pub record ArePlain (text : List ℕ) (len count : ℕ) : Type 0 where
  pub lines : List (List ℕ)
  pub front : take len text ≡ with_ends lines
  pub plain : list_all is_plain lines ≡ true
  pub number : length lines ≡ count

-- ---- Masks: bit k stands for byte k of a block of 64 bytes

-- bit k is set
unfoldable pub has_bit : ℕ → ℕ → Bool
has_bit mask k = bit_at mask k == 1

-- a bit up to this one is set
abbrev pub any_to : ℕ → ℕ → Bool
any_to mask zero = has_bit mask zero
any_to mask (suc k) = has_bit mask (suc k) || any_to mask k

-- the bit before this one is set
abbrev pub has_bit_before : ℕ → ℕ → Bool
has_bit_before mask zero = false
has_bit_before mask (suc k) = has_bit mask k

-- a line begins at this bit: at the front, or behind a bit of these ends
abbrev pub begins_line : ℕ → ℕ → Bool
begins_line ends zero = true
begins_line ends (suc k) = has_bit ends k

-- the mask has the bytes that pass a test
pub record Marks (test : ℕ → Bool) (block : List ℕ) (mask : ℕ) : Type 0 where
  pub each : (k : ℕ) → k < 64 → has_bit mask k ≡ test (slice_index block k)

-- the masks of the first 64 bytes of a text
pub record AreMasks (text : List ℕ) (masks : Masks) : Type 0 where
  pub lf : Marks (λ b. b == 10) text masks.lf
  pub cr : Marks (λ b. b == 13) text masks.cr
  pub colon : Marks (λ b. b == 58) text masks.colon
  pub blank : Marks is_blank text masks.blank
  pub name : Marks is_name_byte text masks.name

-- what holds at a bit that a mask of faults lacks
pub record ShowsFaults (masks : Masks) (faults : ℕ) : Type 0 where
  -- a CR stands before an LF
  pub ended : (k : ℕ) → k < 64 → has_bit faults k ≡ false → has_bit masks.lf k ≡ true → has_bit_before masks.cr k ≡ true
  -- a line begins with a blank or a byte of a name
  pub begun : (k : ℕ) → k < 64 → has_bit faults k ≡ false → begins_line masks.lf k ≡ true → (has_bit masks.blank k || has_bit masks.name k) ≡ true
  -- a colon stands behind the bytes of a name that a line begins with
  pub named : (start k : ℕ) → start < k → k < 64 → has_bit faults k ≡ false → begins_line masks.lf start ≡ true → ((j : ℕ) → start ≤ j → j < k → has_bit masks.name j ≡ true) → has_bit masks.name k ≡ false → has_bit masks.colon k ≡ true

-- ---- Lines of a block

-- a line of a text goes from one place to the LF at another
pub record IsLineAt (text : List ℕ) (start end : ℕ) : Type 0 where
  pub ordered : start ≤ end
  pub begun : (start ≡ 0) ⊎ (slice_index text (start - 1) ≡ 10)
  pub ended : slice_index text end ≡ 10
  pub whole : (k : ℕ) → start ≤ k → k < end → slice_index text k ≢ 10

-- and it is plain, with CRLF at its end
pub record IsPlainAt (text : List ℕ) (start end : ℕ) : Type 0 where
  pub line : List ℕ
  pub split : take (end + 1) text ≡ take start text ++ (line ++ 13 ∷ 10 ∷ [])
  pub plain : is_plain line ≡ true

-- the mask has the LFs of the first lines of a block, and each of these is plain
pub record ArePlainEnds (text : List ℕ) (ends : ℕ) : Type 0 where
  pub only : (k : ℕ) → k < 64 → has_bit ends k ≡ true → slice_index text k ≡ 10
  pub all : (j k : ℕ) → j < k → k < 64 → has_bit ends k ≡ true → slice_index text j ≡ 10 → has_bit ends j ≡ true
  pub plain : (start end : ℕ) → end < 64 → has_bit ends end ≡ true → IsLineAt text start end → IsPlainAt text start end
