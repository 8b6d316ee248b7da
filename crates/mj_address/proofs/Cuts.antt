-- A text and its last `@`.
use Rattle.std.proofs.Common.{◌≡◌, ◌≢◌, ℕ, suc, ◌+◌, ◌-◌, ◌<◌, Bool, true, false, not, ◌||◌, List, [], ◌∷◌, ◌++◌, length, get_or, take, drop, refl, sym, ap, ◌∙◌, arith, eq-eqb, ne_eqb, eqb-true}
use Rattle.std.proofs.Math.Seq.{take-append_seam, drop-append-add, get_or-append_seam, get_or-append_right}
use Rattle.std.proofs.lemmas.List.{length-append, length-drop, take_all, drop_more, take-append-drop}
use Rattle.std.proofs.lemmas.List.Sums.{suffix_len_is}
use Rattle.std.proofs.lemmas.List.Folds.{list_any_at}
use Rattle.std.specs.List.{list_any, before_last, after_last, suffix_len}
use Rattle.mj_address.specs.Reading.{is_at}

-- where no place has an `@`, there is none
pub none_by_place : (text : List ℕ) → ((k : ℕ) → k < length text → get_or text k 0 ≢ 64) → list_any is_at text ≡ false
none_by_place [] h = refl
none_by_place (b ∷ text) h = rw (ne_eqb b 64 (h 0 (omega arith))) (none_by_place text (λ k within. h (suc k) (omega arith)))

-- where there is none, no place has an `@`
pub no_place : (text : List ℕ) → list_any is_at text ≡ false → (k : ℕ) → k < length text → get_or text k 0 ≢ 64
no_place text none k within here =
    let found : list_any is_at text ≡ true = list_any_at is_at text k 0 within (eq-eqb (get_or text k 0) 64 here) in
    cc

module _ (text : List ℕ) (k : ℕ) (within : k < length text) (here : get_or text k 0 ≡ 64)
    (last : (j : ℕ) → k < j → j < length text → get_or text j 0 ≢ 64) where
  -- as many bytes stand behind the last `@`
  suffix_at : suffix_len (λ b. not (is_at b)) text ≡ length text - (k + 1)
  suffix_at =
      suffix_len_is (λ b. not (is_at b)) text (k + 1) 0 (omega arith)
      (λ j above below. ap not (ne_eqb (get_or text j 0) 64 (last j (omega arith) below)))
      (λ _. let same : k + 1 - 1 ≡ k = omega arith in rw same (ap not (eq-eqb (get_or text k 0) 64 here)))

  pub before_at : before_last is_at text ≡ take k text
  before_at =
      let place : length text - suffix_len (λ b. not (is_at b)) text - 1 ≡ k = omega (arith, suffix_at) in
      ap (λ n. take n text) place

  pub after_at : after_last is_at text ≡ drop (k + 1) text
  after_at =
      let place : length text - suffix_len (λ b. not (is_at b)) text ≡ k + 1 = omega (arith, suffix_at) in
      ap (λ n. drop n text) place

module _ (local domain : List ℕ) (none : list_any is_at domain ≡ false) where
  whole : List ℕ
  whole = local ++ 64 ∷ domain

  long : length (local ++ 64 ∷ domain) ≡ length local + 1 + length domain
  long = grind (arith, length-append)

  behind : (j : ℕ) → length local < j → j < length (local ++ 64 ∷ domain) → get_or (local ++ 64 ∷ domain) j 0 ≢ 64
  behind j above below here =
      let place : j - length local ≡ suc (j - length local - 1) = omega arith in
      no_place domain none (j - length local - 1) (omega (arith, long))
      (sym (get_or-append_right local (64 ∷ domain) j 0 (omega arith) ∙ ap (λ n. get_or (64 ∷ domain) n 0) place) ∙ here)

  -- a local part and a domain are found again round the `@` between them
  pub before_between : before_last is_at (local ++ 64 ∷ domain) ≡ local
  before_between =
      before_at (local ++ 64 ∷ domain) (length local) (omega (arith, long)) (get_or-append_seam local 64 domain 0) behind
      ∙ take-append_seam local (64 ∷ domain)

  pub after_between : after_last is_at (local ++ 64 ∷ domain) ≡ domain
  after_between =
      after_at (local ++ 64 ∷ domain) (length local) (omega (arith, long)) (get_or-append_seam local 64 domain 0) behind
      ∙ drop-append-add local (64 ∷ domain) 1

-- the last bytes from a place on, cut out by their number
pub to_end : (text : List ℕ) (n : ℕ) → take (length text - n) (drop n text) ≡ drop n text
to_end text n = take_all (length text - n) (drop n text) (omega (arith, length-drop n text))

-- the parts round an `@` are the whole text
pub whole_at : (text : List ℕ) (k : ℕ) → k < length text → get_or text k 0 ≡ 64 → text ≡ take k text ++ 64 ∷ take (length text - (k + 1)) (drop (k + 1) text)
whole_at text k within here =
    let behind : drop k text ≡ 64 ∷ drop (k + 1) text = drop_more text k 0 within ∙ ap (λ b. b ∷ drop (k + 1) text) here in
    sym (take-append-drop k text) ∙ (λ i. take k text ++ (behind ∙ ap (λ rest. 64 ∷ rest) (sym (to_end text (k + 1)))) i)

-- the parts round the last `@`
pub record Cut (text : List ℕ) : Type 0 where
  pub local : List ℕ
  pub domain : List ℕ
  pub whole : text ≡ local ++ 64 ∷ domain
  pub none : list_any is_at domain ≡ false

alone : (test : Bool) → test || false ≡ true → test ≡ true
alone true h = refl
alone false h = h

-- a text with an `@` has such parts
pub cut : (text : List ℕ) → list_any is_at text ≡ true → Cut text
cut [] found = cc
cut (b ∷ text) found = by (list_any is_at text) refl (λ later. cut text later)
  where
    by : (later : Bool) → list_any is_at text ≡ later → (list_any is_at text ≡ true → Cut text) → Cut (b ∷ text)
    by true e later =
        let rest = later e in
        record { local = b ∷ rest.local; domain = rest.domain; whole = ap (λ t. b ∷ t) rest.whole; none = rest.none }
    by false e later =
        let here = alone (is_at b) (rw e at found) in
        record { local = []; domain = text; whole = ap (λ c. c ∷ text) (eqb-true b 64 here); none = e }

-- the parts that the words name are the whole text
pub whole_by_parts : (text : List ℕ) → list_any is_at text ≡ true → text ≡ before_last is_at text ++ 64 ∷ after_last is_at text
whole_by_parts text found =
    let parts = cut text found in
    let before : before_last is_at text ≡ parts.local = ap (before_last is_at) parts.whole ∙ before_between parts.local parts.domain parts.none in
    let after : after_last is_at text ≡ parts.domain = ap (after_last is_at) parts.whole ∙ after_between parts.local parts.domain parts.none in
    parts.whole ∙ sym (λ i. before i ++ 64 ∷ after i)
