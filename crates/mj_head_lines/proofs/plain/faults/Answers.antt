use Rattle.std.proofs.Common.{◌≡◌, ℕ, ◌-◌, ◌%◌, ◌*◌, ◌^◌, ◌<◌, Bool, true, false, not, ◌&&◌, ◌||◌, refl, sym, ap₂, ◌∙◌, arith, bit_and, bit_or}
use Rattle.std.proofs.lemmas.Bool.{or_parts, not-false}
use Rattle.mj_head_lines.specs.Plain.{has_bit}
use Rattle.mj_head_lines.proofs.Bits.{bit-and, bit-or, bit-not, bit-up}
use Rattle.mj_head_lines.proofs.plain.faults.Goals as goal

-- a bit of a mask is one of the other too where `mask & !other` has none
in_other : (a b k : ℕ) → b < 2 ^ 64 → k < 64 → has_bit (bit_and a (2 ^ 64 - 1 - b)) k ≡ false → has_bit a k ≡ true → has_bit b k ≡ true
in_other a b k small h none set = not-false (has_bit b k) (sym (bit-and a _ k ∙ ap₂ (λ x y. x && y) set (bit-not b k small h)) ∙ none)

-- the same of two others
in_either : (a b c k : ℕ) → b < 2 ^ 64 → c < 2 ^ 64 → k < 64 → has_bit (bit_and (bit_and a (2 ^ 64 - 1 - b)) (2 ^ 64 - 1 - c)) k ≡ false → has_bit a k ≡ true → (has_bit c k || has_bit b k) ≡ true
in_either a b c k small-b small-c h none set =
    either (has_bit b k) (has_bit c k) (sym (bit-and _ _ k ∙ ap₂ (λ x y. x && y) (bit-and a _ k ∙ ap₂ (λ x y. x && y) set (bit-not b k small-b h)) (bit-not c k small-c h)) ∙ none)
  where
    either : (x y : Bool) → (not x && not y) ≡ false → (y || x) ≡ true
    either x true e = refl
    either true false e = refl
    either false false e = sym e

-- where a mask of three has no bit, none of the three has one
none_of_three : (a b c k : ℕ) → has_bit (bit_or (bit_or a b) c) k ≡ false → (has_bit a k ≡ false) × (has_bit b k ≡ false) × (has_bit c k ≡ false)
none_of_three a b c k e =
    let parts = or_parts _ _ (sym (bit-or (bit_or a b) c k) ∙ e) in
    let first = or_parts _ _ (sym (bit-or a b k) ∙ parts.0) in
    (first.0, first.1, parts.1)

pub returns : goal.returns
returns c =
    let m = c.args.masks in
    let name-fits : m.name < 2 ^ 64 = omega arith in
    let blank-fits : m.blank < 2 ^ 64 = omega arith in
    let colon-fits : m.colon < 2 ^ 64 = omega arith in
    let up : ℕ = m.cr * 2 ^ 1 % 2 ^ 64 in
    let up-fits : up < 2 ^ 64 = omega arith in
    let bare : ℕ = bit_and m.lf (2 ^ 64 - 1 - up) in
    let nameless : ℕ = bit_and (bit_and c.starts-starts.result (2 ^ 64 - 1 - m.name)) (2 ^ 64 - 1 - m.blank) in
    let unended : ℕ = bit_and c.behind_runs.result (2 ^ 64 - 1 - m.colon) in
    record {
      ended = λ k h e set. sym (bit-up m.cr k h) ∙ in_other m.lf up k up-fits h (none_of_three bare nameless unended k e).0 set;
      begun = λ k h e at.
          in_either c.starts-starts.result m.name m.blank k name-fits blank-fits h (none_of_three bare nameless unended k e).1 (c.starts-starts.ensures k h ∙ at);
      named = λ start k l h e at run over.
          in_other c.behind_runs.result m.colon k colon-fits h (none_of_three bare nameless unended k e).2
          (c.behind_runs.ensures start k l h (c.starts-starts.ensures start (omega arith) ∙ at) run over);
    }
