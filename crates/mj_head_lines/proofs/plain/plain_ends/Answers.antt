-- From the bits of the masks to the bytes of the text.
use Rattle.std.proofs.Common.{◌≡◌, ◌⊎◌, ℕ, zero, suc, ◌-◌, ◌<◌, ◌≤◌, true, false, ◌||◌, List, length, get_or, inl, inr, refl, sym, ap, ap₂, ◌∙◌, arith}
use Rattle.std.proofs.lemmas.Bool.{and_from, and_parts, not-true, not_from_false, eqb-true, eq-eqb, false≢true}
use Rattle.mj_head_lines.specs.declared.plain.Masks.{Masks}
use Rattle.mj_head_lines.specs.Plain.{has_bit, any_to, has_bit_before, begins_line, AreMasks, ShowsFaults, IsLineAt, IsPlainAt}
use Rattle.mj_head_lines.proofs.Bits.{any_less, any_here}
use Rattle.mj_head_lines.proofs.PlainLines.{plain_at}
use Rattle.mj_head_lines.proofs.plain.plain_ends.Goals as goal

-- where the mask of CR has the bit before, the byte before is CR
behind_is : (text : List ℕ) (m : Masks) (k : ℕ) → AreMasks text m → k < 64 → has_bit_before m.cr k ≡ true → (0 < k) × (get_or text (k - 1) 0 ≡ 13)
behind_is text m zero are l h = absurd (false≢true h)
behind_is text m (suc k) are l h =
    let back : suc k - 1 ≡ k = omega arith in
    (omega arith, ap (λ i. get_or text i 0) back ∙ eqb-true _ 13 (sym (are.cr.each k (omega arith)) ∙ h))

-- a line of the text begins at the bit of its first byte
begins_is : (text : List ℕ) (m : Masks) (start : ℕ) → AreMasks text m → start < 64 → (start ≡ 0) ⊎ (get_or text (start - 1) 0 ≡ 10) → begins_line m.lf start ≡ true
begins_is text m zero are l h = refl
begins_is text m (suc k) are l (inl e) = absurd (omega arith)
begins_is text m (suc k) are l (inr h) =
    let back : k ≡ suc k - 1 = omega arith in
    are.lf.each k (omega arith) ∙ eq-eqb _ 10 (ap (λ i. get_or text i 0) back ∙ h)

-- a line of the text up to whose LF no fault is told is plain
plain_line : (text : List ℕ) (m : Masks) (faults start end : ℕ) → 64 ≤ length text → AreMasks text m → ShowsFaults m faults → end < 64 → any_to faults end ≡ false → IsLineAt text start end → IsPlainAt text start end
plain_line text m faults start end long are shows l none at =
    let none-at = λ (k : ℕ) (le : k ≤ end). any_here faults k (any_less faults k end le none) in
    let lf : has_bit m.lf end ≡ true = are.lf.each end l ∙ eq-eqb _ 10 at.ended in
    let cr = behind_is text m end are l (shows.ended end l (none-at end (omega arith)) lf) in
    let start-l : start < 64 = omega (arith, at.ordered) in
    let begun : begins_line m.lf start ≡ true = begins_is text m start are start-l at.begun in
    let colon-at = λ (k : ℕ) (low : k < 64) (set : has_bit m.colon k ≡ true). eqb-true (get_or text k 0) 58 (sym (are.colon.each k low) ∙ set) in
    plain_at text start end (omega arith) at cr.0 cr.1
    (sym (ap₂ (λ a b. a || b) (are.blank.each start start-l) (are.name.each start start-l)) ∙ shows.begun start start-l (none-at start at.ordered) begun)
    (λ k low high all other. colon-at k (omega arith) (shows.named start k low (omega arith) (none-at k (omega arith)) begun (λ j from to. are.name.each j (omega arith) ∙ all j from to) (are.name.each k (omega arith) ∙ other)))

pub returns : goal.returns
returns c =
    let text = c.args.text.now in
    let m = c.masks_of-masks.result in
    let faults = c.faults.result in
    let are = c.masks_of-masks.ensures in
    let parts = λ (k : ℕ) (l : k < 64) (set : has_bit c.bits_before.result k ≡ true). and_parts (has_bit m.lf k) _ (sym (c.bits_before.ensures k l) ∙ set) in
    record {
      only = λ k l set. eqb-true _ 10 (sym (are.lf.each k l) ∙ (parts k l set).0);
      all = λ j k before l set lf.
          c.bits_before.ensures j (omega arith)
          ∙ and_from _ _ (are.lf.each j (omega arith) ∙ eq-eqb _ 10 lf) (not_from_false _ (any_less faults j k (omega arith) (not-true _ (parts k l set).1)));
      plain = λ start end l set at. plain_line text m faults start end c.requires are c.faults.ensures l (not-true _ (parts end l set).1) at;
    }
