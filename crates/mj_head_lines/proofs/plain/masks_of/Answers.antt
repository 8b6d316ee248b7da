-- A load from the front has the first 64 bytes of the text.
use Rattle.std.proofs.Common.{◌≡◌, ℕ, Bool, ◌+◌, eqb, List, get_or, ap, ◌∙◌, arith}
use Rattle.std.proofs.lemmas.Simd.{get_or-chunk}
use lib.Lanes.{chunk}
use Rattle.mj_terms.specs.Text.{is_blank}
use Rattle.mj_head_lines.specs.Lines.{is_name_byte}
use Rattle.mj_head_lines.specs.Plain.{Marks}
use Rattle.mj_head_lines.proofs.plain.masks_of.Goals as goal

of_text : (test : ℕ → Bool) (text : List ℕ) (mask : ℕ) → Marks test (chunk 0 64 text) mask → Marks test text mask
of_text test text mask h = record { each = λ k l. let front : 0 + k ≡ k = omega arith in h.each k l ∙ ap test (get_or-chunk 0 64 text k 0 l ∙ ap (λ i. get_or text i 0) front) }

pub returns : goal.returns
returns c =
    let text = c.args.text.now in
    record {
      lf = of_text (λ b. eqb b 10) text _ c.marks_of.ensures;
      cr = of_text (λ b. eqb b 13) text _ c.marks_of-2.ensures;
      colon = of_text (λ b. eqb b 58) text _ c.marks_of-3.ensures;
      blank = of_text is_blank text _ c.marks_of_blanks.ensures;
      name = of_text is_name_byte text _ c.marks_of_name_bytes.ensures;
    }
