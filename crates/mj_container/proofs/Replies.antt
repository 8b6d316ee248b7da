-- What a reply says keeps the forms of attributes and of reasons.
use Rattle.std.proofs.Common.{◌≡◌, ◌∙◌, ℕ, ◌+◌, ◌<◌, ◌≤◌, Bool, true, false, List, [], ◌∷◌, ◌++◌, length, refl, sym, ap, subst, arith, length-append}
use Rattle.std.specs.Prelude.{nat_le, nat_lt, if◌then◌else◌, codes}
use Rattle.std.specs.Fmt.{decimal}
use Rattle.std.specs.List.{list_all}
use Rattle.std.specs.Str.Parse.{AllDigits}
use Rattle.std.proofs.lemmas.Bool.{and_parts}
use Rattle.std.proofs.lemmas.Bool.Decides.{nat_tests}
use Rattle.std.proofs.lemmas.Fmt.{decimal_is_IsNumeral, length-decimal-le}
use Rattle.std.proofs.lemmas.List.Folds.{list_all-append}
use Rattle.std.proofs.lemmas.Str.Parse.{digit_from_value}
use Rattle.mj_mail.specs.declared.attributes.TheConstants.{MAX_ATTRIBUTES}
use Rattle.mj_mail.specs.declared.reply.Class.{Class}
use Rattle.mj_mail.specs.declared.reply.Class.TheVariants.{Success, Transient, Permanent}
use Rattle.mj_mail.specs.declared.reply.Reply.{Reply}
use Rattle.mj_mail.specs.Attributes.{with_attribute}
use Rattle.mj_mail.specs.Reply.{behind_space, class_of, code_text, code_zeros, is_code, is_printable, is_reply, is_reply_text, reply_text}
use Rattle.mj_plan.specs.Forms.{has_length, is_attribute_name, is_attribute_value}
use Rattle.mj_container.specs.Settling.{permanence, with_reply, with_room}
use Rattle.mj_container.specs.Sound.{are_attributes, is_attribute}
use Rattle.mj_container.proofs.Changes.{put}
use Rattle.mj_container.proofs.Facts.{both_true, le_of, of_le}

-- ---- Codes

-- a code has three digits, so there is no zero in front of it
code_between : (code : ℕ) → is_code code ≡ true → (100 ≤ code) × (code < 600)
code_between code h = (grind (arith, nat_tests, h), grind (arith, nat_tests, h))

zeros_by : (code : ℕ) (b c : Bool) → b ≡ false → c ≡ false → (if b then codes "00" else if c then codes "0" else []) ≡ []
zeros_by code false false e f = refl
zeros_by code true c e f = cc
zeros_by code false true e f = cc

no_zeros : (code : ℕ) → 100 ≤ code → code_zeros code ≡ []
no_zeros code least = zeros_by code (nat_lt code 10) (nat_lt code 100) (grind (arith, nat_tests, least)) (grind (arith, nat_tests, least))

digit_printable : (c : ℕ) → 48 ≤ c → c ≤ 57 → is_printable c ≡ true
digit_printable c least most = both_true (nat_le 32 c) (nat_le c 126) (of_le 32 c (omega (arith, least))) (of_le c 126 (omega (arith, most)))

digits_printable : (cs : List ℕ) → AllDigits 10 cs → list_all is_printable cs ≡ true
digits_printable [] all = refl
digits_printable (c ∷ cs) all =
    let digit = digit_from_value c all.0 in both_true (is_printable c) (list_all is_printable cs) (digit_printable c digit.0 digit.1) (digits_printable cs all.1)

-- the digits of a code are three printable bytes at most
code_digits : (code : ℕ) → is_code code ≡ true → (length (code_text code) ≤ 3) × (list_all is_printable (code_text code) ≡ true)
code_digits code h =
    let bounds = code_between code h in
    let digits : code_text code ≡ decimal code = ap (λ zeros. zeros ++ decimal code) (no_zeros code bounds.0) in
    let few : length (decimal code) ≤ 3 = length-decimal-le 3 code (omega arith) (omega (arith, bounds.1)) (omega (arith, bounds.1)) in (
      subst (λ text. length text ≤ 3) (sym digits) few,
      ap (list_all is_printable) digits ∙ digits_printable (decimal code) (decimal_is_IsNumeral code (omega (arith, bounds.1))).0.1,
    )

-- ---- Texts

behind_len : (text : List ℕ) → length (behind_space text) ≤ length text + 1
behind_len [] = omega arith
behind_len (b ∷ text) = omega arith

behind_printable : (text : List ℕ) → list_all is_printable text ≡ true → list_all is_printable (behind_space text) ≡ true
behind_printable [] all = refl
behind_printable (b ∷ text) all = all

value_of : (text : List ℕ) → length text ≤ 4_096 → list_all is_printable text ≡ true → is_attribute_value text ≡ true
value_of text few printable =
    both_true (has_length 0 4_096 text) (list_all is_printable text)
    (both_true (nat_le 0 (length text)) (nat_le (length text) 4_096) (of_le 0 (length text) (omega arith)) (of_le (length text) 4_096 few)) printable

module _ (reply : Reply) (h : is_reply reply ≡ true) where
  abbrev text : List ℕ
  text = behind_space reply.text

  formed : (is_code reply.code ≡ true) × (is_reply_text reply.text ≡ true)
  formed = and_parts (is_code reply.code) (is_reply_text reply.text) h

  formed_text : (nat_le (length reply.text) 512 ≡ true) × (list_all is_printable reply.text ≡ true)
  formed_text = and_parts (nat_le (length reply.text) 512) (list_all is_printable reply.text) formed.1

  split : reply_text reply ≡ code_text reply.code ++ text
  split = refl

  -- a text of a reply has at most 512 bytes
  pub text_len : length reply.text ≤ 512
  text_len = le_of (length reply.text) 512 formed_text.0

  -- a reply is written in at most 516 bytes
  pub reply_len : length (reply_text reply) ≤ 516
  reply_len =
      let code = (code_digits reply.code formed.0).0 in
      subst (λ text. length text ≤ 516) (sym split) (omega (arith, code, text_len, behind_len reply.text, length-append (code_text reply.code) text))

  reply_printable : list_all is_printable (reply_text reply) ≡ true
  reply_printable =
      ap (list_all is_printable) split ∙ list_all-append is_printable (code_text reply.code) text
      ∙ both_true (list_all is_printable (code_text reply.code)) (list_all is_printable text) (code_digits reply.code formed.0).1
      (behind_printable reply.text formed_text.1)

  text_value : is_attribute_value (reply_text reply) ≡ true
  text_value = value_of (reply_text reply) (omega (arith, reply_len)) reply_printable

  code_value : is_attribute_value (code_text reply.code) ≡ true
  code_value = let code = code_digits reply.code formed.0 in value_of (code_text reply.code) (omega (arith, code.0)) code.1

-- ---- Attributes

permanence_value : (class : Class) → is_attribute_value (permanence class) ≡ true
permanence_value Success = refl
permanence_value Transient = refl
permanence_value Permanent = refl

room_by : (old new : List (List ℕ × List ℕ)) (b : Bool) → nat_le (length new) MAX_ATTRIBUTES ≡ b → are_attributes old ≡ true → list_all is_attribute new ≡ true
    → are_attributes (if b then new else old) ≡ true
room_by old new true e all new_formed = both_true (nat_le (length new) MAX_ATTRIBUTES) (list_all is_attribute new) e new_formed
room_by old new false e all new_formed = all

roomy : (name value : List ℕ) (attributes : List (List ℕ × List ℕ)) → is_attribute_name name ≡ true → is_attribute_value value ≡ true
    → are_attributes attributes ≡ true
    → are_attributes (with_room name value attributes) ≡ true
roomy name value attributes named valued all =
    let new = with_attribute name value attributes in
    room_by attributes new (nat_le (length new) MAX_ATTRIBUTES) refl all
    (put name value attributes (both_true (is_attribute_name name) (is_attribute_value value) named valued)
    (and_parts (nat_le (length attributes) MAX_ATTRIBUTES) (list_all is_attribute attributes) all).1)

-- attributes with what a reply says keep their forms and their number
pub replied_attributes : (reply : Reply) → is_reply reply ≡ true → (attributes : List (List ℕ × List ℕ)) → are_attributes attributes ≡ true
    → are_attributes (with_reply reply attributes) ≡ true
replied_attributes reply h attributes all =
    let one = roomy (codes "delivery-error") (reply_text reply) attributes refl (text_value reply h) all in
    let first = with_room (codes "delivery-error") (reply_text reply) attributes in
    let two = roomy (codes "delivery-error-code") (code_text reply.code) first refl (code_value reply h) one in
    roomy (codes "is-delivery-permanent-error") (permanence (class_of reply.code)) (with_room (codes "delivery-error-code") (code_text reply.code) first) refl
    (permanence_value (class_of reply.code)) two
