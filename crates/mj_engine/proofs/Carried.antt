-- The work list of a mail, beside the tree of what becomes of it.
use Rattle.std.proofs.Common.{◌≡◌, ◌∙◌, ℕ, suc, ◌+◌, ◌<◌, Bool, true, List, [], ◌∷◌, ◌++◌, length, refl, sym, ap, arith, append_assoc, length-append}
use Rattle.std.specs.Prelude.{◌&&◌}
use Rattle.std.specs.List.{flat_map, list_all}
use Rattle.std.proofs.lemmas.List.{reverse-append, reverse-reverse}
use Rattle.std.proofs.lemmas.List.Folds.{list_all-append}
use Rattle.std.proofs.lemmas.Grind.{flat_map-append, reverse_onto}
use Rattle.std.proofs.lemmas.Bool.{and_parts}
use mathlib.Core.List.{reverse}
use Rattle.mj_mail.specs.declared.fact.Outcome.{Outcome}
use Rattle.mj_mail.specs.declared.mail.Mail.{Mail}
use Rattle.mj_mail.specs.Meaning.{Placed, facts_of, gather, tree}
use Rattle.mj_mail.proofs.Trees.{Falls, gather_is, tree_is}
use Rattle.mj_report.specs.Facts.{fact_line}

-- ---- Lists

-- the sum of what each counts for
abbrev pub total : {X : Type 0} → (X → ℕ) → List X → ℕ
total f [] = 0
total f (x ∷ xs) = f x + total f xs

total-append : {X : Type 0} (f : X → ℕ) (xs ys : List X) → total f (xs ++ ys) ≡ total f xs + total f ys
total-append f [] ys = omega arith
total-append f (x ∷ xs) ys = let rest = total-append f xs ys in omega (arith, rest)

total-reverse : {X : Type 0} (f : X → ℕ) (xs : List X) → total f (reverse xs) ≡ total f xs
total-reverse f [] = refl
total-reverse f (x ∷ xs) =
    let turned : total f (reverse (x ∷ xs)) ≡ total f (reverse xs) + (f x + 0) = ap (total f) (reverse_onto xs x []) ∙ total-append f (reverse xs) (x ∷ []) in
    omega (arith, turned, total-reverse f xs)

all_reversed : {X : Type 0} (p : X → Bool) (xs : List X) → list_all p xs ≡ true → list_all p (reverse xs) ≡ true
all_reversed p [] h = refl
all_reversed p (x ∷ xs) h =
    let parts = and_parts (p x) (list_all p xs) h in
    ap (list_all p) (reverse_onto xs x []) ∙ list_all-append p (reverse xs) (x ∷ []) ∙ rw (all_reversed p xs parts.1, parts.0)

gathered : {X Y : Type 0} (f : X → List Y) (xs : List X) → length (flat_map f xs) ≡ total (λ x. length (f x)) xs
gathered f [] = refl
gathered f (x ∷ xs) = omega (arith, length-append (f x) (flat_map f xs), gathered f xs)

-- ---- The mails that wait: the last one is next

module _ (measure : Mail → ℕ) (step : Mail → Outcome) where
  -- a mail and all that it becomes
  abbrev pub family : Mail → List Mail
  family mail = gather (λ m. m ∷ []) measure step mail

  -- how many steps they take
  abbrev pub weight : Mail → ℕ
  weight mail = length (family mail)

  -- the lines of all that becomes of the mails that wait, and how many steps they take together
  abbrev pub waiting_lines : List Mail → List ℕ
  waiting_lines waiting = flat_map fact_line (flat_map (tree measure step) (reverse waiting))

  abbrev pub waiting_weight : List Mail → ℕ
  waiting_weight waiting = total weight waiting

  weight_next : Falls measure step → (mail : Mail) → weight mail ≡ suc (total weight (step mail).children)
  weight_next falls mail =
      ap length (gather_is (λ m. m ∷ []) measure step falls mail)
      ∙ ap suc (gathered family (step mail).children)

-- the last of the mails that wait is sound, where all are
pub last_sound : (is_sound : Mail → Bool) (waiting rest : List Mail) (mail : Mail) → list_all is_sound waiting ≡ true → waiting ≡ rest ++ mail ∷ []
    → (list_all is_sound rest ≡ true) × (is_sound mail ≡ true)
last_sound is_sound waiting rest mail all popped =
    let parts = and_parts (list_all is_sound rest) (is_sound mail && true) (sym (list_all-append is_sound rest (mail ∷ [])) ∙ ap (list_all is_sound) (sym popped) ∙ all) in
    (parts.0, (and_parts (is_sound mail) true parts.1).0)

-- one turn: the last mail takes a step, and its children wait, the first of them last
pub record Turn (measure : Mail → ℕ) (step : Mail → Outcome) (is_sound : Mail → Bool) (all out : List ℕ) (old new : List Mail) : Type 0 where
  pub sound : list_all is_sound new ≡ true
  pub lighter : waiting_weight measure step new < waiting_weight measure step old
  pub lines : out ++ waiting_lines measure step new ≡ all

module _ (measure : Mail → ℕ) (step : Mail → Outcome) (is_sound : Mail → Bool) (falls : Falls measure step) (rest : List Mail) (mail : Mail) where
  abbrev pub children : List Mail
  children = (step mail).children

  abbrev pub facts : List Placed
  facts = facts_of step mail

  waiting_next : waiting_lines measure step (rest ++ mail ∷ []) ≡ flat_map fact_line facts ++ waiting_lines measure step (rest ++ reverse children)
  waiting_next =
      let T = tree measure step in
      let old : reverse (rest ++ mail ∷ []) ≡ mail ∷ reverse rest = reverse-append rest (mail ∷ []) in
      let new : reverse (rest ++ reverse children) ≡ children ++ reverse rest = reverse-append rest (reverse children) ∙ ap (λ c. c ++ reverse rest) (reverse-reverse children) in
      ap (λ w. flat_map fact_line (flat_map T w)) old
      ∙ ap (λ t. flat_map fact_line (t ++ flat_map T (reverse rest))) (tree_is measure step falls mail)
      ∙ ap (flat_map fact_line) (append_assoc facts (flat_map T children) (flat_map T (reverse rest)))
      ∙ flat_map-append fact_line facts (flat_map T children ++ flat_map T (reverse rest))
      ∙ ap (λ w. flat_map fact_line facts ++ flat_map fact_line w) (sym (flat_map-append T children (reverse rest)))
      ∙ ap (λ w. flat_map fact_line facts ++ flat_map fact_line (flat_map T w)) (sym new)

  pub turn : (all before out : List ℕ) (old new : List Mail) → list_all is_sound rest ≡ true → list_all is_sound children ≡ true
      → before ++ waiting_lines measure step old ≡ all → old ≡ rest ++ mail ∷ [] → out ≡ before ++ flat_map fact_line facts → new ≡ rest ++ reverse children
      → Turn measure step is_sound all out old new
  turn all before out old new sound young so_far popped put pushed =
      let light = weight measure step in
      let here : total light old ≡ total light rest + (light mail + 0) = ap (total light) popped ∙ total-append light rest (mail ∷ []) in
      let there : total light new ≡ total light rest + total light children =
      ap (total light) pushed ∙ total-append light rest (reverse children) ∙ ap (λ n. total light rest + n) (total-reverse light children) in
      record {
        sound = ap (list_all is_sound) pushed ∙ list_all-append is_sound rest (reverse children) ∙ rw (sound, all_reversed is_sound children young);
        lighter = omega (arith, here, there, weight_next measure step falls mail);
        lines = rw (put) (append_assoc before (flat_map fact_line facts) (waiting_lines measure step new)
            ∙ ap (λ w. before ++ (flat_map fact_line facts ++ waiting_lines measure step w)) pushed
            ∙ ap (λ l. before ++ l) (sym waiting_next)
            ∙ ap (λ w. before ++ waiting_lines measure step w) (sym popped)
            ∙ so_far);
      }
