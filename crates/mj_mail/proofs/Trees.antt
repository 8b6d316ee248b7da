-- Where the measures of children fall, what is gathered from a mail is its own and then that of its children.
use Rattle.std.proofs.Common.{◌≡◌, ℕ, zero, suc, ◌<◌, Bool, true, false, List, [], ◌∷◌, ◌++◌, refl, ap, arith}
use Rattle.std.specs.Prelude.{if◌then◌else◌}
use Rattle.std.specs.List.{AllByRecursion, flat_map}
use Rattle.mj_mail.specs.declared.fact.Outcome.{Outcome}
use Rattle.mj_mail.specs.declared.mail.Mail.{Mail}
use Rattle.mj_mail.specs.declared.reply.Reply.{Reply}
use Rattle.mj_mail.specs.Meaning.{facts_of, gather, gather_within, tree}
use Rattle.mj_mail.specs.Outcome.{nothing}
use Rattle.mj_mail.specs.Rules.{Replying, replies_to, step_by}

-- each child of a step has a smaller measure
abbrev pub Falls : (Mail → ℕ) → (Mail → Outcome) → Type 0
Falls measure step = (mail : Mail) → AllByRecursion (λ child. measure child < measure mail) (step mail).children

module _ {X : Type 0} (own : Mail → List X) (measure : Mail → ℕ) (step : Mail → Outcome) where
  -- what two functions say of mails below a measure
  flat_same : (f g : Mail → List X) (most : ℕ) → ((mail : Mail) → measure mail < most → f mail ≡ g mail)
      → (mails : List Mail) → AllByRecursion (λ mail. measure mail < most) mails → flat_map f mails ≡ flat_map g mails
  flat_same f g most same [] below = refl
  flat_same f g most same (mail ∷ mails) below = (λ i. same mail below.0 i ++ flat_same f g most same mails below.1 i)

  -- more steps than the measure find no more
  enough : Falls measure step → (n k : ℕ) (mail : Mail) → measure mail < n → measure mail < k → gather_within own step n mail ≡ gather_within own step k mail
  enough falls zero k mail p q = absurd (omega arith)
  enough falls (suc n) zero mail p q = absurd (omega arith)
  enough falls (suc n) (suc k) mail p q =
      ap (λ rest. own mail ++ rest)
      (flat_same (gather_within own step n) (gather_within own step k) (measure mail)
      (λ child less. enough falls n k child (omega (arith, less, p)) (omega (arith, less, q))) (step mail).children (falls mail))

  pub gather_is : Falls measure step → (mail : Mail) → gather own measure step mail ≡ own mail ++ flat_map (gather own measure step) (step mail).children
  unfolding gather
  gather_is falls mail =
      ap (λ rest. own mail ++ rest)
      (flat_same (gather_within own step (measure mail)) (λ child. gather_within own step (suc (measure child)) child) (measure mail)
      (λ child less. enough falls (measure mail) (suc (measure child)) child less (omega arith)) (step mail).children (falls mail))

-- a tree is the facts of the mail's step, and then the trees of its children
pub tree_is : (measure : Mail → ℕ) (step : Mail → Outcome) → Falls measure step → (mail : Mail)
    → tree measure step mail ≡ facts_of step mail ++ flat_map (tree measure step) (step mail).children
tree_is measure step falls mail = gather_is (facts_of step) measure step falls mail

-- ---- By rules: a mail that isn't sound has no children

module _ {R : Type 0} (measure : Mail → ℕ) (is_sound : R → Mail → Bool) (reply_of : R → Replying) (outcome_of : R → Mail → List Reply → Outcome) (rules : R)
    (falls : (mail : Mail) → is_sound rules mail ≡ true → AllByRecursion (λ child. measure child < measure mail) (outcome_of rules mail (replies_to (reply_of rules) mail)).children) where
  falls_by : (mail : Mail) (b : Bool) → is_sound rules mail ≡ b
      → AllByRecursion (λ child. measure child < measure mail) (if b then outcome_of rules mail (replies_to (reply_of rules) mail) else nothing).children
  falls_by mail true sound = falls mail sound
  falls_by mail false sound = tt

  pub rules_fall : Falls measure (step_by is_sound reply_of outcome_of rules)
  rules_fall mail = falls_by mail (is_sound rules mail) refl

  pub step_is : (mail : Mail) → is_sound rules mail ≡ true → step_by is_sound reply_of outcome_of rules mail ≡ outcome_of rules mail (replies_to (reply_of rules) mail)
  step_is mail sound = ap (λ b. if b then outcome_of rules mail (replies_to (reply_of rules) mail) else nothing) sound
