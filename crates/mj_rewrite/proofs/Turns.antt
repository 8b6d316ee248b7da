-- What follows a call that gives addresses or a fault.
use Rattle.std.proofs.Common.{◌≡◌, ℕ, ◌+◌, ◌<◌, List, [], ◌∷◌, length, get_or, Option, Some, None, Result, Ok, Err, refl, sym, ap, subst, ◌∙◌, arith, drop}
use Rattle.std.proofs.lemmas.List.{drop_more}
use Rattle.mj_terms.specs.Answers.{◌>>=◌, IsFault}
use Rattle.mj_address.specs.Grammar.{Mailbox}
use Rattle.mj_address.specs.Same.{distinct}
use Rattle.mj_container.specs.Expansion.{Expanded, expansion, rewritten_behind, told}
use Rattle.mj_container.specs.declared.rewrite_fault.RewriteFault.{RewriteFault}
use Rattle.mj_plan.specs.declared.plan.Mapping.{Mapping}
use Rattle.mj_rewrite.specs.Found.{with_rewritten}

-- one address alone is distinct
pub distinct_few : (addresses : List Mailbox) → length addresses < 2 → addresses ≡ distinct addresses
distinct_few [] few = refl
distinct_few (address ∷ []) few = refl
distinct_few (address ∷ other ∷ more) few = absurd (omega arith)

-- a fault ends what would follow
pub ends : {A B E : Type 0} (told : Option E) (said : Result A E) (next : A → Result B E) → IsFault told said → IsFault told (said >>= next)
ends None said next fault = tt
ends (Some e) said next fault = ap (λ s. s >>= next) fault

-- of three readings in a row the first two are one
in_row : {A B C E : Type 0} (said : Result A E) (next : A → Result B E) (last : B → Result C E) → (said >>= λ x. next x >>= last) ≡ ((said >>= next) >>= last)
in_row (Ok x) next last = refl
in_row (Err fault) next last = refl

module _ (mappings : List Mapping) (found : List Mailbox) (all : List Mailbox) (i : ℕ) (recipient : Mailbox) (lt : i < length all) (is : recipient ≡ get_or all i recipient) where
  turn : rewritten_behind mappings found (drop i all) ≡ (with_rewritten mappings recipient found >>= λ so_far. rewritten_behind mappings so_far (drop (i + 1) all))
  turn =
      ap (rewritten_behind mappings found) (drop_more all i recipient lt)
      ∙ ap (λ r. rewritten_behind mappings found (r ∷ drop (i + 1) all)) (sym is)
      ∙ in_row (expansion mappings recipient) _ (λ so_far. rewritten_behind mappings so_far (drop (i + 1) all))

  -- the first fault of a recipient is that of all
  pub stays : (fault : RewriteFault) (said : Expanded) → rewritten_behind mappings found (drop i all) ≡ said
      → IsFault (told fault) (with_rewritten mappings recipient found) → IsFault (told fault) said
  stays fault said rest here = subst (IsFault (told fault)) (sym turn ∙ rest) (ends (told fault) (with_rewritten mappings recipient found) _ here)

  -- and else the others follow
  pub goes_on : (so_far : List Mailbox) (said : Expanded) → rewritten_behind mappings found (drop i all) ≡ said
      → with_rewritten mappings recipient found ≡ Ok so_far → rewritten_behind mappings so_far (drop (i + 1) all) ≡ said
  goes_on so_far said rest here = sym (ap (λ e. e >>= λ s. rewritten_behind mappings s (drop (i + 1) all)) here) ∙ sym turn ∙ rest
