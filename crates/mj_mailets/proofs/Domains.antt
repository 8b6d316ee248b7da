-- The recipients at each domain.
use Rattle.std.proofs.Common.{◌≡◌, ℕ, List, [], ◌∷◌, map, sym, subst}
use Rattle.std.specs.List.{AllByRecursion}
use Rattle.mj_address.specs.Grammar.{Mailbox}
use Rattle.mj_address.specs.Same.{AreRecipients}
use Rattle.mj_groups.specs.Groups.{different, having}
use Rattle.mj_terms.specs.Text.{same_text}
use Rattle.mj_container.specs.Serving.{by_domain}
use Rattle.mj_container.proofs.Groups.{domain_recipients}

at_each : (recipients : List Mailbox) → AreRecipients recipients → (domains : List (List ℕ))
    → AllByRecursion (λ (group : List ℕ × List Mailbox). AreRecipients group.1) (map (λ domain. (domain, having same_text domain (map (λ r. (r.1, r)) recipients))) domains)
at_each recipients all [] = tt
at_each recipients all (domain ∷ domains) = (domain_recipients recipients all domain, at_each recipients all domains)

-- no two of a group are the same
pub groups_are_recipients : (recipients : List Mailbox) → AreRecipients recipients → (groups : List (List ℕ × List Mailbox)) → groups ≡ by_domain recipients
    → AllByRecursion (λ (group : List ℕ × List Mailbox). AreRecipients group.1) groups
groups_are_recipients recipients all groups e =
    subst (AllByRecursion (λ (group : List ℕ × List Mailbox). AreRecipients group.1)) (sym e) (at_each recipients all (different same_text (map (λ pair. pair.0) (map (λ r. (r.1, r)) recipients))))
