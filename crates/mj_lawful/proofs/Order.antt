-- A tree is in the order of places, and so are the trees of first mails one after the other. It takes nothing but the
-- names of the children, and holds within so many steps down.
use Rattle.std.proofs.Common.{◌≡◌, ℕ, zero, suc, ◌+◌, ◌<◌, ◌≤◌, List, [], ◌∷◌, ◌++◌, map, refl, sym, ap, ◌∙◌, subst, arith, append_assoc, append-nil, Less, Equal, Ordering, nat_cmp}
use Rattle.std.specs.List.{enumerate_from, flat_map, AllByRecursion}
use Rattle.std.specs.Ordering.{ordering_then}
use Rattle.std.specs.Cmp.{IsTotalOrder}
use Rattle.std.specs.Cmp.Lexicographic.{slice_cmp}
use Rattle.std.proofs.lemmas.Cmp.{tied_itself, nat_cmp_total, nat_list_cmp_total, on_total, then_total}
use Rattle.std.proofs.lemmas.Bool.Decides.{nat_tests}
use Rattle.mj_mail.specs.declared.fact.Fact.{Fact}
use Rattle.mj_mail.specs.declared.fact.Outcome.{Outcome}
use Rattle.mj_mail.specs.declared.mail.Mail.{Mail}
use Rattle.mj_mail.specs.declared.name.Name.{Name}
use Rattle.mj_mail.specs.Meaning.{Placed, placed, facts_of, gather_within}
use Rattle.mj_mail.specs.Name.{child_name, first_name}
use Rattle.mj_mail.specs.Rules.{AreNumbered}
use Rattle.mj_lawful.specs.Places.{name_cmp, place_cmp, IsBelow, AreInOrder}
use Rattle.mj_lawful.proofs.Lists.{all_append, all_weaker}

pub name_total : IsTotalOrder name_cmp
name_total = then_total (on_total (λ (n : Name). n.number) nat_cmp_total) (on_total (λ (n : Name). n.path) nat_list_cmp_total)

pub place_total : IsTotalOrder place_cmp
place_total = then_total (on_total (λ (p : Placed). p.name) name_total) (on_total (λ (p : Placed). p.number) nat_cmp_total)

nat_below : (a b : ℕ) → a < b → nat_cmp a b ≡ Less
nat_below a b h = grind (arith, nat_tests)

nat_tied : (a : ℕ) → nat_cmp a a ≡ Equal
nat_tied a = tied_itself nat_cmp_total a

then_second : (o p q : Ordering) → o ≡ Equal → p ≡ q → ordering_then o p ≡ q
then_second o p q e f = ap (λ x. ordering_then x p) e ∙ f

then_first : (o p : Ordering) → o ≡ Less → ordering_then o p ≡ Less
then_first o p e = ap (λ x. ordering_then x p) e

-- a common front is passed over
front : (p xs ys : List ℕ) → slice_cmp nat_cmp (p ++ xs) (p ++ ys) ≡ slice_cmp nat_cmp xs ys
front [] xs ys = refl
front (x ∷ p) xs ys = then_second (nat_cmp x x) (slice_cmp nat_cmp (p ++ xs) (p ++ ys)) (slice_cmp nat_cmp xs ys) (nat_tied x) (front p xs ys)

-- the place is somewhere below a name
abbrev pub IsUnder : Name → Placed → Type 0
IsUnder name p = (rest : List ℕ) × (p.name.number ≡ name.number) × (p.name.path ≡ name.path ++ rest)

-- the place is somewhere below a child of the name whose number is k or more
abbrev pub IsUnderFrom : Name → ℕ → Placed → Type 0
IsUnderFrom name k p = (i : ℕ) × (rest : List ℕ) × (k ≤ i) × (p.name.number ≡ name.number) × (p.name.path ≡ name.path ++ i ∷ rest)

under_from_child : (name : Name) (i : ℕ) (p : Placed) → IsUnder (child_name name i) p → IsUnderFrom name i p
under_from_child name i p h = (i, h.0, omega arith, h.1, h.2 ∙ append_assoc name.path (i ∷ []) h.0)

from_more : (name : Name) (k j : ℕ) → k ≤ j → (p : Placed) → IsUnderFrom name j p → IsUnderFrom name k p
from_more name k j le p h = (h.0, h.1, (let g : j ≤ h.0 = h.2 in omega arith), h.3, h.4)

under_weaker : (name : Name) (k : ℕ) (p : Placed) → IsUnderFrom name k p → IsUnder name p
under_weaker name k p h = (h.0 ∷ h.1, h.3, h.4)

abbrev pub IsNamed : (Mail → Outcome) → Type 0
IsNamed step = (mail : Mail) → AreNumbered mail.name 1 (step mail).children

-- facts with their places, of which the first has this number
abbrev placed_from : Name → ℕ → List Fact → List Placed
placed_from name number facts = map (λ fact. record { name = name; number = fact.0; fact = fact.1 }) (enumerate_from number facts)

placed_under : (name : Name) (k : ℕ) (facts : List Fact) → AllByRecursion (IsUnder name) (placed_from name k facts)
placed_under name k [] = tt
placed_under name k (fact ∷ facts) = (([], refl, sym (append-nil name.path)), placed_under name (k + 1) facts)

children_under : (f : Mail → List Placed) → ((mail : Mail) → AllByRecursion (IsUnder mail.name) (f mail))
    → (name : Name) (k : ℕ) (children : List Mail) → AreNumbered name k children → AllByRecursion (IsUnderFrom name k) (flat_map f children)
children_under f under name k [] h = tt
children_under f under name k (child ∷ children) h =
    all_append (IsUnderFrom name k) (f child) (flat_map f children)
    (all_weaker (IsUnder child.name) (IsUnderFrom name k) (λ p u. under_from_child name k p (subst (λ n. IsUnder n p) h.0 u)) (f child) (under child))
    (all_weaker (IsUnderFrom name (k + 1)) (IsUnderFrom name k) (from_more name k (k + 1) (omega arith)) (flat_map f children)
    (children_under f under name (k + 1) children h.1))

pub tree_under : (step : Mail → Outcome) → IsNamed step → (n : ℕ) (mail : Mail) → AllByRecursion (IsUnder mail.name) (gather_within (facts_of step) step n mail)
tree_under step named zero mail = tt
tree_under step named (suc n) mail =
    all_append (IsUnder mail.name) (placed mail.name (step mail).facts) (flat_map (gather_within (facts_of step) step n) (step mail).children)
    (placed_under mail.name 1 (step mail).facts)
    (all_weaker (IsUnderFrom mail.name 1) (IsUnder mail.name) (under_weaker mail.name 1) (flat_map (gather_within (facts_of step) step n) (step mail).children)
    (children_under (gather_within (facts_of step) step n) (tree_under step named n) mail.name 1 (step mail).children (named mail)))

pub in_order_append : (xs ys : List Placed) → AreInOrder xs → AreInOrder ys → AllByRecursion (λ x. AllByRecursion (IsBelow x) ys) xs → AreInOrder (xs ++ ys)
in_order_append [] ys h g below = g
in_order_append (x ∷ xs) ys h g below = (all_append (IsBelow x) xs ys h.0 below.0, in_order_append xs ys h.1 g below.1)

-- two of one name stand by their numbers
placed_above : (name : Name) (k j : ℕ) (fact : Fact) (facts : List Fact) → k < j
    → AllByRecursion (IsBelow (record { name = name; number = k; fact = fact })) (placed_from name j facts)
placed_above name k j fact [] lt = tt
placed_above name k j fact (other ∷ facts) lt =
    (then_second (name_cmp name name) (nat_cmp k j) Less (tied_itself name_total name) (nat_below k j lt), placed_above name k (j + 1) fact facts (omega arith))

placed_in_order : (name : Name) (k : ℕ) (facts : List Fact) → AreInOrder (placed_from name k facts)
placed_in_order name k [] = tt
placed_in_order name k (fact ∷ facts) = (placed_above name k (k + 1) fact facts (omega arith), placed_in_order name (k + 1) facts)

-- by the path, where the numbers are the same
by_path : (p q : Placed) → p.name.number ≡ q.name.number → slice_cmp nat_cmp p.name.path q.name.path ≡ Less → IsBelow p q
by_path p q e h =
    then_first (name_cmp p.name q.name) (nat_cmp p.number q.number)
    (then_second (nat_cmp p.name.number q.name.number) (slice_cmp nat_cmp p.name.path q.name.path) Less
    (ap (λ n. nat_cmp p.name.number n) (sym e) ∙ nat_tied p.name.number) h)

-- the mail's own facts stand before those of its children
own_before : (name : Name) (p q : Placed) → p.name ≡ name → IsUnderFrom name 1 q → IsBelow p q
own_before name p q e u =
    by_path p q (ap (λ (n : Name). n.number) e ∙ sym u.3)
    ((λ i. slice_cmp nat_cmp ((ap (λ (n : Name). n.path) e ∙ sym (append-nil name.path)) i) (u.4 i)) ∙ front name.path [] (u.0 ∷ u.1))

-- what is below one child stands before what is below a later one
child_before : (name : Name) (k : ℕ) (p q : Placed) → IsUnder (child_name name k) p → IsUnderFrom name (k + 1) q → IsBelow p q
child_before name k p q u v =
    let a = under_from_child name k p u in
    by_path p q (u.1 ∙ sym v.3)
    ((λ i. slice_cmp nat_cmp ((u.2 ∙ append_assoc name.path (k ∷ []) u.0) i) (v.4 i))
    ∙ (front name.path (k ∷ u.0) (v.0 ∷ v.1) ∙ then_first (nat_cmp k v.0) (slice_cmp nat_cmp u.0 v.1)
    (nat_below k v.0 (let g : k + 1 ≤ v.0 = v.2 in omega arith))))

placed_before : (name : Name) (k : ℕ) (facts : List Fact) (ys : List Placed) → AllByRecursion (IsUnderFrom name 1) ys
    → AllByRecursion (λ x. AllByRecursion (IsBelow x) ys) (placed_from name k facts)
placed_before name k [] ys h = tt
placed_before name k (fact ∷ facts) ys h = (
  all_weaker (IsUnderFrom name 1) (IsBelow (record { name = name; number = k; fact = fact }))
      (λ q u. own_before name (record { name = name; number = k; fact = fact }) q refl u) ys h,
  placed_before name (k + 1) facts ys h,
)

children_in_order : (f : Mail → List Placed) → ((mail : Mail) → AllByRecursion (IsUnder mail.name) (f mail)) → ((mail : Mail) → AreInOrder (f mail))
    → (name : Name) (k : ℕ) (children : List Mail) → AreNumbered name k children → AreInOrder (flat_map f children)
children_in_order f under ordered name k [] h = tt
children_in_order f under ordered name k (child ∷ children) h =
    in_order_append (f child) (flat_map f children) (ordered child) (children_in_order f under ordered name (k + 1) children h.1)
    (all_weaker (IsUnder child.name) (λ x. AllByRecursion (IsBelow x) (flat_map f children))
    (λ p u. all_weaker (IsUnderFrom name (k + 1)) (IsBelow p) (λ q v. child_before name k p q (subst (λ n. IsUnder n p) h.0 u) v)
    (flat_map f children) (children_under f under name (k + 1) children h.1))
    (f child) (under child))

pub tree_in_order : (step : Mail → Outcome) → IsNamed step → (n : ℕ) (mail : Mail) → AreInOrder (gather_within (facts_of step) step n mail)
tree_in_order step named zero mail = tt
tree_in_order step named (suc n) mail =
    in_order_append (placed mail.name (step mail).facts) (flat_map (gather_within (facts_of step) step n) (step mail).children)
    (placed_in_order mail.name 1 (step mail).facts)
    (children_in_order (gather_within (facts_of step) step n) (tree_under step named n) (tree_in_order step named n) mail.name 1 (step mail).children
    (named mail))
    (placed_before mail.name 1 (step mail).facts (flat_map (gather_within (facts_of step) step n) (step mail).children)
    (children_under (gather_within (facts_of step) step n) (tree_under step named n) mail.name 1 (step mail).children (named mail)))

-- the number of the place is k or more
abbrev pub IsFrom : ℕ → Placed → Type 0
IsFrom k p = k ≤ p.name.number

by_number : (p q : Placed) → p.name.number < q.name.number → IsBelow p q
by_number p q h =
    then_first (name_cmp p.name q.name) (nat_cmp p.number q.number)
    (then_first (nat_cmp p.name.number q.name.number) (slice_cmp nat_cmp p.name.path q.name.path) (nat_below p.name.number q.name.number h))

-- first mails under numbers from k on, one after the other
abbrev pub AreFirstFrom : ℕ → List Mail → Type 0
AreFirstFrom k [] = Unit {0}
AreFirstFrom k (mail ∷ mails) = (mail.name ≡ first_name k) × AreFirstFrom (suc k) mails

firsts_from : (f : Mail → List Placed) → ((mail : Mail) → AllByRecursion (IsUnder mail.name) (f mail)) → (k : ℕ) (mails : List Mail)
    → AreFirstFrom k mails → AllByRecursion (IsFrom k) (flat_map f mails)
firsts_from f under k [] h = tt
firsts_from f under k (mail ∷ mails) h =
    all_append (IsFrom k) (f mail) (flat_map f mails)
    (all_weaker (IsUnder mail.name) (IsFrom k) (λ p u. let e : p.name.number ≡ k = u.1 ∙ ap (λ (n : Name). n.number) h.0 in omega arith) (f mail) (under mail))
    (all_weaker (IsFrom (suc k)) (IsFrom k) (λ p le. omega arith) (flat_map f mails) (firsts_from f under (suc k) mails h.1))

pub firsts_in_order : (f : Mail → List Placed) → ((mail : Mail) → AllByRecursion (IsUnder mail.name) (f mail)) → ((mail : Mail) → AreInOrder (f mail))
    → (k : ℕ) (mails : List Mail) → AreFirstFrom k mails → AreInOrder (flat_map f mails)
firsts_in_order f under ordered k [] h = tt
firsts_in_order f under ordered k (mail ∷ mails) h =
    in_order_append (f mail) (flat_map f mails) (ordered mail) (firsts_in_order f under ordered (suc k) mails h.1)
    (all_weaker (IsUnder mail.name) (λ x. AllByRecursion (IsBelow x) (flat_map f mails))
    (λ p u. all_weaker (IsFrom (suc k)) (IsBelow p)
    (λ q le. let e : p.name.number ≡ k = u.1 ∙ ap (λ (n : Name). n.number) h.0 in by_number p q (omega arith))
    (flat_map f mails) (firsts_from f under (suc k) mails h.1))
    (f mail) (under mail))
