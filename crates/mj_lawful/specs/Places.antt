-- Names of mails and places of facts: when two names are the same, and the order of places.
use Rattle.std.specs.Prelude.{◌≡◌, nat_eq, ◌==◌, ◌&&◌, Bool, if◌then◌else◌, List, [], ◌∷◌}
use Rattle.std.specs.declared.cmp.Ordering.{Ordering}
use Rattle.std.specs.declared.cmp.Ordering.TheVariants.{Less}
use Rattle.std.specs.Cmp.Lexicographic.{pointwise, slice_cmp}
use Rattle.std.specs.List.{AllByRecursion}
use Rattle.std.specs.Ordering.{is_lt, nat_cmp, ordering_then}
use Rattle.mj_mail.specs.declared.name.Name.{Name}
use Rattle.mj_mail.specs.Meaning.{Placed}

abbrev pub same_name : Name → Name → Bool
same_name a b = (a.number == b.number) && pointwise nat_eq a.path b.path

-- names by their numbers and then by their paths, of which one that begins another stands before it
abbrev pub name_cmp : Name → Name → Ordering
name_cmp a b = ordering_then (nat_cmp a.number b.number) (slice_cmp nat_cmp a.path b.path)

-- places by the mail's name and then by the fact's number
abbrev pub place_cmp : Placed → Placed → Ordering
place_cmp a b = ordering_then (name_cmp a.name b.name) (nat_cmp a.number b.number)

abbrev pub IsBelow : Placed → Placed → Type 0
IsBelow a b = place_cmp a b ≡ Less

-- each fact has a place below those of all later ones
abbrev pub AreInOrder : List Placed → Type 0
AreInOrder [] = Unit {0}
AreInOrder (fact ∷ facts) = AllByRecursion (IsBelow fact) facts × AreInOrder facts

-- with one fact more, before the first one whose place is above its own
abbrev pub put_in : Placed → List Placed → List Placed
put_in fact [] = fact ∷ []
put_in fact (other ∷ others) = if is_lt (place_cmp fact other) then fact ∷ other ∷ others else other ∷ put_in fact others

-- the facts in the order of places
abbrev pub in_order : List Placed → List Placed
in_order [] = []
in_order (fact ∷ facts) = put_in fact (in_order facts)
