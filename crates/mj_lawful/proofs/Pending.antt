-- Lists of mails of which no two have the same name: what is left of them by a test, and one of them taken out.
use Rattle.std.proofs.Common.{◌≡◌, Bool, true, false, not, ◌||◌, ◌⊎◌, inl, inr, List, [], ◌∷◌, ◌++◌, filter, cond, refl, sym, ap, ◌∙◌, subst, append_assoc, ◌≢◌, IsPermutation}
use Rattle.std.specs.List.{flat_map, AllByRecursion}
use Rattle.std.proofs.lemmas.List.Sorted.{IsPermutation-trans, IsPermutation-append_left, IsPermutation-append_right, IsPermutation-append_comm}
use Rattle.mj_mail.specs.declared.mail.Mail.{Mail}
use Rattle.mj_mail.specs.declared.name.Name.{Name}
use Rattle.mj_lawful.specs.Lawful.{Has}
use Rattle.mj_lawful.specs.Places.{same_name}
use Rattle.mj_lawful.proofs.Lists.{all_append, all_weaker, all_filter, permutation_same}
use Rattle.mj_lawful.proofs.Names.{same_itself, differs}

-- no two of these have the same name
abbrev pub AreApart : List Mail → Type 0
AreApart [] = Unit {0}
AreApart (mail ∷ mails) = AllByRecursion (λ other. other.name ≢ mail.name) mails × AreApart mails

-- one of these has the name
abbrev pub IsBorn : List Mail → Name → Type 0
IsBorn [] name = ⊥
IsBorn (mail ∷ mails) name = (mail.name ≡ name) ⊎ IsBorn mails name

pub all_has : (P : Mail → Type 0) (mails : List Mail) (mail : Mail) → AllByRecursion P mails → Has mails mail → P mail
all_has P [] mail h g = absurd g
all_has P (m ∷ mails) mail h (inl e) = subst P e h.0
all_has P (m ∷ mails) mail h (inr g) = all_has P mails mail h.1 g

pub born_not : (mails : List Mail) (name : Name) → AllByRecursion (λ other. other.name ≢ name) mails → IsBorn mails name → ⊥
born_not [] name h g = g
born_not (m ∷ mails) name h (inl e) = h.0 e
born_not (m ∷ mails) name h (inr g) = born_not mails name h.1 g

pub born_left : (xs ys : List Mail) (name : Name) → IsBorn xs name → IsBorn (xs ++ ys) name
born_left [] ys name h = absurd h
born_left (m ∷ xs) ys name (inl e) = inl e
born_left (m ∷ xs) ys name (inr g) = inr (born_left xs ys name g)

pub born_has : (p : Mail → Bool) (mails : List Mail) (mail : Mail) → Has (filter p mails) mail → IsBorn mails mail.name
born_has p [] mail h = absurd h
born_has p (m ∷ mails) mail h = by (p m) (born_has p mails mail) h
  where
    by : (b : Bool) → (Has (filter p mails) mail → IsBorn mails mail.name) → Has (cond b (m ∷ filter p mails) (filter p mails)) mail
        → (m.name ≡ mail.name) ⊎ IsBorn mails mail.name
    by true rest (inl e) = inl (ap (λ (n : Mail). n.name) e)
    by true rest (inr g) = inr (rest g)
    by false rest g = inr (rest g)

pub apart_append : (xs ys : List Mail) → AreApart xs → AreApart ys → AllByRecursion (λ x. AllByRecursion (λ y. y.name ≢ x.name) ys) xs → AreApart (xs ++ ys)
apart_append [] ys h g both = g
apart_append (x ∷ xs) ys h g both = (all_append (λ other. other.name ≢ x.name) xs ys h.0 both.0, apart_append xs ys h.1 g both.1)

apart_cond : (b : Bool) (xs ys : List Mail) → AreApart xs → AreApart ys → AreApart (cond b xs ys)
apart_cond true xs ys h g = h
apart_cond false xs ys h g = g

pub apart_filter : (p : Mail → Bool) (mails : List Mail) → AreApart mails → AreApart (filter p mails)
apart_filter p [] h = tt
apart_filter p (m ∷ mails) h =
    let g = apart_filter p mails h.1 in
    apart_cond (p m) (m ∷ filter p mails) (filter p mails) (all_filter (λ other. other.name ≢ m.name) p mails h.0, g) g

pub filter_keeps : (p : Mail → Bool) (mails : List Mail) → AllByRecursion (λ x. p x ≡ true) mails → filter p mails ≡ mails
filter_keeps p [] h = refl
filter_keeps p (m ∷ mails) h = ap (λ b. cond b (m ∷ filter p mails) (filter p mails)) h.0 ∙ ap (λ ms. m ∷ ms) (filter_keeps p mails h.1)

pub filter_true : (p : Mail → Bool) (mails : List Mail) → AllByRecursion (λ x. p x ≡ true) (filter p mails)
filter_true p [] = tt
filter_true p (m ∷ mails) = by (p m) refl (filter_true p mails)
  where
    by : (b : Bool) → p m ≡ b → AllByRecursion (λ x. p x ≡ true) (filter p mails) → AllByRecursion (λ x. p x ≡ true)
        (cond b (m ∷ filter p mails) (filter p mails))
    by true e h = (e, h)
    by false e h = h

twice_step : (b : Mail → Bool) (x : Mail) (few more : List Mail) (c : Bool) → few ≡ filter (λ y. not (b y)) more
    → cond (not (c || b x)) (x ∷ few) few ≡ filter (λ y. not (b y)) (cond (not c) (x ∷ more) more)
twice_step b x few more true e = e
twice_step b x few more false e = ap (λ l. cond (not (b x)) (x ∷ l) l) e

pub filter_twice : (a b : Mail → Bool) (xs : List Mail) → filter (λ x. not (a x || b x)) xs ≡ filter (λ x. not (b x)) (filter (λ x. not (a x)) xs)
filter_twice a b [] = refl
filter_twice a b (x ∷ xs) = twice_step b x (filter (λ y. not (a y || b y)) xs) (filter (λ y. not (a y)) xs) (a x) (filter_twice a b xs)

-- one of these and the others, taken out by name
abbrev pub without : Name → List Mail → List Mail
without name mails = filter (λ other. not (same_name name other.name)) mails

pub take_out : {Y : Type 0} (f : Mail → List Y) (mails : List Mail) (mail : Mail) → AreApart mails → Has mails mail
    → IsPermutation (flat_map f mails) (f mail ++ flat_map f (without mail.name mails))
take_out f [] mail apart h = absurd h
take_out f (m ∷ mails) mail apart (inl e) =
    subst (λ (x : Mail). IsPermutation (f m ++ flat_map f mails) (f x ++ flat_map f (without x.name (m ∷ mails)))) e
    (permutation_same (f m ++ flat_map f mails) (f m ++ flat_map f (without m.name (m ∷ mails)))
    (ap (λ ms. f m ++ flat_map f ms) (sym (ap (λ b. cond (not b) (m ∷ without m.name mails) (without m.name mails)) (same_itself m.name)
    ∙ filter_keeps (λ other. not (same_name m.name other.name)) mails
    (all_weaker (λ other. other.name ≢ m.name) (λ other. not (same_name m.name other.name) ≡ true)
    (λ other ne. ap not (differs m.name other.name (λ q. ne (sym q)))) mails apart.0)))))
take_out f (m ∷ mails) mail apart (inr g) =
    let others = flat_map f (without mail.name mails) in
    let ne = all_has (λ other. other.name ≢ m.name) mails mail apart.0 g in
    let kept : without mail.name (m ∷ mails) ≡ m ∷ without mail.name mails =
    ap (λ b. cond (not b) (m ∷ without mail.name mails) (without mail.name mails)) (differs mail.name m.name ne) in
    subst (λ ms. IsPermutation (f m ++ flat_map f mails) (f mail ++ flat_map f ms)) (sym kept)
    (IsPermutation-trans (f m ++ flat_map f mails) (f m ++ (f mail ++ others)) (f mail ++ (f m ++ others))
    (IsPermutation-append_right (f m) (flat_map f mails) (f mail ++ others) (take_out f mails mail apart.1 g))
    (subst (λ zs. IsPermutation zs (f mail ++ (f m ++ others))) (append_assoc (f m) (f mail) others)
    (subst (λ zs. IsPermutation ((f m ++ f mail) ++ others) zs) (append_assoc (f mail) (f m) others)
    (IsPermutation-append_left others (f m ++ f mail) (f mail ++ f m) (IsPermutation-append_comm (f m) (f mail))))))
