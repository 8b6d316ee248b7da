-- Claims of workers: how many stand whose host was called, which mails they are on, and what becomes of them.
use Rattle.std.proofs.Common.{◌≡◌, ℕ, ◌+◌, Bool, true, false, ◌&&◌, ◌||◌, not, inl, inr, List, [], ◌∷◌, ◌++◌, filter, cond, Option, Some, None, if◌then◌else◌, refl, sym, ap, ◌∙◌, subst, arith, true≢false, nat_lt, ◌==◌}
use Rattle.std.specs.List.{AllByRecursion}
use Rattle.mj_mail.specs.declared.entry.Entry.{Entry}
use Rattle.mj_mail.specs.declared.mail.Mail.{Mail}
use Rattle.mj_mail.specs.declared.name.Name.{Name}
use Rattle.mj_lawful.specs.Attempts.{one_if, times, stands, is_remote_mail, is_remote_done}
use Rattle.mj_lawful.specs.Configurations.{Meanings}
use Rattle.mj_lawful.specs.Entries.{is_done, births, pending}
use Rattle.mj_lawful.specs.Machine.{Claim, Machine, claim_of, without_claim, with_attempt, is_claimed, mail_of, sooner, next_behind, next_of}
use Rattle.mj_lawful.specs.Places.{same_name}
use Rattle.mj_lawful.proofs.Behind.{or_false}
use Rattle.mj_lawful.proofs.Holds.{Holds}
use Rattle.mj_lawful.proofs.Lists.{all_weaker}
use Rattle.mj_lawful.proofs.Names.{same_is, same_itself, differs}
use Rattle.mj_lawful.proofs.Pending.{IsBorn, all_has, filter_true}
use Rattle.mj_lawful.proofs.Runs.{mail_found, not_so}

-- how many attempted claims on the name stand
abbrev pub standing : Name → List Claim → ℕ
standing name [] = 0
standing name (claim ∷ claims) = one_if (claim.attempted && same_name claim.name name) + standing name claims

abbrev pub NamesApart : List Claim → Type 0
NamesApart [] = Unit {0}
NamesApart (claim ∷ claims) = (is_claimed claims claim.name ≡ false) × NamesApart claims

pub and_no : (a : Bool) → (a && false) ≡ false
and_no true = refl
and_no false = refl

none_stands : (claims : List Claim) (name : Name) → is_claimed claims name ≡ false → (standing name claims ≡ 0) × (stands claims name ≡ false)
none_stands [] name h = (refl, refl)
none_stands (claim ∷ claims) name h =
    let p = or_false (same_name claim.name name) (is_claimed claims name) h in
    let g = none_stands claims name p.1 in
    let e : (claim.attempted && same_name claim.name name) ≡ false = ap (λ b. claim.attempted && b) p.0 ∙ and_no claim.attempted in
    ((λ i. one_if (e i) + g.0 i), (λ i. e i || g.1 i))

pub standing_is : (claims : List Claim) (name : Name) → NamesApart claims → standing name claims ≡ one_if (stands claims name)
standing_is [] name h = refl
standing_is (claim ∷ claims) name h = by claim.attempted (same_name claim.name name) refl (standing_is claims name h.1)
  where
    by : (a b : Bool) → same_name claim.name name ≡ b → standing name claims ≡ one_if (stands claims name) → one_if
        (a && b) + standing name claims ≡ one_if ((a && b) || stands claims name)
    by true true e g = ap (λ n. 1 + n) (none_stands claims name (subst (λ n. is_claimed claims n ≡ false) (same_is claim.name name e) h.0)).0
    by true false e g = (omega arith) ∙ g
    by false b e g = (omega arith) ∙ g

pub times_append : (name : Name) (xs ys : List Name) → times name (xs ++ ys) ≡ times name xs + times name ys
times_append name [] ys = omega arith
times_append name (x ∷ xs) ys = let h = times_append name xs ys in omega arith

pub standing_append : (name : Name) (xs ys : List Claim) → standing name (xs ++ ys) ≡ standing name xs + standing name ys
standing_append name [] ys = omega arith
standing_append name (claim ∷ xs) ys = let h = standing_append name xs ys in omega arith

-- an attempt, and a claim that ends
pub standing_attempt : (name : Name) (claims : List Claim) (worker : ℕ) (claim : Claim) → claim_of claims worker ≡ Some claim → claim.attempted ≡ false
    → standing name (with_attempt claims worker) ≡ standing name claims + one_if (same_name claim.name name)
standing_attempt name [] worker claim h no_yet = cc
standing_attempt name (x ∷ claims) worker claim h no_yet = by (x.worker == worker) (standing_attempt name claims worker claim) h
  where
    by : (b : Bool) → (claim_of claims worker ≡ Some claim → claim.attempted ≡ false → standing name
        (with_attempt claims worker) ≡ standing name claims + one_if (same_name claim.name name))
        → (if b then Some x else claim_of claims worker) ≡ Some claim
        → standing name (if b then record { worker = x.worker; name = x.name; attempted = true } ∷ claims else x ∷ with_attempt claims worker) ≡
        (one_if (x.attempted && same_name x.name name) + standing name claims) + one_if (same_name claim.name name)
    by true rest h =
        let is : x ≡ claim = cc in
        let e : one_if (x.attempted && same_name x.name name) ≡ 0 = ap (λ b. one_if (b && same_name x.name name))
        (ap (λ (y : Claim). y.attempted) is ∙ no_yet) in
        let f : one_if (same_name x.name name) ≡ one_if (same_name claim.name name) = ap (λ (y : Claim). one_if (same_name y.name name)) is in
        omega arith
    by false rest h = let g = rest h no_yet in omega arith

pub standing_commit : (name : Name) (claims : List Claim) (worker : ℕ) (claim : Claim) → claim_of claims worker ≡ Some claim
    → standing name claims ≡ standing name (without_claim claims worker) + one_if (claim.attempted && same_name claim.name name)
standing_commit name [] worker claim h = cc
standing_commit name (x ∷ claims) worker claim h = by (x.worker == worker) (standing_commit name claims worker claim) h
  where
    by : (b : Bool) → (claim_of claims worker ≡ Some claim → standing name claims ≡ standing name (without_claim claims worker) + one_if
        (claim.attempted && same_name claim.name name))
        → (if b then Some x else claim_of claims worker) ≡ Some claim
        → one_if (x.attempted && same_name x.name name) + standing name claims ≡ standing name
        (if b then claims else x ∷ without_claim claims worker) + one_if (claim.attempted && same_name claim.name name)
    by true rest h =
        let is : x ≡ claim = cc in
        let f : one_if (x.attempted && same_name x.name name) ≡ one_if (claim.attempted && same_name claim.name name) =
        ap (λ (y : Claim). one_if (y.attempted && same_name y.name name)) is in
        omega arith
    by false rest h = let g = rest h in omega arith

-- ---- The mail of a name

mail_of_filter : (p : Name → Bool) (mails : List Mail) (name : Name) → p name ≡ true → mail_of (filter (λ mail. p mail.name) mails) name ≡ mail_of mails name
mail_of_filter p [] name h = refl
mail_of_filter p (x ∷ mails) name h = by (p x.name) (same_name x.name name) refl refl (mail_of_filter p mails name h)
  where
    by : (a b : Bool) → p x.name ≡ a → same_name x.name name ≡ b → mail_of (filter (λ mail. p mail.name) mails) name ≡ mail_of mails name
        → mail_of (cond a (x ∷ filter (λ mail. p mail.name) mails) (filter (λ mail. p mail.name) mails)) name ≡ (if b then Some x else mail_of mails name)
    by true true e f rest = ap (λ b. if b then Some x else mail_of (filter (λ mail. p mail.name) mails) name) f
    by true false e f rest = ap (λ b. if b then Some x else mail_of (filter (λ mail. p mail.name) mails) name) f ∙ rest
    by false true e f rest = absurd (true≢false (sym h ∙ (ap p (sym (same_is x.name name f)) ∙ e)))
    by false false e f rest = rest

-- a mail that is pending isn't done, and is the birth of its name
pub pending_is : (r : Meanings) (entries : List Entry) (name : Name) (mail : Mail) → mail_of (pending r entries) name ≡ Some mail
    → (is_done entries name ≡ false) × (mail_of (births r entries) name ≡ Some mail)
pending_is r entries name mail h =
    let g = mail_found (pending r entries) name mail h in
    let waits : not (is_done entries name) ≡ true = subst (λ n. not (is_done entries n) ≡ true) g.1
    (all_has (λ x. not (is_done entries x.name) ≡ true) (pending r entries) mail (filter_true (λ x. not (is_done entries x.name)) (births r entries)) g.0) in
    (not_so (is_done entries name) waits, sym (mail_of_filter (λ n. not (is_done entries n)) (births r entries) name waits) ∙ h)

pub mail_of_more : (xs ys : List Mail) (name : Name) (mail : Mail) → mail_of xs name ≡ Some mail → mail_of (xs ++ ys) name ≡ Some mail
mail_of_more [] ys name mail h = cc
mail_of_more (x ∷ xs) ys name mail h = by (same_name x.name name) (mail_of_more xs ys name mail) h
  where
    by : (b : Bool) → (mail_of xs name ≡ Some mail → mail_of (xs ++ ys) name ≡ Some mail) → (if b then Some x else mail_of xs name) ≡ Some mail
        → (if b then Some x else mail_of (xs ++ ys) name) ≡ Some mail
    by true rest h = h
    by false rest h = rest h

found_later : (x : Mail) (found : Option Mail) (b : Bool) → (mail : Mail) × (found ≡ Some mail) → (mail : Mail) × ((if b then Some x else found) ≡ Some mail)
found_later x found true g = (x, refl)
found_later x found false g = g

born_found : (xs : List Mail) (name : Name) → IsBorn xs name → (mail : Mail) × (mail_of xs name ≡ Some mail)
born_found [] name h = absurd h
born_found (x ∷ xs) name (inl e) = (x, ap (λ b. if b then Some x else mail_of xs name) (subst (λ n. same_name x.name n ≡ true) e (same_itself x.name)))
born_found (x ∷ xs) name (inr g) = found_later x (mail_of xs name) (same_name x.name name) (born_found xs name g)

remote_more : (xs ys : List Mail) (name : Name) → is_remote_mail (mail_of xs name) ≡ true → is_remote_mail (mail_of (xs ++ ys) name) ≡ true
remote_more xs ys name h = by (mail_of xs name) refl h
  where
    by : (found : Option Mail) → mail_of xs name ≡ found → is_remote_mail found ≡ true → is_remote_mail (mail_of (xs ++ ys) name) ≡ true
    by None e h = absurd (true≢false (sym h))
    by (Some mail) e h = ap is_remote_mail (mail_of_more xs ys name mail e) ∙ h

-- where no more names are done, no more mails are done that are sent to hosts
pub remote_done_same : (r : Meanings) (entries later : List Entry) (more : List Mail) (name : Name) → Holds r entries
    → births r later ≡ births r entries ++ more → is_done later name ≡ is_done entries name
    → is_remote_done r later name ≡ is_remote_done r entries name
remote_done_same r entries later more name holds births_are done_is =
    (λ i. done_is i && is_remote_mail (mail_of (births_are i) name)) ∙ by (is_done entries name) refl
  where
    by : (b : Bool) → is_done entries name ≡ b → (b && is_remote_mail (mail_of (births r entries ++ more) name)) ≡
        (b && is_remote_mail (mail_of (births r entries) name))
    by true e = let f = born_found (births r entries) name (holds.born name e) in ap is_remote_mail
        (mail_of_more (births r entries) more name f.0 f.1 ∙ sym f.1)
    by false e = refl

-- ---- What holds of claims

-- No two claims are on the same mail, each whose host was called is on a mail that is sent to one, and none stands while
-- the machine is down.

pub record IsTracked (r : Meanings) (state : Machine) : Type 0 where
  pub apart : NamesApart state.claims
  pub remote : AllByRecursion (λ claim. claim.attempted ≡ true → is_remote_mail (mail_of (births r state.entries) claim.name) ≡ true) state.claims
  pub idle : state.running ≡ false → state.claims ≡ []

abbrev pub AreRemote : Meanings → List Entry → List Claim → Type 0
AreRemote r entries claims = AllByRecursion (λ claim. claim.attempted ≡ true → is_remote_mail (mail_of (births r entries) claim.name) ≡ true) claims

pub remote_grow : (r : Meanings) (entries later : List Entry) (more : List Mail) (claims : List Claim) → births r later ≡ births r entries ++ more
    → AreRemote r entries claims → AreRemote r later claims
remote_grow r entries later more claims e h =
    all_weaker (λ claim. claim.attempted ≡ true → is_remote_mail (mail_of (births r entries) claim.name) ≡ true)
    (λ claim. claim.attempted ≡ true → is_remote_mail (mail_of (births r later) claim.name) ≡ true)
    (λ claim g a. ap (λ ms. is_remote_mail (mail_of ms claim.name)) e ∙ remote_more (births r entries) more claim.name (g a)) claims h

claimed_attempt : (claims : List Claim) (worker : ℕ) (name : Name) → is_claimed (with_attempt claims worker) name ≡ is_claimed claims name
claimed_attempt [] worker name = refl
claimed_attempt (claim ∷ claims) worker name = by (claim.worker == worker) (claimed_attempt claims worker name)
  where
    by : (b : Bool) → is_claimed (with_attempt claims worker) name ≡ is_claimed claims name → is_claimed
        (if b then record { worker = claim.worker; name = claim.name; attempted = true } ∷ claims else claim ∷ with_attempt claims worker) name ≡
        (same_name claim.name name || is_claimed claims name)
    by true rest = refl
    by false rest = ap (λ b. same_name claim.name name || b) rest

pub apart_attempt : (claims : List Claim) (worker : ℕ) → NamesApart claims → NamesApart (with_attempt claims worker)
apart_attempt [] worker h = tt
apart_attempt (claim ∷ claims) worker h = by (claim.worker == worker) (apart_attempt claims worker h.1)
  where
    by : (b : Bool) → NamesApart (with_attempt claims worker) → NamesApart
        (if b then record { worker = claim.worker; name = claim.name; attempted = true } ∷ claims else claim ∷ with_attempt claims worker)
    by true rest = h
    by false rest = (claimed_attempt claims worker claim.name ∙ h.0, rest)

claimed_without : (claims : List Claim) (worker : ℕ) (name : Name) → is_claimed claims name ≡ false → is_claimed (without_claim claims worker) name ≡ false
claimed_without [] worker name h = refl
claimed_without (claim ∷ claims) worker name h =
    by (claim.worker == worker) (claimed_without claims worker name (or_false (same_name claim.name name) (is_claimed claims name) h).1)
  where
    by : (b : Bool) → is_claimed (without_claim claims worker) name ≡ false → is_claimed
        (if b then claims else claim ∷ without_claim claims worker) name ≡ false
    by true rest = (or_false (same_name claim.name name) (is_claimed claims name) h).1
    by false rest = (λ i. (or_false (same_name claim.name name) (is_claimed claims name) h).0 i || rest i)

pub apart_without : (claims : List Claim) (worker : ℕ) → NamesApart claims → NamesApart (without_claim claims worker)
apart_without [] worker h = tt
apart_without (claim ∷ claims) worker h = by (claim.worker == worker) (apart_without claims worker h.1)
  where
    by : (b : Bool) → NamesApart (without_claim claims worker) → NamesApart (if b then claims else claim ∷ without_claim claims worker)
    by true rest = h.1
    by false rest = (claimed_without claims worker claim.name h.0, rest)

pub remote_without : (P : Claim → Type 0) (claims : List Claim) (worker : ℕ) → AllByRecursion P claims → AllByRecursion P (without_claim claims worker)
remote_without P [] worker h = tt
remote_without P (claim ∷ claims) worker h = by (claim.worker == worker) (remote_without P claims worker h.1)
  where
    by : (b : Bool) → AllByRecursion P (without_claim claims worker) → AllByRecursion P (if b then claims else claim ∷ without_claim claims worker)
    by true rest = h.1
    by false rest = (h.0, rest)

-- the claim that is attempted is on a mail that is sent to a host
pub remote_attempt : (r : Meanings) (entries : List Entry) (claims : List Claim) (worker : ℕ) (claim : Claim) → claim_of claims worker ≡ Some claim
    → is_remote_mail (mail_of (births r entries) claim.name) ≡ true → AreRemote r entries claims → AreRemote r entries (with_attempt claims worker)
remote_attempt r entries [] worker claim found is h = tt
remote_attempt r entries (x ∷ claims) worker claim found is h = by (x.worker == worker) (remote_attempt r entries claims worker claim) found
  where
    by : (b : Bool) → (claim_of claims worker ≡ Some claim → is_remote_mail (mail_of (births r entries) claim.name) ≡ true → AreRemote r entries claims
        → AreRemote r entries (with_attempt claims worker))
        → (if b then Some x else claim_of claims worker) ≡ Some claim
        → AreRemote r entries (if b then record { worker = x.worker; name = x.name; attempted = true } ∷ claims else x ∷ with_attempt claims worker)
    by true rest e = let same : x ≡ claim = cc in ((λ a. ap (λ (y : Claim). is_remote_mail (mail_of (births r entries) y.name)) same ∙ is), h.1)
    by false rest e = (h.0, rest e is h.1)

-- the next mail is unclaimed
abbrev pub IsFree : List Claim → Option Mail → Type 0
IsFree claims None = Unit {0}
IsFree claims (Some mail) = is_claimed claims mail.name ≡ false

free_sooner : (claims : List Claim) (best : Option Mail) (mail : Mail) → IsFree claims best → is_claimed claims mail.name ≡ false
    → IsFree claims (sooner best mail)
free_sooner claims None mail h e = e
free_sooner claims (Some best) mail h e = by (nat_lt mail.due best.due)
  where
    by : (b : Bool) → IsFree claims (if b then Some mail else Some best)
    by true = e
    by false = h

pub free_next : (claims : List Claim) (best : Option Mail) (mails : List Mail) → IsFree claims best → IsFree claims (next_behind claims best mails)
free_next claims best [] h = h
free_next claims best (mail ∷ mails) h =
    free_next claims (if is_claimed claims mail.name then best else sooner best mail) mails (by (is_claimed claims mail.name) refl)
  where
    by : (b : Bool) → is_claimed claims mail.name ≡ b → IsFree claims (if b then best else sooner best mail)
    by true e = h
    by false e = free_sooner claims best mail h e

pub next_unclaimed : (claims : List Claim) (mails : List Mail) (mail : Mail) → next_of claims mails ≡ Some mail → is_claimed claims mail.name ≡ false
next_unclaimed claims mails mail h = subst (IsFree claims) h (free_next claims None mails tt)

claimed_push : (claims : List Claim) (claim : Claim) (name : Name) → is_claimed claims name ≡ false → same_name claim.name name ≡ false
    → is_claimed (claims ++ claim ∷ []) name ≡ false
claimed_push [] claim name h e = ap (λ b. b || false) e
claimed_push (x ∷ claims) claim name h e =
    let p = or_false (same_name x.name name) (is_claimed claims name) h in
    (λ i. p.0 i || claimed_push claims claim name p.1 e i)

pub apart_push : (claims : List Claim) (claim : Claim) → NamesApart claims → is_claimed claims claim.name ≡ false → NamesApart (claims ++ claim ∷ [])
apart_push [] claim h e = (refl, tt)
apart_push (x ∷ claims) claim h e =
    let p = or_false (same_name x.name claim.name) (is_claimed claims claim.name) e in (
      claimed_push claims claim x.name h.0 (differs claim.name x.name
          (λ q. true≢false (sym (subst (λ n. same_name x.name n ≡ true) (sym q) (same_itself x.name)) ∙ p.0))),
      apart_push claims claim h.1 p.1,
    )
