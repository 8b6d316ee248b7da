-- Lawful lists of entries, and what it is that such a list is cut out of the meaning of what was accepted.
use Rattle.std.specs.Prelude.{◌≡◌, ◌⊎◌, ℕ, suc, ◌<◌, ◌≤◌, Bool, true, false, not, List, [], ◌∷◌, ◌++◌, length, Option, Some, None, IsPermutation}
use Rattle.std.specs.List.{flat_map, list_all, list_any}
use Rattle.std.specs.Str.{bytes_eq}
use Rattle.mj_mail.specs.declared.entry.Entry.{Entry}
use Rattle.mj_mail.specs.declared.entry.Entry.TheVariants.{Setup, Accept, Done}
use Rattle.mj_mail.specs.declared.fact.Outcome.{Outcome}
use Rattle.mj_mail.specs.declared.mail.Mail.{Mail}
use Rattle.mj_mail.specs.declared.mail.NewMail.{NewMail}
use Rattle.mj_mail.specs.declared.name.Name.{Name}
use Rattle.mj_mail.specs.declared.reply.Reply.{Reply}
use Rattle.mj_mail.specs.Meaning.{Placed, tree as tree_by, meaning as meaning_by}
use Rattle.mj_mail.specs.Rules.{is_acceptable, replies_to, step_by}
use Rattle.mj_lawful.specs.Configurations.{Meanings, outcome_at}
use Rattle.mj_lawful.specs.Entries.{accepted, epochs, era, facts, files, in_force, pending, source}
use Rattle.mj_lawful.specs.Places.{AreInOrder, in_order}

-- ---- Lawful lists

-- the most bytes of a file name, and the most Setup entries
abbrev pub max_file : ℕ
max_file = 4_096

abbrev pub max_epochs : ℕ
max_epochs = 100

-- the mail is one of these
abbrev pub Has : List Mail → Mail → Type 0
Has [] mail = ⊥
Has (other ∷ mails) mail = (other ≡ mail) ⊎ Has mails mail

-- the file name is one of these
abbrev pub has_file : List (List ℕ) → List ℕ → Bool
has_file names file = list_any (λ name. bytes_eq name file) names

-- the bytes are not those in force
abbrev pub is_change : Option (List ℕ) → List ℕ → Bool
is_change None plan = true
is_change (Some held) plan = not (bytes_eq held plan)

-- A Setup entry is lawful behind these: it holds the bytes of the next configuration, for which each pending mail is
-- sound, and it changes something.
pub record FitsSetup (r : Meanings) (before : List Entry) (plan : List ℕ) : Type 0 where
  pub next : r.plan (suc (epochs before)) ≡ Some plan
  pub change : is_change (in_force before) plan ≡ true
  pub few : epochs before < max_epochs
  pub sound : list_all (r.sound (suc (epochs before))) (pending r before) ≡ true

-- An Accept entry is lawful behind these: it has the next number, and a file that no earlier one has.
pub record FitsAccept (r : Meanings) (before : List Entry) (number : ℕ) (file : List ℕ) (new : NewMail) : Type 0 where
  pub begun : 0 < epochs before
  pub counted : number ≡ suc (length (accepted before))
  pub short : length file ≤ max_file
  pub unheard : has_file (files before) file ≡ false
  pub acceptable : is_acceptable new ≡ true

-- A Done entry is lawful behind these: it names a pending mail, and has what hosts answer for it and what becomes of it
-- by the configuration in force.
pub record FitsDone (r : Meanings) (before : List Entry) (name : Name) (replies : List Reply) (outcome : Outcome) : Type 0 where
  pub mail : Mail
  pub waits : Has (pending r before) mail
  pub named : mail.name ≡ name
  pub answered : replies ≡ replies_to (r.reply (epochs before)) mail
  pub stepped : outcome ≡ outcome_at r (epochs before) mail

abbrev pub Fits : Meanings → List Entry → Entry → Type 0
Fits r before (Setup plan) = FitsSetup r before plan
Fits r before (Accept number file new) = FitsAccept r before number file new
Fits r before (Done name replies outcome) = FitsDone r before name replies outcome

-- each of these is lawful behind `before` and those that stand before it
abbrev pub AreLawfulBehind : Meanings → List Entry → List Entry → Type 0
AreLawfulBehind r before [] = Unit {0}
AreLawfulBehind r before (entry ∷ entries) = Fits r before entry × AreLawfulBehind r (before ++ entry ∷ []) entries

abbrev pub AreLawful : Meanings → List Entry → Type 0
AreLawful r entries = AreLawfulBehind r [] entries

-- ---- Meaning

-- what one step makes of a mail, by the configuration that carries it; nothing, where it isn't sound for that
abbrev pub step_in : Meanings → List Entry → Mail → Outcome
step_in r entries mail = step_by r.sound r.reply r.step (era entries mail.name) mail

-- all that becomes of a mail
abbrev pub tree : Meanings → List Entry → Mail → List Placed
tree r entries mail = tree_by r.measure (step_in r entries) mail

-- the trees of the first mails of what was accepted, a number and a new mail each
abbrev pub meaning : Meanings → List Entry → List (ℕ × NewMail) → List Placed
meaning r entries mails = meaning_by (λ number new. r.first (source entries number) number new) r.measure (step_in r entries) mails

-- ---- The cut

-- the facts of the Done entries with the trees of the pending mails
abbrev pub known_and_due : Meanings → List Entry → List Placed
known_and_due r entries = facts entries ++ flat_map (tree r entries) (pending r entries)

-- They are, in another order, the meaning of what was accepted, which is in the order of places.
pub record IsCut (r : Meanings) (entries : List Entry) : Type 0 where
  pub joined : IsPermutation (known_and_due r entries) (meaning r entries (accepted entries))
  pub ordered : AreInOrder (meaning r entries (accepted entries))

-- The same as one equation: put into the order of places they are the meaning of what was accepted.
abbrev pub IsCutExactly : Meanings → List Entry → Type 0
IsCutExactly r entries = in_order (known_and_due r entries) ≡ meaning r entries (accepted entries)
