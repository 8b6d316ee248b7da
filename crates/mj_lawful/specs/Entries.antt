-- What a list of entries says: what was accepted, which configuration was in force where, and what is done. The
-- configuration in force goes by the number of Setup entries, of which it is the last.
use Rattle.std.specs.Prelude.{ℕ, suc, Bool, false, ◌==◌, ◌||◌, not, if◌then◌else◌, List, [], ◌∷◌, ◌++◌, filter, Option, Some, None}
use Rattle.mj_mail.specs.declared.entry.Entry.{Entry}
use Rattle.mj_mail.specs.declared.entry.Entry.TheVariants.{Setup, Accept, Done}
use Rattle.mj_mail.specs.declared.mail.Mail.{Mail}
use Rattle.mj_mail.specs.declared.mail.NewMail.{NewMail}
use Rattle.mj_mail.specs.declared.name.Name.{Name}
use Rattle.mj_mail.specs.Meaning.{Placed, placed}
use Rattle.mj_lawful.specs.Configurations.{Meanings}
use Rattle.mj_lawful.specs.Places.{same_name}

-- ---- Configurations

-- how many Setup entries there are, which is the number of the configuration in force behind them all
abbrev pub epochs : List Entry → ℕ
epochs [] = 0
epochs (Setup plan ∷ entries) = suc (epochs entries)
epochs (Accept number file new ∷ entries) = epochs entries
epochs (Done name replies outcome ∷ entries) = epochs entries

-- the bytes of the last Setup entry, where `plan` is in force before them
abbrev pub plan_behind : Option (List ℕ) → List Entry → Option (List ℕ)
plan_behind plan [] = plan
plan_behind plan (Setup later ∷ entries) = plan_behind (Some later) entries
plan_behind plan (Accept number file new ∷ entries) = plan_behind plan entries
plan_behind plan (Done name replies outcome ∷ entries) = plan_behind plan entries

-- the bytes in force
abbrev pub in_force : List Entry → Option (List ℕ)
in_force entries = plan_behind None entries

-- the configuration by which the mail of this name is carried: the one in force at its first Done entry, else the last
abbrev pub era : List Entry → Name → ℕ
era [] name = 0
era (Setup plan ∷ entries) name = suc (era entries name)
era (Accept number file new ∷ entries) name = era entries name
era (Done done replies outcome ∷ entries) name = if same_name done name then 0 else era entries name

-- the configuration that makes the first mail of this number: the one in force at its Accept entry, else the last
abbrev pub source : List Entry → ℕ → ℕ
source [] number = 0
source (Setup plan ∷ entries) number = suc (source entries number)
source (Accept accepted file new ∷ entries) number = if accepted == number then 0 else source entries number
source (Done name replies outcome ∷ entries) number = source entries number

-- ---- Mails

-- what was accepted, each a number and a new mail
abbrev pub accepted : List Entry → List (ℕ × NewMail)
accepted [] = []
accepted (Setup plan ∷ entries) = accepted entries
accepted (Accept number file new ∷ entries) = (number, new) ∷ accepted entries
accepted (Done name replies outcome ∷ entries) = accepted entries

-- the names of the files that were accepted
abbrev pub files : List Entry → List (List ℕ)
files [] = []
files (Setup plan ∷ entries) = files entries
files (Accept number file new ∷ entries) = file ∷ files entries
files (Done name replies outcome ∷ entries) = files entries

-- the facts of the Done entries, with their places
abbrev pub facts : List Entry → List Placed
facts [] = []
facts (Setup plan ∷ entries) = facts entries
facts (Accept number file new ∷ entries) = facts entries
facts (Done name replies outcome ∷ entries) = placed name outcome.facts ++ facts entries

-- the mail of this name has its Done entry
abbrev pub is_done : List Entry → Name → Bool
is_done [] name = false
is_done (Setup plan ∷ entries) name = is_done entries name
is_done (Accept number file new ∷ entries) name = is_done entries name
is_done (Done done replies outcome ∷ entries) name = same_name done name || is_done entries name

-- the first mail of each Accept entry and the children of each Done entry, in the order of the entries, where the
-- configuration `epoch` is in force before them
abbrev pub births_from : Meanings → ℕ → List Entry → List Mail
births_from r epoch [] = []
births_from r epoch (Setup plan ∷ entries) = births_from r (suc epoch) entries
births_from r epoch (Accept number file new ∷ entries) = r.first epoch number new ∷ births_from r epoch entries
births_from r epoch (Done name replies outcome ∷ entries) = outcome.children ++ births_from r epoch entries

abbrev pub births : Meanings → List Entry → List Mail
births r entries = births_from r 0 entries

-- the births whose name has no Done entry
abbrev pub pending : Meanings → List Entry → List Mail
pending r entries = filter (λ mail. not (is_done entries mail.name)) (births r entries)
