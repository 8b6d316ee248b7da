-- Where configurations follow one another, a mail that one carries is allowed by another exactly where it is sound for it.
use Rattle.std.proofs.Common.{◌≡◌, ℕ, Bool, true, false, ◌&&◌, List, [], ◌∷◌, refl, sym}
use Rattle.std.specs.List.{AllByRecursion, list_all}
use Rattle.mj_mail.specs.declared.entry.Entry.{Entry}
use Rattle.mj_mail.specs.declared.mail.Mail.{Mail}
use Rattle.mj_lawful.specs.Configurations.{Follow, Laws, Meanings}
use Rattle.mj_lawful.specs.Entries.{epochs, pending}
use Rattle.mj_lawful.specs.Lawful.{AreLawful}
use Rattle.mj_lawful.proofs.Cut.{reached}

same_by : (a b : Bool) → (a ≡ true → b ≡ true) → (b ≡ true → a ≡ true) → a ≡ b
same_by true b there back = sym (there refl)
same_by false true there back = back refl
same_by false false there back = refl

pub allowed_is_sound : (r : Meanings) → Follow r → (epoch other : ℕ) (mail : Mail) → r.sound epoch mail ≡ true → r.allows other mail ≡ r.sound other mail
allowed_is_sound r follow epoch other mail sound =
    same_by (r.allows other mail) (r.sound other mail) (follow.allowed_sound epoch other mail sound) (follow.sound_allowed other mail)

all_allowed : (r : Meanings) → Follow r → (epoch other : ℕ) (mails : List Mail) → AllByRecursion (λ mail. r.sound epoch mail ≡ true) mails
    → list_all (r.allows other) mails ≡ list_all (r.sound other) mails
all_allowed r follow epoch other [] sound = refl
all_allowed r follow epoch other (mail ∷ mails) sound = λ i.
    allowed_is_sound r follow epoch other mail sound.0 i && all_allowed r follow epoch other mails sound.1 i

-- the pending mails of a lawful list are allowed by a configuration exactly where they are sound for it
pub pending_allowed : (r : Meanings) → Laws r → Follow r → (entries : List Entry) → AreLawful r entries → (other : ℕ)
    → list_all (r.allows other) (pending r entries) ≡ list_all (r.sound other) (pending r entries)
pending_allowed r laws follow entries lawful other =
    all_allowed r follow (epochs entries) other (pending r entries) (reached r laws entries lawful).0.sound
