-- Where the rows of a table stand, by the keys that they have.
use Rattle.std.specs.Prelude.{◌≡◌, refl, ℕ, min, nat_eq, ◌&&◌, ◌||◌, ◌++◌, Bool, List, Option, None, Some}
use Rattle.std.specs.Borrow.{Bor}
use Rattle.std.specs.Hash as fed
use Rattle.std.specs.List.{position}
use Rattle.std.specs.Option.{option_copied, option_eq}
use Rattle.std.specs.Str.{str_to_ascii_lowercase}
use Rattle.indexmap.specs.IndexMap.{IndexMap, get}
use Rattle.mj_terms.specs.Text.{same_text}
use Rattle.mj_address.specs.Grammar.{Mailbox}
use Rattle.mj_address.specs.Same.{same_address}
use Rattle.mj_mail.specs.Reply.{is_reply}
use Rattle.mj_answers.specs.declared.keys.Asked.{Asked}
use Rattle.mj_answers.specs.declared.keys.Keys.{Keys}
use Rattle.mj_answers.specs.declared.row.Row.{Row}

-- two have the same keys, which are alike without regard to case
abbrev pub same_keys : Keys → Keys → Bool
same_keys a b = option_eq same_text a.host b.host && (option_eq same_address a.recipient b.recipient && option_eq nat_eq a.attempt b.attempt)

-- the keys that borrowed ones are
abbrev pub keys_asked : Asked → Keys
keys_asked asked = record { host = option_copied asked.host; recipient = option_copied asked.recipient; attempt = asked.attempt }

abbrev pub keys_of : Row → Keys
keys_of row = record { host = row.host; recipient = row.recipient; attempt = row.attempt }

-- the row has exactly these keys
abbrev pub is_at : Keys → Row → Bool
is_at keys row = same_keys keys (keys_of row)

-- A map of places answers for the rows: it has the place of the first row with the keys that are looked for, counted from 0, and nothing
-- where there is none.
abbrev pub HasFirstPlaces : {S : Type 0} → List Row → IndexMap Keys ℕ S → Type 0
HasFirstPlaces rows places = (wanted : Keys) → get same_keys places wanted ≡ position (is_at wanted) rows

-- the lesser of two places, or the one that is there
abbrev pub earlier : Option ℕ → Option ℕ → Option ℕ
earlier None other = other
earlier (Some a) None = Some a
earlier (Some a) (Some b) = Some (min a b)

-- what is fed to a hasher of a domain, of an address and of keys
abbrev pub domain_fed : List ℕ → fed.HashWrites
domain_fed domain = fed.slice fed.u8 (str_to_ascii_lowercase domain)

abbrev pub address_fed : Mailbox → fed.HashWrites
address_fed address = domain_fed address.0 ++ domain_fed address.1

-- as much is fed of what is borrowed
copied_fed : {X : Type 0} (feed : X → fed.HashWrites) (x : Option (Bor X)) → fed.option (λ r. feed r.now) x ≡ fed.option feed (option_copied x)
copied_fed feed None = refl
copied_fed feed (Some r) = refl

pub asked_fed : (asked : Asked) →
    fed.option (λ r. domain_fed r.now) asked.host ++ (fed.option (λ r. address_fed r.now) asked.recipient ++ fed.option fed.u32 asked.attempt)
    ≡ fed.option domain_fed (keys_asked asked).host ++ (fed.option address_fed (keys_asked asked).recipient ++ fed.option fed.u32 (keys_asked asked).attempt)
asked_fed asked = λ i. copied_fed domain_fed asked.host i ++ (copied_fed address_fed asked.recipient i ++ fed.option fed.u32 asked.attempt)

-- ---- The rows that a look-up wants

-- the rows with exactly these keys, and this attempt or none
abbrev pub is_for_attempt : Option (List ℕ) → Option Mailbox → ℕ → Row → Bool
is_for_attempt host recipient attempt row =
    is_at (record { host = host; recipient = recipient; attempt = Some attempt }) row
    || is_at (record { host = host; recipient = recipient; attempt = None }) row

-- the same with this recipient or none
abbrev pub is_for_recipient : Option (List ℕ) → Mailbox → ℕ → Row → Bool
is_for_recipient host recipient attempt row = is_for_attempt host (Some recipient) attempt row || is_for_attempt host None attempt row

-- the reply of the row has the form of replies
abbrev pub has_reply : Row → Bool
has_reply row = is_reply row.reply
