-- Delay texts: entries between commas, each of the form `attempts * delay unit`, where `attempts *` and the unit may be left out, and blanks round each part are dropped.
use Rattle.std.specs.Prelude.{ℕ, ◌+◌, ◌*◌, ◌==◌, Bool, if◌then◌else◌, List, [], ◌∷◌, take, drop, take_while, position, Option, Some, None, codes}
use Rattle.std.specs.List.{list_any, prefix_len}
use Rattle.std.specs.Char.{is_ascii_digit}
use Rattle.mj_terms.specs.Text.{trimmed, same_text}
use Rattle.mj_delays.specs.Digits.{numeral_of}
use Rattle.mj_delays.specs.Steps.{◌>>=◌}
use Rattle.mj_delays.specs.declared.delays.Entry.{Entry}

-- the name is one of these, without regard to ASCII case
abbrev pub is_one_of : List (List ℕ) → List ℕ → Bool
is_one_of names name = list_any (same_text name) names

abbrev pub milliseconds : List (List ℕ)
milliseconds = [] ∷ codes "ms" ∷ codes "msec" ∷ codes "msecs" ∷ codes "millisecond" ∷ codes "milliseconds" ∷ []

abbrev pub seconds : List (List ℕ)
seconds = codes "s" ∷ codes "sec" ∷ codes "secs" ∷ codes "second" ∷ codes "seconds" ∷ []

abbrev pub minutes : List (List ℕ)
minutes = codes "m" ∷ codes "min" ∷ codes "mins" ∷ codes "minute" ∷ codes "minutes" ∷ []

abbrev pub hours : List (List ℕ)
hours = codes "h" ∷ codes "hour" ∷ codes "hours" ∷ []

abbrev pub days : List (List ℕ)
days = codes "d" ∷ codes "day" ∷ codes "days" ∷ []

-- how many milliseconds a unit has; a delay without a unit is in milliseconds
unfoldable pub unit_of : List ℕ → Option ℕ
unit_of name =
    if is_one_of milliseconds name then Some 1
    else (if is_one_of seconds name then Some 1_000
    else (if is_one_of minutes name then Some 60_000
    else (if is_one_of hours name then Some 3_600_000
    else (if is_one_of days name then Some 86_400_000 else None))))

-- a delay in milliseconds: a numeral, and the unit behind it
unfoldable pub delay_in : List ℕ → Option ℕ
delay_in text = do
  number ← numeral_of (take_while is_ascii_digit text)
  unit ← unit_of (trimmed (drop (prefix_len is_ascii_digit text) text))
  Some (number * unit)

-- attempts: a numeral that is at least 1
unfoldable pub attempts_in : List ℕ → Option ℕ
attempts_in text = do
  number ← numeral_of text
  if number == 0 then None else Some number

abbrev pub is_star : ℕ → Bool
is_star byte = byte == 42

-- an entry by the place of its first star: the attempts stand before the star, and without one there is one attempt
unfoldable pub entry_by : List ℕ → Option ℕ → Option Entry
entry_by text None = do
  delay ← delay_in (trimmed text)
  Some (record { attempts = 1; delay = delay })
entry_by text (Some star) = do
  attempts ← attempts_in (trimmed (take star text))
  delay ← delay_in (trimmed (drop (star + 1) text))
  Some (record { attempts = attempts; delay = delay })

-- the entry that a text between two commas spells, if it spells one
abbrev pub entry_of : List ℕ → Option Entry
entry_of text = entry_by text (position is_star text)
