-- Readings that end at their first fault, and what a call answers of them.
use Rattle.std.specs.Prelude.{◌≡◌, Option, Some, None, Result, Ok, Err}

-- one reading after the other: the first fault is the fault of the whole
infixl 10 ◌>>=◌
abbrev pub ◌>>=◌ : {A B E : Type 0} → Result A E → (A → Result B E) → Result B E
(Ok x) >>= next = next x
(Err fault) >>= next = Err fault

-- what was said is the fault, where one is told
abbrev pub IsFault : {Y F : Type 0} → Option F → Result Y F → Type 0
IsFault None said = Unit {0}
IsFault (Some fault) said = said ≡ Err fault

-- What a call answered, seen so, is what was said, or the fault that is told of its own. It tells none of a fault that may
-- come at any time, such as want of memory.
abbrev pub GivesBy : {X Y E F : Type 0} → (E → Option F) → (X → Y) → Result X E → Result Y F → Type 0
GivesBy told seen (Ok x) said = said ≡ Ok (seen x)
GivesBy told seen (Err fault) said = IsFault (told fault) said
