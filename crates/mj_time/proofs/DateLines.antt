-- The pieces of a date line.
use Rattle.std.proofs.Common.{◌≡◌, ℕ, ◌/◌, ◌%◌, List, [], ◌∷◌, codes}
use Rattle.std.specs.List.{concat}
use Rattle.mj_time.specs.DateText.{line_of, month_name, two_digits, weekday_name}

-- the line that eight pieces make
abbrev pub pieces : (weekday day month century year hour minute second : List ℕ) → List ℕ
pieces weekday day month century year hour minute second =
    concat (weekday ∷ codes ", " ∷ day ∷ codes " " ∷ month ∷ codes " " ∷ century ∷ year ∷ codes " " ∷ hour ∷ codes ":" ∷ minute ∷ codes ":" ∷ second ∷ codes " +0000" ∷ [])

same_pieces : (w w' d d' m m' c c' y y' h h' i i' s s' : List ℕ) → w ≡ w' → d ≡ d' → m ≡ m' → c ≡ c' → y ≡ y' → h ≡ h' → i ≡ i' → s ≡ s' → pieces w d m c y h i s ≡ pieces w' d' m' c' y' h' i' s'
same_pieces w w' d d' m m' c c' y y' h h' i i' s s' e1 e2 e3 e4 e5 e6 e7 e8 = λ k. pieces (e1 k) (e2 k) (e3 k) (e4 k) (e5 k) (e6 k) (e7 k) (e8 k)

-- the line, from its pieces
pub line_from_pieces : (w d m c y h i s : List ℕ) (weekday year month day second : ℕ) → w ≡ weekday_name weekday → d ≡ two_digits day → m ≡ month_name month → c ≡ two_digits (year / 100) → y ≡ two_digits (year % 100) → h ≡ two_digits (second / 3_600) → i ≡ two_digits (second / 60 % 60) → s ≡ two_digits (second % 60) → pieces w d m c y h i s ≡ line_of weekday year month day second
unfolding line_of
line_from_pieces w d m c y h i s weekday year month day second e1 e2 e3 e4 e5 e6 e7 e8 = same_pieces w _ d _ m _ c _ y _ h _ i _ s _ e1 e2 e3 e4 e5 e6 e7 e8
