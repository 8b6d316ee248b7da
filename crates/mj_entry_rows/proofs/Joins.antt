-- Forms one behind the other, joined from the right as they are from the left.
use Rattle.std.proofs.Common.{◌≡◌, ℕ, List, ◌++◌, ◌∙◌, append_assoc}

pub join_4 : (a b c d : List ℕ) → ((a ++ b) ++ c) ++ d ≡ a ++ (b ++ (c ++ d))
join_4 a b c d = append_assoc (a ++ b) c d ∙ append_assoc a b (c ++ d)

pub join_5 : (a b c d e : List ℕ) → (((a ++ b) ++ c) ++ d) ++ e ≡ a ++ (b ++ (c ++ (d ++ e)))
join_5 a b c d e = join_4 (a ++ b) c d e ∙ append_assoc a b (c ++ (d ++ e))

pub join_6 : (a b c d e f : List ℕ) → ((((a ++ b) ++ c) ++ d) ++ e) ++ f ≡ a ++ (b ++ (c ++ (d ++ (e ++ f))))
join_6 a b c d e f = join_5 (a ++ b) c d e f ∙ append_assoc a b (c ++ (d ++ (e ++ f)))
