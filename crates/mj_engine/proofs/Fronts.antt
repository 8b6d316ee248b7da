-- Reading one byte more than a file may have says as much as reading it all.
use Rattle.std.proofs.Common.{◌≡◌, ℕ, zero, suc, ◌<◌, true, List, [], ◌∷◌, length, take, get_or, Option, Some, None, option_map, refl, ap, arith, Err}
use Rattle.std.specs.List.{list_all}
use Rattle.std.specs.Str.{IsUtf8, is_utf8}
use Rattle.std.proofs.lemmas.Bool.{and_parts}
use Rattle.std.proofs.lemmas.Str.{IsUtf8-from_is_utf8}
use Rattle.mj_terms.specs.Limits.{within-take}
use Rattle.mj_mailfile.specs.MailFile.{mail_file-take}
use Rattle.mj_answers.specs.declared.fault.AnswersFault.TheVariants as answers_fault
use Rattle.mj_answers.specs.declared.fault.AnswersKind.TheVariants as answers
use Rattle.mj_answers.specs.Reading.{answers_of, document as answers_document, table_of_text}
use Rattle.mj_config_walk.specs.Walk.{document, plan, plan_of_text}
use Rattle.mj_config_walk.specs.declared.fault.PlanFault.TheVariants.{Refused}
use Rattle.mj_config_walk.specs.declared.fault.PlanKind.TheVariants.{TooLarge}
use Rattle.mj_engine.specs.Config.{answers_room, configuration, plan_room, table}
use Rattle.mj_engine.specs.Intake.{as_refusal, mail_in, mail_room}

pub mail_of_front : (room : ℕ) (file : Option (List ℕ)) → room ≡ mail_room → mail_in (option_map (take room) file) ≡ mail_in file
unfolding mail_room
mail_of_front room None e = refl
mail_of_front room (Some bytes) e = ap (λ mail. Some (as_refusal mail)) (mail_file-take room bytes e)

pub plan_of_front : (room : ℕ) (file : Option (List ℕ)) → room ≡ plan_room → configuration (option_map (take room) file) ≡ configuration file
unfolding plan plan_room
plan_of_front room None e = refl
plan_of_front room (Some bytes) e = within-take 1_048_576 room (Err (Refused TooLarge 0 0)) (λ text. plan_of_text (document text)) bytes e

pub answers_of_front : (room : ℕ) (file : Option (List ℕ)) → room ≡ answers_room → table (option_map (take room) file) ≡ table file
unfolding answers_of answers_room
answers_of_front room None e = refl
answers_of_front room (Some bytes) e =
    within-take 1_048_576 room (Err (answers_fault.Refused answers.TooLarge 0)) (λ text. table_of_text (answers_document text)) bytes e

-- each of these names is a text
pub text_at : (names : List (List ℕ)) (k : ℕ) (d : List ℕ) → list_all is_utf8 names ≡ true → k < length names → IsUtf8 (get_or names k d)
text_at [] k d all within = absurd (omega arith)
text_at (name ∷ names) zero d all within = IsUtf8-from_is_utf8 name (and_parts (is_utf8 name) (list_all is_utf8 names) all).0
text_at (name ∷ names) (suc k) d all within = text_at names k d (and_parts (is_utf8 name) (list_all is_utf8 names) all).1 (omega arith)
