-- What the top call answers, and what standard output gains.
use Rattle.std.specs.Prelude.{◌≡◌, ◌⊎◌, ◌↔◌, ◌≤◌, ℕ, Bool, true, false, ◌==◌, List, [], ◌∷◌, ◌++◌, codes, take, Option, IfSome, Ok, Err, String, string_bytes}
use Rattle.std.specs.List.{list_any}
use Rattle.std.specs.Str.{bytes_eq}
use Rattle.std.specs.declared.alloc.Global.{Global}
use Rattle.mj_terms.specs.Causes.{Rose}
use Rattle.mj_io.specs.Grown.{grown}
use Rattle.mj_answers.specs.declared.fault.AnswersKind.{AnswersKind}
use Rattle.mj_config_walk.specs.declared.fault.PlanKind.{PlanKind}
use Rattle.mj_engine.specs.declared.run.RunFault.TheVariants.{Configuration, Answers}
use Rattle.mj_engine.specs.Run.{Site, output, site_in}
use Rattle.mj_report.specs.Faults.{answers_line, config_line, read_line, usage_line}

-- the words are the one word `run`
abbrev pub is_run : List (String Global) → Bool
is_run [] = false
is_run (word ∷ []) = bytes_eq (string_bytes word) (codes "run")
is_run (word ∷ other ∷ more) = false

-- done, refused words, a missing or refused configuration, a refused table of answers, a failed read, a failed write, want of
-- memory
abbrev pub statuses : List ℕ
statuses = 0 ∷ 2 ∷ 3 ∷ 4 ∷ 5 ∷ 6 ∷ 12 ∷ []

abbrev pub is_one_of : List ℕ → ℕ → Bool
is_one_of known status = list_any (λ one. one == status) known

abbrev pub is_status : ℕ → Bool
is_status status = is_one_of statuses status

-- the report began before the call ended with this status
abbrev pub has_begun : ℕ → Bool
has_begun status = is_one_of (0 ∷ 6 ∷ []) status

-- one line says why the call ended with this status
abbrev pub says_why : ℕ → Bool
says_why status = is_one_of (2 ∷ 3 ∷ 4 ∷ 5 ∷ []) status

-- what something was before a call, and what it is after it
pub record Change (T : Type 0) : Type 0 where
  pub before : T
  pub after : T

-- What the caller of the top call sees of it: the words, the files and the sink's bytes where they are told, and the counts
-- of faults of both.
pub record Call : Type 0 where
  pub words : List (String Global)
  pub files : Change (Option (List (List ℕ × List ℕ)))
  pub file_faults : Change ℕ
  pub sink_faults : Change ℕ
  pub bytes : Change (Option (List ℕ))

-- the count rose in the call
abbrev pub Rises : Change ℕ → Type 0
Rises count = Rose count.before count.after

-- the configuration of these files is missing or refused
abbrev pub IsRefused : List (List ℕ × List ℕ) → Type 0
IsRefused files = (kind : PlanKind) × (processor : ℕ) × (step : ℕ) × (site_in files ≡ Err (Configuration kind processor step))

-- their configuration is taken, and their table of answers is refused
abbrev pub HasRefusedAnswers : List (List ℕ × List ℕ) → Type 0
HasRefusedAnswers files = (kind : AnswersKind) × (row : ℕ) × (site_in files ≡ Err (Answers kind row))

-- the line that says why the call ended with this status, and no line with any other
pub record IsFaultLine (files : Option (List (List ℕ × List ℕ))) (status : ℕ) (line : List ℕ) : Type 0 where
  pub usage : status ≡ 2 → line ≡ usage_line
  pub config : status ≡ 3 → (kind : PlanKind) × (processor : ℕ) × (step : ℕ)
      × IfSome files (λ told. site_in told ≡ Err (Configuration kind processor step)) × (line ≡ config_line kind processor step)
  pub answers : status ≡ 4 → (kind : AnswersKind) × (row : ℕ)
      × IfSome files (λ told. site_in told ≡ Err (Answers kind row)) × (line ≡ answers_line kind row)
  pub read : status ≡ 5 → line ≡ read_line
  pub none : says_why status ≡ false → line ≡ []

-- The sink gained a front of the command's text, which is whole at 0 and empty before the output began, and then a front
-- of the fault line, which is whole unless the sink's count rose.
pub record Gains (call : Call) (status : ℕ) : Type 0 where
  pub text : List ℕ
  pub line : List ℕ
  pub text_bytes : ℕ
  pub line_bytes : ℕ
  pub gained : call.bytes.after ≡ grown call.bytes.before (take text_bytes text ++ take line_bytes line)
  pub is_text : has_begun status ≡ true → IfSome call.files.before (λ told. output told ≡ Ok text)
  pub whole_text : status ≡ 0 → take text_bytes text ≡ text
  pub no_text : has_begun status ≡ false → take text_bytes text ≡ []
  pub is_line : IsFaultLine call.files.before status line
  pub whole_line : (Rises call.sink_faults → ⊥) → take line_bytes line ≡ line

-- What the top call promises: which status comes when, what the sink gained, and what stays as it was. Want of memory alone,
-- 12, is free.
pub record Runs (call : Call) (status : ℕ) : Type 0 where
  pub known : is_status status ≡ true
  -- 2 exactly where the words are refused
  pub words : (status ≡ 2) ↔ (is_run call.words ≡ false)
  -- 3 only where the configuration is missing or refused, and always there, unless its file can't be read
  pub refused : status ≡ 3 → IfSome call.files.before IsRefused
  pub configuration : IfSome call.files.before (λ told. IsRefused told → is_run call.words ≡ true → (status ≡ 3) ⊎ ((status ≡ 5) ⊎ (status ≡ 12)))
  -- 4 only where the configuration is taken and the table of answers is refused, and always there, unless a file can't be read
  pub refused_answers : status ≡ 4 → IfSome call.files.before HasRefusedAnswers
  pub answers : IfSome call.files.before (λ told. HasRefusedAnswers told → is_run call.words ≡ true → (status ≡ 4) ⊎ ((status ≡ 5) ⊎ (status ≡ 12)))
  -- 5 and 6 only where the files and the sink failed in this call
  pub read : status ≡ 5 → Rises call.file_faults
  pub write : status ≡ 6 → Rises call.sink_faults
  -- so words and a site that are taken end with 0, or for want of memory, where neither failed
  pub done : (Rises call.file_faults → ⊥) → (Rises call.sink_faults → ⊥) → is_run call.words ≡ true
      → IfSome call.files.before (λ told. (site : Site) → site_in told ≡ Ok site → (status ≡ 0) ⊎ (status ≡ 12))
  pub gains : Gains call status
  -- what the files tell stays, and no count falls
  pub same_files : call.files.after ≡ call.files.before
  pub files_later : call.file_faults.before ≤ call.file_faults.after
  pub sink_later : call.sink_faults.before ≤ call.sink_faults.after
