-- What a run writes, and how its report grows name by name.
use Rattle.std.specs.Prelude.{ℕ, ◌+◌, if◌then◌else◌, List, [], ◌∷◌, ◌++◌, codes, Option, Some, None, Result, Ok, Err}
use Rattle.std.specs.List.{flat_map}
use Rattle.mj_terms.specs.Answers.{◌>>=◌, GivesBy}
use Rattle.mj_io.specs.Folder.{file_at}
use Rattle.mj_mail.specs.declared.mail.NewMail.{NewMail}
use Rattle.mj_mail.specs.Mail.{first}
use Rattle.mj_answers.specs.declared.fault.AnswersFault.{AnswersFault}
use Rattle.mj_answers.specs.declared.fault.AnswersFault.TheVariants as table_fault
use Rattle.mj_answers.specs.declared.row.Row.{Row}
use Rattle.mj_answers.specs.Fitting.{reply_for}
use Rattle.mj_config_walk.specs.declared.fault.PlanFault.{PlanFault}
use Rattle.mj_config_walk.specs.declared.fault.PlanFault.TheVariants as config
use Rattle.mj_plan.specs.declared.plan.Plan.{Plan}
use Rattle.mj_report.specs.declared.files.Refusal.{Refusal}
use Rattle.mj_engine.specs.declared.report.Report.{Report}
use Rattle.mj_engine.specs.declared.run.RunFault.{RunFault}
use Rattle.mj_engine.specs.declared.run.RunFault.TheVariants.{Configuration, Answers, Read, Memory}
use Rattle.mj_engine.specs.Config.{configuration, table}
use Rattle.mj_engine.specs.Intake.{is_mail_name, judged, fresh, refused}
use Rattle.mj_container.specs.Running.{fate, fates}
use Rattle.mj_step.specs.declared.james_rules.JamesRules.{JamesRules}
use Rattle.mj_report.specs.Facts.{fact_line}
use Rattle.mj_report.specs.Files.{refused_line}

-- the plan of the configuration file, or its fault
abbrev pub plan_in : List (List ℕ × List ℕ) → Result Plan PlanFault
plan_in files = configuration (file_at (codes "conf/mailetcontainer.toml") files)

-- the rows of the table of answers, or its fault
abbrev pub answers_in : List (List ℕ × List ℕ) → Result (List Row) AnswersFault
answers_in files = table (file_at (codes "conf/answers.toml") files)

-- the same where a run says why it ends
abbrev pub plan_or : Result Plan PlanFault → Result Plan RunFault
plan_or (Ok plan) = Ok plan
plan_or (Err (config.Refused kind processor step)) = Err (Configuration kind processor step)
plan_or (Err config.Memory) = Err Memory

abbrev pub rows_or : Result (List Row) AnswersFault → Result (List Row) RunFault
rows_or (Ok rows) = Ok rows
rows_or (Err (table_fault.Refused kind row)) = Err (Answers kind row)
rows_or (Err table_fault.Memory) = Err Memory

-- a site: its plan, and what remote hosts answer
pub record Site : Type 0 where
  pub plan : Plan
  pub rows : List Row

-- the site of these files; the configuration comes before the table
abbrev pub site_in : List (List ℕ × List ℕ) → Result Site RunFault
site_in files = do
  plan ← plan_or (plan_in files)
  rows ← rows_or (answers_in files)
  Ok (record { plan = plan; rows = rows })

abbrev pub site_of : JamesRules → Site
site_of rules = record { plan = rules.plan; rows = rules.answers }

-- The report: the line of each fact of the meaning of the accepted mails, in the order of places, and then the line of
-- each refused file.
abbrev pub report : Site → List (List ℕ × List ℕ) → List ℕ
report site files = flat_map fact_line (fates site.plan (reply_for site.rows) (fresh files)) ++ flat_map refused_line (refused files)

-- what a run writes, or the fault of its configuration or of its table
abbrev pub output_by : List (List ℕ × List ℕ) → Result Site RunFault → Result (List ℕ) RunFault
output_by files (Ok site) = Ok (report site files)
output_by files (Err fault) = Err fault

abbrev pub output : List (List ℕ × List ℕ) → Result (List ℕ) RunFault
output files = output_by files (site_in files)

-- a fault that the files say, which their failing and memory have no part in
abbrev pub told : RunFault → Option RunFault
told Read = None
told Memory = None
told fault = Some fault

-- what was returned is that, unless the files failed or memory ran out
abbrev pub GivesOutput : Result (List ℕ) RunFault → Result (List ℕ) RunFault → Type 0
GivesOutput answer said = GivesBy told (λ text. text) answer said

-- and the same of the rules, and of their parts
abbrev pub GivesRules : Result JamesRules RunFault → Result Site RunFault → Type 0
GivesRules answer said = GivesBy told site_of answer said

abbrev pub GivesPlan : Result Plan RunFault → Result Plan RunFault → Type 0
GivesPlan answer said = GivesBy told (λ plan. plan) answer said

abbrev pub GivesAnswers : Result (List Row) RunFault → Result (List Row) RunFault → Type 0
GivesAnswers answer said = GivesBy told (λ rows. rows) answer said

-- a report without lines
abbrev pub empty_report : Report
empty_report = record { facts = []; refused = []; accepted = 0 }

-- the report with what was found under a name
abbrev pub with_found : Site → List ℕ → Report → Option (Result NewMail Refusal) → Report
with_found site name report None = report
with_found site name report (Some (Ok mail)) = record report {
  facts = report.facts ++ flat_map fact_line (fate site.plan (reply_for site.rows) (first site.plan.start (report.accepted + 1) mail));
  accepted = report.accepted + 1;
}
with_found site name report (Some (Err refusal)) = record report { refused = report.refused ++ refused_line (name, refusal) }

-- the report with a name of the folder
abbrev pub with_name : Site → List (List ℕ × List ℕ) → Report → List ℕ → Report
with_name site files report name = if is_mail_name name then with_found site name report (judged files name) else report

-- the report with these names
abbrev pub with_names : Site → List (List ℕ × List ℕ) → List (List ℕ) → Report → Report
with_names site files [] report = report
with_names site files (name ∷ names) report = with_names site files names (with_name site files report name)
