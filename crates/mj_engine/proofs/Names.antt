-- The report of all names is the report of the mails and the refused files.
use Rattle.std.proofs.Common.{◌≡◌, ℕ, ◌+◌, Bool, true, false, cond, List, [], ◌∷◌, ◌++◌, drop, Option, Some, None, IfSome, Result, Ok, Err, filter, refl, sym, ap, ◌∙◌, append_assoc, append-nil}
use Rattle.std.specs.List.{flat_map, cons_option, enumerate_from, slice_get}
use Rattle.std.proofs.lemmas.Grind.{flat_map-append}
use Rattle.std.proofs.lemmas.List.{drop_more}
use Rattle.std.proofs.lemmas.Option.{slice_get_within, get_or_from_slice_get}
use Rattle.mj_io.specs.Folder.{names_in}
use Rattle.mj_mail.specs.declared.mail.NewMail.{NewMail}
use Rattle.mj_mail.specs.Mail.{first}
use Rattle.mj_answers.specs.Fitting.{reply_for}
use Rattle.mj_report.specs.declared.files.Refusal.{Refusal}
use Rattle.mj_engine.specs.declared.report.Report.{Report}
use Rattle.mj_engine.specs.declared.run.RunFault.{RunFault}
use Rattle.mj_engine.specs.Intake.{folder, is_mail_name, judged, found_mail, found_refusal, mails_of, refusals_of}
use Rattle.mj_container.specs.Running.{fate, fates}
use Rattle.mj_report.specs.Facts.{fact_line}
use Rattle.mj_report.specs.Files.{refused_line}
use Rattle.mj_engine.specs.Run.{Site, with_found, with_name, with_names, empty_report, report as report_of, site_in, output, output_by}

-- what follows from two clauses on what an object tells
pub IfSome_both : {X : Type 0} (o : Option X) (P Q R : X → Type 0) → IfSome o P → IfSome o Q → ((x : X) → P x → Q x → R x) → IfSome o R
IfSome_both None P Q R p q f = tt
IfSome_both (Some x) P Q R p q f = f x p q

pub IfSome_then : {X : Type 0} (o : Option X) (P Q : X → Type 0) → IfSome o P → ((x : X) → P x → Q x) → IfSome o Q
IfSome_then None P Q p f = tt
IfSome_then (Some x) P Q p f = f x p

-- a list from the place of an item on
pub drop_at : {X : Type 0} (xs : List X) (k : ℕ) (x : X) → slice_get xs k ≡ Some x → drop k xs ≡ x ∷ drop (k + 1) xs
drop_at xs k x e = drop_more xs k x (slice_get_within xs k x e) ∙ ap (λ y. y ∷ drop (k + 1) xs) (get_or_from_slice_get xs k x x e)

module _ (site : Site) (files : List (List ℕ × List ℕ)) where
  -- the lines of mails that are numbered from n on
  abbrev lines_from : ℕ → List NewMail → List ℕ
  lines_from n mails = flat_map fact_line (fates site.plan (reply_for site.rows) (enumerate_from n mails))

  found_facts : (name : List ℕ) (found : Option (Result NewMail Refusal)) (mails : List NewMail) (report : Report)
      → (with_found site name report found).facts ++ lines_from ((with_found site name report found).accepted + 1) mails
      ≡ report.facts ++ lines_from (report.accepted + 1) (cons_option (found_mail found) mails)
  found_facts name None mails report = refl
  found_facts name (Some (Err refusal)) mails report = refl
  found_facts name (Some (Ok mail)) mails report =
      let here = fate site.plan (reply_for site.rows) (first site.plan.start (report.accepted + 1) mail) in
      let rest = fates site.plan (reply_for site.rows) (enumerate_from (report.accepted + 1 + 1) mails) in
      append_assoc report.facts (flat_map fact_line here) (flat_map fact_line rest)
      ∙ ap (λ lines. report.facts ++ lines) (sym (flat_map-append fact_line here rest))

  name_facts : (name : List ℕ) (names : List (List ℕ)) (report : Report) (b : Bool)
      → (cond b (with_found site name report (judged files name)) report).facts ++ lines_from ((cond b (with_found site name report (judged files name)) report).accepted + 1) (mails_of files names)
      ≡ report.facts ++ lines_from (report.accepted + 1) (mails_of files (cond b (name ∷ names) names))
  name_facts name names report true = found_facts name (judged files name) (mails_of files names) report
  name_facts name names report false = refl

  pub facts_of_names : (names : List (List ℕ)) (report : Report)
      → (with_names site files names report).facts ≡ report.facts ++ lines_from (report.accepted + 1) (mails_of files (filter is_mail_name names))
  facts_of_names [] report = sym (append-nil report.facts)
  facts_of_names (name ∷ names) report =
      facts_of_names names (with_name site files report name) ∙ name_facts name (filter is_mail_name names) report (is_mail_name name)

  found_refused : (name : List ℕ) (found : Option (Result NewMail Refusal)) (refusals : List (List ℕ × Refusal)) (report : Report)
      → (with_found site name report found).refused ++ flat_map refused_line refusals
      ≡ report.refused ++ flat_map refused_line (cons_option (found_refusal name found) refusals)
  found_refused name None refusals report = refl
  found_refused name (Some (Ok mail)) refusals report = refl
  found_refused name (Some (Err refusal)) refusals report = append_assoc report.refused (refused_line (name, refusal)) (flat_map refused_line refusals)

  name_refused : (name : List ℕ) (names : List (List ℕ)) (report : Report) (b : Bool)
      → (cond b (with_found site name report (judged files name)) report).refused ++ flat_map refused_line (refusals_of files names)
      ≡ report.refused ++ flat_map refused_line (refusals_of files (cond b (name ∷ names) names))
  name_refused name names report true = found_refused name (judged files name) (refusals_of files names) report
  name_refused name names report false = refl

  pub refused_of_names : (names : List (List ℕ)) (report : Report)
      → (with_names site files names report).refused ≡ report.refused ++ flat_map refused_line (refusals_of files (filter is_mail_name names))
  refused_of_names [] report = sym (append-nil report.refused)
  refused_of_names (name ∷ names) report =
      refused_of_names names (with_name site files report name) ∙ name_refused name (filter is_mail_name names) report (is_mail_name name)

  -- one more name
  pub with_names-next : (names : List (List ℕ)) (k : ℕ) (name : List ℕ) (report : Report) → slice_get names k ≡ Some name
      → with_names site files (drop (k + 1) names) (with_name site files report name) ≡ with_names site files (drop k names) report
  with_names-next names k name report e = sym (ap (λ rest. with_names site files rest report) (drop_at names k name e))

  -- the report of the files
  pub report_is : (found : Report) (text : List ℕ) → found ≡ with_names site files (names_in folder files) empty_report → text ≡ found.facts ++ found.refused → report_of site files ≡ text
  report_is found text named written =
      let facts : found.facts ≡ lines_from 1 (mails_of files (filter is_mail_name (names_in folder files))) = ap (λ r. r.facts) named ∙ facts_of_names (names_in folder files) empty_report in
      let others : found.refused ≡ flat_map refused_line (refusals_of files (filter is_mail_name (names_in folder files))) = ap (λ r. r.refused) named ∙ refused_of_names (names_in folder files) empty_report in
      sym (written ∙ rw (facts, others))

refused_by : (files : List (List ℕ × List ℕ)) (site : Result Site RunFault) (fault : RunFault) → output_by files site ≡ Err fault → site ≡ Err fault
refused_by files (Ok site) fault e = absurd cc
refused_by files (Err other) fault e = let same : other ≡ fault = cc in ap (λ f. Err f) same

-- no output comes of a site that is refused alone
pub refused_site : (files : List (List ℕ × List ℕ)) (fault : RunFault) → output files ≡ Err fault → site_in files ≡ Err fault
refused_site files fault e = refused_by files (site_in files) fault e
