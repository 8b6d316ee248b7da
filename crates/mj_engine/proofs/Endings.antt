-- Each end of a call is what the top call promises.
use Rattle.std.proofs.Common.{◌≡◌, ◌≤◌, ◌⊎◌, inl, inr, ℕ, ◌||◌, true, false, Bool, List, [], ◌∷◌, length, take, Option, Some, None, IfSome, Ok, Err, refl, sym, ◌∙◌, ap, subst, append-nil}
use Rattle.std.specs.Prelude.{◌==◌}
use Rattle.std.proofs.Math.Seq.{take-length}
use Rattle.std.proofs.Math.Bool.{or-false}
use Rattle.std.proofs.lemmas.Bool.{eqb-true}
use Rattle.std.proofs.lemmas.Option.{IfSome_then}
use Rattle.mj_answers.specs.declared.fault.AnswersKind.{AnswersKind}
use Rattle.mj_config_walk.specs.declared.fault.PlanKind.{PlanKind}
use Rattle.mj_io.specs.Grown.{grown}
use Rattle.mj_report.specs.Faults.{answers_line, config_line, read_line, usage_line}
use Rattle.mj_engine.specs.declared.run.RunFault.{RunFault}
use Rattle.mj_engine.specs.declared.run.RunFault.TheVariants as fault
use Rattle.mj_engine.specs.Run.{Site, output, site_in}
use Rattle.mj_engine.specs.Ends.{ends_of_run, GrowsByFront, GrowsByLine}
use Rattle.mj_engine.specs.Top.{Call, HasRefusedAnswers, IsRefused, Rises, IsFaultLine, Gains, Runs, is_run, is_status, has_begun, is_one_of}

-- nothing more is nothing gained
grown_nothing : (old : Option (List ℕ)) → old ≡ grown old []
grown_nothing None = refl
grown_nothing (Some bytes) = rw (append-nil bytes)

for_all : {X : Type 0} {P : X → Type 0} (o : Option X) → ((x : X) → P x) → IfSome o P
for_all None h = tt
for_all (Some x) h = h x

-- a line and no text
with_line : (call : Call) (status : ℕ) (line : List ℕ) → has_begun status ≡ false → (status ≡ 0 → ⊥) → IsFaultLine call.files.before status line
    → GrowsByLine call.bytes.before call.bytes.after call.sink_faults.before call.sink_faults.after line → Gains call status
with_line call status line early undone is grows = record {
  text = [];
  line = line;
  text_bytes = 0;
  line_bytes = grows.0;
  gained = grows.1;
  is_text = λ e. absurd cc;
  whole_text = λ done. absurd (undone done);
  no_text = λ _. refl;
  is_line = is;
  whole_line = grows.2;
}

no_line : (files : Option (List (List ℕ × List ℕ))) (status : ℕ) → (status ≡ 2 → ⊥) → (status ≡ 3 → ⊥) → (status ≡ 4 → ⊥) → (status ≡ 5 → ⊥) → IsFaultLine files status []
no_line files status a b c d = record { usage = λ e. absurd (a e); config = λ e. absurd (b e); answers = λ e. absurd (c e); read = λ e. absurd (d e); none = λ _. refl }

-- a front of the text and no line
with_text : (call : Call) (status : ℕ) (text : List ℕ) (k : ℕ) → has_begun status ≡ true → IsFaultLine call.files.before status []
    → IfSome call.files.before (λ told. output told ≡ Ok text) → call.bytes.after ≡ grown call.bytes.before (take k text)
    → (status ≡ 0 → take k text ≡ text) → Gains call status
with_text call status text k begun none is e whole = record {
  text = text;
  line = [];
  text_bytes = k;
  line_bytes = 0;
  gained = e ∙ ap (grown call.bytes.before) (sym (append-nil (take k text)));
  is_text = λ _. is;
  whole_text = whole;
  no_text = λ e. absurd cc;
  is_line = none;
  whole_line = λ _. refl;
}

nothing : (call : Call) → call.bytes.after ≡ call.bytes.before → Gains call 12
nothing call e = record {
  text = [];
  line = [];
  text_bytes = 0;
  line_bytes = 0;
  gained = e ∙ grown_nothing call.bytes.before;
  is_text = λ e. absurd cc;
  whole_text = λ _. refl;
  no_text = λ _. refl;
  is_line = no_line call.files.before 12 (λ e. absurd cc) (λ e. absurd cc) (λ e. absurd cc) (λ e. absurd cc);
  whole_line = λ _. refl;
}

-- the ends of a run whose words are taken, one by one
abbrev End : ℕ → Type 0
End status = (status ≡ 0) ⊎ ((status ≡ 3) ⊎ ((status ≡ 4) ⊎ ((status ≡ 5) ⊎ ((status ≡ 6) ⊎ (status ≡ 12)))))

one_or : (k status : ℕ) (b rest : Bool) {T : Type 0} → (k == status) ≡ b → (b || rest) ≡ true → (rest ≡ true → T) → (status ≡ k) ⊎ T
one_or k status true rest e h more = inl (sym (eqb-true k status e))
one_or k status false rest e h more = inr (more h)

last_one : (k status : ℕ) → ((k == status) || false) ≡ true → status ≡ k
last_one k status h = sym (eqb-true k status (sym (or-false (k == status)) ∙ h))

end_of : (status : ℕ) → is_one_of ends_of_run status ≡ true → End status
end_of s h =
    one_or 0 s (0 == s) (is_one_of (3 ∷ 4 ∷ 5 ∷ 6 ∷ 12 ∷ []) s) refl h (λ h.
    one_or 3 s (3 == s) (is_one_of (4 ∷ 5 ∷ 6 ∷ 12 ∷ []) s) refl h (λ h.
    one_or 4 s (4 == s) (is_one_of (5 ∷ 6 ∷ 12 ∷ []) s) refl h (λ h.
    one_or 5 s (5 == s) (is_one_of (6 ∷ 12 ∷ []) s) refl h (λ h.
    one_or 6 s (6 == s) (is_one_of (12 ∷ []) s) refl h (λ h.
    last_one 12 s h)))))

-- a site that is taken and files and a sink that didn't fail leave two ends: done, and want of memory
abbrev Done : Option (List (List ℕ × List ℕ)) → ℕ → Type 0
Done files status = IfSome files (λ told. (site : Site) → site_in told ≡ Ok site → (status ≡ 0) ⊎ (status ≡ 12))

clash : {T : Type 0} (told : List (List ℕ × List ℕ)) (site : Site) (fault : RunFault) → site_in told ≡ Ok site → site_in told ≡ Err fault → T
clash told site fault taken refused = absurd cc

done_of : (files : Option (List (List ℕ × List ℕ))) (status : ℕ) → End status → (status ≡ 3 → IfSome files IsRefused) → (status ≡ 4 → IfSome files HasRefusedAnswers)
    → (status ≡ 5 → ⊥) → (status ≡ 6 → ⊥) → Done files status
done_of None status end refused answers read wrote = tt
done_of (Some told) status (inl e) refused answers read wrote = λ site taken. inl e
done_of (Some told) status (inr (inl e)) refused answers read wrote = λ site taken. (let r = refused e in clash told site (fault.Configuration r.0 r.1 r.2) taken r.3)
done_of (Some told) status (inr (inr (inl e))) refused answers read wrote = λ site taken. (let r = answers e in clash told site (fault.Answers r.0 r.1) taken r.2)
done_of (Some told) status (inr (inr (inr (inl e)))) refused answers read wrote = λ site taken. absurd (read e)
done_of (Some told) status (inr (inr (inr (inr (inl e))))) refused answers read wrote = λ site taken. absurd (wrote e)
done_of (Some told) status (inr (inr (inr (inr (inr e))))) refused answers read wrote = λ site taken. inr e

-- that the configuration is refused, by its fault; and that the table is
refused_by : (files : Option (List (List ℕ × List ℕ))) (kind : PlanKind) (processor step : ℕ)
    → IfSome files (λ told. site_in told ≡ Err (fault.Configuration kind processor step)) → IfSome files IsRefused
refused_by None kind processor step e = tt
refused_by (Some told) kind processor step e = (kind, processor, step, e)

answers_by : (files : Option (List (List ℕ × List ℕ))) (kind : AnswersKind) (row : ℕ)
    → IfSome files (λ told. site_in told ≡ Err (fault.Answers kind row)) → IfSome files HasRefusedAnswers
answers_by None kind row e = tt
answers_by (Some told) kind row e = (kind, row, e)

is_known : (status : ℕ) → End status → is_status status ≡ true
is_known status (inl e) = rw e
is_known status (inr (inl e)) = rw e
is_known status (inr (inr (inl e))) = rw e
is_known status (inr (inr (inr (inl e)))) = rw e
is_known status (inr (inr (inr (inr (inl e))))) = rw e
is_known status (inr (inr (inr (inr (inr e))))) = rw e

not_usage : (status : ℕ) → End status → status ≡ 2 → ⊥
not_usage status (inl e) u = absurd cc
not_usage status (inr (inl e)) u = absurd cc
not_usage status (inr (inr (inl e))) u = absurd cc
not_usage status (inr (inr (inr (inl e)))) u = absurd cc
not_usage status (inr (inr (inr (inr (inl e))))) u = absurd cc
not_usage status (inr (inr (inr (inr (inr e))))) u = absurd cc

-- a run whose words are taken
module _ (call : Call) where
  abbrev Front : (List ℕ → Type 0) → Type 0
  Front wrote = (text : List ℕ) × IfSome call.files.before (λ told. output told ≡ Ok text) × wrote text

  abbrev Line : List ℕ → Type 0
  Line line = GrowsByLine call.bytes.before call.bytes.after call.sink_faults.before call.sink_faults.after line

  abbrev Config : Type 0
  Config = (kind : PlanKind) × (processor : ℕ) × (step : ℕ)
      × IfSome call.files.before (λ told. site_in told ≡ Err (fault.Configuration kind processor step)) × Line (config_line kind processor step)

  abbrev Table : Type 0
  Table = (kind : AnswersKind) × (row : ℕ) × IfSome call.files.before (λ told. site_in told ≡ Err (fault.Answers kind row)) × Line (answers_line kind row)

  gains_at_0 : Front (λ text. call.bytes.after ≡ grown call.bytes.before text) → Gains call 0
  gains_at_0 h =
      let text = h.0 in
      with_text call 0 text (length text) refl (no_line call.files.before 0 (λ e. absurd cc) (λ e. absurd cc) (λ e. absurd cc) (λ e. absurd cc)) h.1
      (rw (take-length text) h.2) (λ _. take-length text)

  gains_at_6 : Front (λ text. GrowsByFront call.bytes.before call.bytes.after text) → Gains call 6
  gains_at_6 h = with_text call 6 h.0 h.2.0 refl (no_line call.files.before 6 (λ e. absurd cc) (λ e. absurd cc) (λ e. absurd cc) (λ e. absurd cc)) h.1 h.2.1 (λ e. absurd cc)

  gains_at_5 : Line read_line → Gains call 5
  gains_at_5 h = with_line call 5 read_line refl (λ e. absurd cc) (record { usage = λ e. absurd cc; config = λ e. absurd cc; answers = λ e. absurd cc; read = λ _. refl; none = λ e. absurd cc }) h

  gains_at_3 : Config → Gains call 3
  gains_at_3 h = with_line call 3 (config_line h.0 h.1 h.2) refl (λ e. absurd cc)
      (record { usage = λ e. absurd cc; config = λ _. (h.0, h.1, h.2, h.3, refl); answers = λ e. absurd cc; read = λ e. absurd cc; none = λ e. absurd cc }) h.4

  gains_at_4 : Table → Gains call 4
  gains_at_4 h = with_line call 4 (answers_line h.0 h.1) refl (λ e. absurd cc)
      (record { usage = λ e. absurd cc; config = λ e. absurd cc; answers = λ _. (h.0, h.1, h.2, refl); read = λ e. absurd cc; none = λ e. absurd cc }) h.3

  at : (k status : ℕ) → status ≡ k → Gains call k → Gains call status
  at k status e gains = subst (Gains call) (sym e) gains

  gains_of : (status : ℕ)
      → (status ≡ 0 → Front (λ text. call.bytes.after ≡ grown call.bytes.before text))
      → (status ≡ 6 → Front (λ text. GrowsByFront call.bytes.before call.bytes.after text))
      → (status ≡ 3 → Config) → (status ≡ 4 → Table) → (status ≡ 5 → Line read_line) → (status ≡ 12 → call.bytes.after ≡ call.bytes.before)
      → End status → Gains call status
  gains_of status report front config table read none (inl e) = at 0 status e (gains_at_0 (report e))
  gains_of status report front config table read none (inr (inl e)) = at 3 status e (gains_at_3 (config e))
  gains_of status report front config table read none (inr (inr (inl e))) = at 4 status e (gains_at_4 (table e))
  gains_of status report front config table read none (inr (inr (inr (inl e)))) = at 5 status e (gains_at_5 (read e))
  gains_of status report front config table read none (inr (inr (inr (inr (inl e))))) = at 6 status e (gains_at_6 (front e))
  gains_of status report front config table read none (inr (inr (inr (inr (inr e))))) = at 12 status e (nothing call (none e))

  pub run_ends : (status : ℕ) → is_run call.words ≡ true → is_one_of ends_of_run status ≡ true
      → IfSome call.files.before (λ told. IsRefused told → (status ≡ 3) ⊎ ((status ≡ 5) ⊎ (status ≡ 12)))
      → IfSome call.files.before (λ told. HasRefusedAnswers told → (status ≡ 4) ⊎ ((status ≡ 5) ⊎ (status ≡ 12)))
      → (status ≡ 5 → Rises call.file_faults) → (status ≡ 6 → Rises call.sink_faults)
      → (status ≡ 0 → Front (λ text. call.bytes.after ≡ grown call.bytes.before text))
      → (status ≡ 6 → Front (λ text. GrowsByFront call.bytes.before call.bytes.after text))
      → (status ≡ 3 → Config) → (status ≡ 4 → Table) → (status ≡ 5 → Line read_line) → (status ≡ 12 → call.bytes.after ≡ call.bytes.before)
      → call.files.after ≡ call.files.before → call.file_faults.before ≤ call.file_faults.after → call.sink_faults.before ≤ call.sink_faults.after
      → Runs call status
  run_ends status is known configuration answers read write report front config table read_text none same files_later sink_later =
      let end = end_of status known in
      let refused : status ≡ 3 → IfSome call.files.before IsRefused = λ e. (let h = config e in refused_by call.files.before h.0 h.1 h.2 h.3) in
      let refused_answers : status ≡ 4 → IfSome call.files.before HasRefusedAnswers = λ e. (let h = table e in answers_by call.files.before h.0 h.1 h.2) in
      record {
        known = is_known status end;
        words = (λ e. absurd (not_usage status end e), λ e. absurd cc);
        refused = refused;
        configuration = IfSome_then call.files.before configuration (λ told h refused _. h refused);
        refused_answers = refused_answers;
        answers = IfSome_then call.files.before answers (λ told h refused _. h refused);
        read = read;
        write = write;
        done = λ no_read no_write _. done_of call.files.before status end refused refused_answers (λ e. no_read (read e)) (λ e. no_write (write e));
        gains = gains_of status report front config table read_text none end;
        same_files = same;
        files_later = files_later;
        sink_later = sink_later;
      }

-- words that are refused
pub usage_ends : (call : Call) → is_run call.words ≡ false → GrowsByLine call.bytes.before call.bytes.after call.sink_faults.before call.sink_faults.after usage_line
    → call.files.after ≡ call.files.before → call.file_faults.before ≤ call.file_faults.after → call.sink_faults.before ≤ call.sink_faults.after
    → Runs call 2
usage_ends call is grows same files_later sink_later = record {
  known = refl;
  words = (λ _. is, λ _. refl);
  refused = λ e. absurd cc;
  configuration = for_all call.files.before (λ told refused taken. absurd cc);
  refused_answers = λ e. absurd cc;
  answers = for_all call.files.before (λ told refused taken. absurd cc);
  read = λ e. absurd cc;
  write = λ e. absurd cc;
  done = λ no_read no_write taken. for_all call.files.before (λ told site e. absurd cc);
  gains = with_line call 2 usage_line refl (λ e. absurd cc)
      (record { usage = λ _. refl; config = λ e. absurd cc; answers = λ e. absurd cc; read = λ e. absurd cc; none = λ e. absurd cc }) grows;
  same_files = same;
  files_later = files_later;
  sink_later = sink_later;
}
