-- From reports under a job's own grammar to those under its nested one, where its text has nested alternatives.
use Rattle.std.proofs.Common.{◌↔◌, ℕ, zero, suc, ◌+◌, List, [], ◌∷◌, take, Option, None, inl, inr, sym, subst}
use Rattle.adp_model.specs.declared.grammar.Grammar.{Grammar}
use Rattle.adp_model.specs.declared.job.Job.{Job}
use Rattle.adp_model.specs.Checks.{IsChecked}
use Rattle.adp_model.specs.PosedProblem.{PosedProblem}
use Rattle.nested_jobs.specs.NestedJob.{IsNestedText, hidden_in}
use Rattle.verdicts.specs.declared.command.Mode.{Mode}
use Rattle.verdicts.specs.Command.{Command}
use Rattle.verdicts.specs.WordReport.{HidesAlternatives}
use Rattle.verdicts.specs.Verdict.{AreReports, IsReportWith}
use Rattle.evaluators.specs.declared.finished.RunNote.{RunNote}
use Rattle.adp_main.specs.declared.checking.CheckedJob.{CheckedJob}
use Rattle.adp_main.specs.declared.status.Status.{Status}
use Rattle.verdicts.specs.Posed.{posed_word, posed_words}
use Rattle.adp_main.specs.Reporting.{IsCheckedJob}
use Rattle.adp_main.specs.RunNotes.{AreNoted, AreRunsOf, IsRunOf}

-- the rules that a text hides are nested alternatives
abbrev pub TextsHide : Type 0
TextsHide = (bytes : List ℕ) (job : Job) → IsNestedText bytes job → HidesAlternatives (hidden_in bytes) job.grammar

-- a nested report is one under the plain grammar
abbrev pub ReportsArePlain : Type 0
ReportsArePlain =
    (p : PosedProblem) (least : List ℕ) (greatest : List (Option ℕ)) (ranks : List ℕ)
    → IsChecked p.grammar p.algebra least greatest ranks → (hidden : Option ℕ) → HidesAlternatives hidden p.grammar
    → (mode : Mode) (command : Command) (number : ℕ) (wins report : List ℕ)
    → IsReportWith mode command None number p wins report ↔ IsReportWith mode command hidden number p wins report

-- the grammar has sizes and ranks under the algebra
abbrev pub HasPassed : Grammar → ℕ → Type 0
HasPassed grammar algebra =
    (least : List ℕ) × (greatest : List (Option ℕ)) × (ranks : List ℕ) × IsChecked grammar algebra least greatest ranks

-- what was reported of the job under its own grammar was so under its nested one
pub record TellsNested (command : Command) (bytes : List ℕ) (job : CheckedJob) : Type 0 where
  pub reports : (reports : List (List ℕ))
      → AreReports command None job.checked.grammar job.checked.algebra 1 job.words reports
      → AreReports command (hidden_in bytes) job.checked.grammar job.checked.algebra 1 job.words reports
  pub noted : (behind : List (List ℕ)) (status : Status) (old new : Option (List RunNote)) (held held' : Option (List ℕ))
      → AreNoted command None (posed_words job.checked.grammar job.checked.algebra job.words) behind status old new held
      held'
      → AreNoted command (hidden_in bytes) (posed_words job.checked.grammar job.checked.algebra job.words) behind status
      old new held held'

module _ (plain : ReportsArePlain) (command : Command) (grammar : Grammar) (algebra : ℕ)
    (passed : HasPassed grammar algebra) (hidden : Option ℕ) (hides : HidesAlternatives hidden grammar) where
  in_mode : (mode : Mode) (number : ℕ) (word wins report : List ℕ)
      → IsReportWith mode command None number (posed_word grammar algebra word) wins report
      → IsReportWith mode command hidden number (posed_word grammar algebra word) wins report
  in_mode mode number word wins report =
      (plain (posed_word grammar algebra word) passed.0 passed.1 passed.2 passed.3 hidden hides mode command number
      wins report).0

  nested_reports : (number : ℕ) (words reports : List (List ℕ))
      → AreReports command None grammar algebra number words reports
      → AreReports command hidden grammar algebra number words reports
  nested_reports number [] [] h = tt
  nested_reports number [] (report ∷ reports) h = absurd h
  nested_reports number (word ∷ words) [] h = absurd h
  nested_reports number (word ∷ words) (report ∷ reports) ((wins, each, is), others) = (
    (wins, each, in_mode command.mode number word wins report is),
    nested_reports (number + 1) words reports others,
  )

  nested_run : (number : ℕ) (word report : List ℕ) (noted : List RunNote)
      → IsRunOf command None number (posed_word grammar algebra word) report noted
      → IsRunOf command hidden number (posed_word grammar algebra word) report noted
  nested_run number word report noted (inl (sweeps, none, is)) =
      inl (sweeps, none, in_mode command.mode number word [] report is)
  nested_run number word report noted (inr (other, note, one, for, is)) =
      inr (other, note, one, for, in_mode command.mode number word note.wins report is)

  nested_runs : (count number : ℕ) (words reports : List (List ℕ)) (notes : List RunNote)
      → AreRunsOf command None number (take count (posed_words grammar algebra words)) reports notes
      → AreRunsOf command hidden number (take count (posed_words grammar algebra words)) reports notes
  nested_runs zero number words [] notes h = h
  nested_runs zero number words (report ∷ reports) notes h = absurd h
  nested_runs (suc count) number [] [] notes h = h
  nested_runs (suc count) number [] (report ∷ reports) notes h = absurd h
  nested_runs (suc count) number (word ∷ words) [] notes h = absurd h
  nested_runs (suc count) number (word ∷ words) (report ∷ reports) notes (noted, others, is, run, runs) = (
    noted,
    others,
    is,
    nested_run number word report noted run,
    nested_runs count (number + 1) words reports others runs,
  )

  nested_noted : (words behind : List (List ℕ)) (status : Status) (old new : Option (List RunNote))
      (held held' : Option (List ℕ))
      → AreNoted command None (posed_words grammar algebra words) behind status old new held held'
      → AreNoted command hidden (posed_words grammar algebra words) behind status old new held held'
  nested_noted words behind status old new held held' noted = record {
    count = noted.count;
    reports = noted.reports;
    notes = noted.notes;
    runs = nested_runs noted.count 1 words noted.reports noted.notes noted.runs;
    noted = noted.noted;
    written = noted.written;
    done = noted.done;
  }

-- a job that was read and checked
pub tells_nested : TextsHide → ReportsArePlain → (words : List (List ℕ)) (bytes : List ℕ) (command : Command)
    (job : CheckedJob) → IsCheckedJob words bytes command job → HasPassed job.checked.grammar job.checked.algebra
    → TellsNested command bytes job
tells_nested all_hide plain words bytes command job asked passed =
    let hides =
    subst (λ (g : Grammar). HidesAlternatives (hidden_in bytes) g) (sym asked.3)
    (all_hide bytes asked.0 asked.1.asks.is_text) in
    let grammar = job.checked.grammar in
    let algebra = job.checked.algebra in
    record {
      reports = nested_reports plain command grammar algebra passed (hidden_in bytes) hides 1 job.words;
      noted = nested_noted plain command grammar algebra passed (hidden_in bytes) hides job.words;
    }
