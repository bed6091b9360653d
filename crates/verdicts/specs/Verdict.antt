-- The verdict: what the program has to answer to the words of its command line and the bytes of its input.
use Rattle.std.specs.Prelude.{◌≡◌, ℕ, ◌+◌, ◌<◌, ◌≤◌, ◌⊎◌, Option, List, [], ◌∷◌, ◌++◌, length}
use Rattle.std.specs.Option.{unwrap_or}
use Rattle.adp_model.specs.declared.grammar.Grammar as grammars
use Rattle.adp_model.specs.declared.job.Job.{Job}
use Rattle.adp_model.specs.declared.fault.TextFault.{TextFault}
use Rattle.adp_model.specs.declared.fault.GrammarFault.{GrammarFault}
use Rattle.adp_model.specs.declared.fault.LimitFault.{LimitFault}
use Rattle.adp_model.specs.Parts.{algebra_at}
use Rattle.nested_jobs.specs.NestedJob.{IsNestedFault, IsNestedText, hidden_in}
use Rattle.adp_model.specs.GrammarFaults.{IsFaultless}
use Rattle.adp_model.specs.PosedProblem.{PosedProblem}
use Rattle.adp_model.specs.BigReport.{IsBigReport}
use Rattle.lex_product.specs.PairReport.{IsPairReport}
use Rattle.verdicts.specs.declared.command.Mode.{Mode}
use Rattle.verdicts.specs.declared.command.Mode.TheVariants.{Best, Serial, Wins, Replay, Lex, Cert, Verify, KBest, Big}
use Rattle.verdicts.specs.Command.{ShowsWins, Command, IsCommand, HasCommand, ReadsJob, AsksForJob, AsksToVerify}
use Rattle.table_certificate.specs.JobSplit.{IsSplitAtJob}
use Rattle.verdicts.specs.Certificates.{behind_reports, IsBlockReport, IsFalseFor, IsRightFor, IsWithoutJob}
use Rattle.verdicts.specs.SecondAlgebra.{IsFaultWith, IsSecond, MakesPairWith}
use Rattle.verdicts.specs.WordLimits.{IsFirstLimit, KeepLimits}
use Rattle.verdicts.specs.WordReport.{IsWordListReport, IsWordReport, IsWordScoreReport, IsWordWinsReport}

-- a job has at most this many bytes
abbrev pub greatest_length : ℕ
greatest_length = 4194304

-- what the program answers: that the words are no command; that the input is too long; the fault of its text; the fault
-- of its grammar; the number of the first word that passes a limit, with the limit; the number of the first line of a
-- certificate that is false; or the reports of all words, or of the word that is made, piece by piece as they are written
pub data Verdict : Type 0 where
  Usage : Verdict
  TooLong : Verdict
  Text : (fault : TextFault) → Verdict
  Grammar : (fault : GrammarFault) → Verdict
  Limit : (word : ℕ) → (fault : LimitFault) → Verdict
  Rejected : (line : ℕ) → Verdict
  Reports : (reports : List (List ℕ)) → Verdict

-- the words are the command, which reads a job, and the bytes spell the job
pub record AsksFor (words : List (List ℕ)) (bytes : List ℕ) (command : Command) (job : Job) : Type 0 where
  pub is_command : IsCommand words command
  pub reads : ReadsJob command.mode
  pub short_enough : length bytes ≤ greatest_length
  pub is_text : IsNestedText bytes job

-- the name of the algebra that a command asks for, or of the grammar's first
abbrev pub asked_name : Command → grammars.Grammar → List ℕ
asked_name command grammar = unwrap_or command.algebra (algebra_at grammar 0).name

-- the words and the bytes ask for the job's words under this algebra, and the grammar has no fault under it, nor have the
-- two where a second one is asked for
pub record AsksUnder (words : List (List ℕ)) (bytes : List ℕ) (job : Job) (algebra : ℕ) : Type 0 where
  pub command : Command
  pub asks : AsksFor words bytes command job
  pub faultless : IsFaultless job.grammar (asked_name command job.grammar) algebra
  pub pair : MakesPairWith command.second job.grammar algebra

-- the report that a mode asks for of the word with this number, as the command says, under a grammar of which so many
-- rules are hidden, and where its evaluators have these wins; a pair of algebras has linear terms, and hides no rule; a
-- certificate tells cells, which are those of the plain grammar
abbrev pub IsReportWith : Mode → Command → Option ℕ → ℕ → PosedProblem → List ℕ → List ℕ → Type 0
IsReportWith Best command hidden number p wins report = IsWordReport hidden number p report
IsReportWith Serial command hidden number p wins report = IsWordReport hidden number p report
IsReportWith Wins command hidden number p wins report = IsWordWinsReport hidden number p wins report
IsReportWith Replay command hidden number p wins report = IsWordWinsReport hidden number p wins report
IsReportWith Lex command hidden number p wins report =
    (algebra : ℕ) × IsSecond command.second p.grammar algebra × IsPairReport number p algebra report
IsReportWith Cert command hidden number p wins report = IsBlockReport number p report
IsReportWith Verify command hidden number p wins report = IsWordScoreReport hidden number p report
IsReportWith KBest command hidden number p wins report = IsWordListReport hidden number p command.best report
IsReportWith Big command hidden number p wins report = ⊥

-- the report that a command asks for of the word with this number, with some wins for each of its evaluators
abbrev pub IsReportIn : Command → Option ℕ → ℕ → PosedProblem → List ℕ → Type 0
IsReportIn command hidden number p report =
    (wins : List ℕ) × (length wins ≡ command.workers)
    × IsReportWith command.mode command hidden number p wins report

-- the reports of these words in order, the first of which has this number, as the command asks for them
abbrev pub AreReports : Command → Option ℕ → grammars.Grammar → ℕ → ℕ → List (List ℕ) → List (List ℕ) → Type 0
AreReports command hidden grammar algebra number [] [] = Unit {0}
AreReports command hidden grammar algebra number (word ∷ words) (report ∷ reports) =
    IsReportIn command hidden number (record { grammar = grammar; algebra = algebra; word = word }) report
    × AreReports command hidden grammar algebra (number + 1) words reports
AreReports command hidden grammar algebra number words reports = ⊥

-- the words and the bytes ask for these pieces: the reports of the words of a job, and what stands behind them; where
-- line 1 is that of the format with nested alternatives, the reports tell nested trees
abbrev pub AskForReports : List (List ℕ) → List ℕ → List (List ℕ) → Type 0
AskForReports words bytes pieces =
    (job : Job) × (algebra : ℕ) × (asked : AsksUnder words bytes job algebra)
    × KeepLimits asked.command job.grammar algebra job.words
    × (reports : List (List ℕ)) × AreReports asked.command (hidden_in bytes) job.grammar algebra 1 job.words reports
    × (pieces ≡ reports ++ behind_reports asked.command.mode (length job.words) bytes)

-- the words ask for this report of the word that is made, alone
abbrev pub AskForBigReport : List (List ℕ) → List (List ℕ) → Type 0
AskForBigReport words reports =
    (command : Command) × IsCommand words command × (command.mode ≡ Big)
    × (report : List ℕ) × IsBigReport command.seed command.size report × (reports ≡ report ∷ [])

-- on a job: faulty words come first, then an input that is too long, then the faults of its text, of its grammar and of the
-- lengths of its words, and then the reports; where a word is made, no input is judged
abbrev pub IsJobVerdict : List (List ℕ) → List ℕ → Verdict → Type 0
IsJobVerdict words bytes Usage = HasCommand words → ⊥
IsJobVerdict words bytes TooLong = AsksForJob words × (greatest_length < length bytes)
IsJobVerdict words bytes (Text fault) = AsksForJob words × (length bytes ≤ greatest_length) × IsNestedFault bytes fault
IsJobVerdict words bytes (Grammar fault) =
    (command : Command) × (job : Job) × AsksFor words bytes command job
    × IsFaultWith command.second job.grammar (asked_name command job.grammar) fault
IsJobVerdict words bytes (Limit word fault) =
    (job : Job) × (algebra : ℕ) × (asked : AsksUnder words bytes job algebra)
    × IsFirstLimit asked.command job.grammar algebra 1 job.words word fault
IsJobVerdict words bytes (Rejected line) = ⊥
IsJobVerdict words bytes (Reports reports) = AskForReports words bytes reports ⊎ AskForBigReport words reports

-- the words and the bytes ask for a job's words under an algebra, and these all keep the limits
pub record AsksWithin (words : List (List ℕ)) (bytes : List ℕ) : Type 0 where
  pub job : Job
  pub algebra : ℕ
  pub asked : AsksUnder words bytes job algebra
  pub limits : KeepLimits asked.command job.grammar algebra job.words

-- on a certificate with its job behind the line `job`: an input that is too long comes first, then one without that line,
-- then the faults of the job, whose lines count from 1, then the first line that is false, and then the best score of
-- each word
abbrev pub IsCertificateVerdict : List (List ℕ) → List ℕ → Verdict → Type 0
IsCertificateVerdict words bytes Usage = ⊥
IsCertificateVerdict words bytes TooLong = greatest_length < length bytes
IsCertificateVerdict words bytes (Rejected line) =
    (length bytes ≤ greatest_length)
    × (IsWithoutJob bytes line
    ⊎ ((before : List ℕ) × (behind : List ℕ) × IsSplitAtJob bytes before behind × (asks : AsksWithin words behind)
    × IsFalseFor asks.job.grammar asks.algebra asks.job.words before line))
IsCertificateVerdict words bytes (Reports reports) =
    (length bytes ≤ greatest_length)
    × (before : List ℕ) × (behind : List ℕ) × IsSplitAtJob bytes before behind × (asks : AsksWithin words behind)
    × IsRightFor asks.job.grammar asks.algebra asks.job.words before
    × AreReports asks.asked.command (hidden_in behind) asks.job.grammar asks.algebra 1 asks.job.words reports
IsCertificateVerdict words bytes fault =
    (length bytes ≤ greatest_length)
    × (before : List ℕ) × (behind : List ℕ) × IsSplitAtJob bytes before behind × IsJobVerdict words behind fault

-- on a certificate, where the words ask to check one; else on a job, or on the word that is made
abbrev pub IsVerdict : List (List ℕ) → List ℕ → Verdict → Type 0
IsVerdict words bytes verdict =
    ((AsksToVerify words → ⊥) × IsJobVerdict words bytes verdict)
    ⊎ (AsksToVerify words × IsCertificateVerdict words bytes verdict)

abbrev pub IsReports : Verdict → Type 0
IsReports (Reports reports) = Unit {0}
IsReports verdict = ⊥

abbrev pub IsLimit : Verdict → Type 0
IsLimit (Limit word fault) = Unit {0}
IsLimit verdict = ⊥

-- both are reports with the wins of evaluators
abbrev pub AreOfWins : List (List ℕ) → Verdict → Verdict → Type 0
AreOfWins words (Reports reports) (Reports others) =
    (command : Command) × IsCommand words command × ShowsWins command.mode
AreOfWins words verdict other = ⊥
