-- The reports of a job's words, and what was written of them.
use Rattle.std.specs.Prelude.{◌≡◌, ℕ, ◌+◌, ◌<◌, ◌≤◌, ◌⊎◌, List, [], ◌∷◌, ◌++◌, length, slice_index_or, take, Option, None, Some, Result, Ok, Err}
use Rattle.std.specs.List.{concat}
use Rattle.std.specs.Io.KnownBytes.{Appends}
use Rattle.adp_io.specs.Streams.{AppendsProperPrefix}
use Rattle.adp_model.specs.declared.grammar.Grammar.{Grammar}
use Rattle.adp_model.specs.declared.job.Job.{Job}
use Rattle.adp_model.specs.PosedProblem.{PosedProblem}
use Rattle.verdicts.specs.Command as asked
use Rattle.verdicts.specs.Verdict.{IsJobVerdict, AsksUnder, IsReportIn, AreReports}
use Rattle.verdicts.specs.Verdict as verdicts
use Rattle.verdicts.specs.Certificates.{behind_reports}
use Rattle.verdicts.specs.SecondAlgebra.{IsAdmissibleWith, IsLimitWith}
use Rattle.verdicts.specs.WordLimits.{IsFirstLimit, IsLimitIn, KeepLimits, KeepsLimitsOfLists}
use Rattle.lex_product.specs.PairFaults.{IsPairFault}
use Rattle.lex_product.specs.PairLimits.{IsPairLimitFault}
use Rattle.lex_product.specs.declared.error.CompileError.{CompileError}
use Rattle.lex_product.specs.declared.error.CompileError.TheVariants as compile_errors
use Rattle.lex_product.specs.declared.error.PairError.{PairError}
use Rattle.lex_product.specs.declared.error.PairError.TheVariants as pair_errors
use Rattle.report.specs.declared.fault.Fault.{Fault}
use Rattle.report.specs.declared.fault.Fault.TheVariants as faults
use Rattle.adp_main.specs.declared.checking.CheckedJob.{CheckedJob}
use Rattle.grammar_check.specs.CheckedGrammar.{CheckedGrammar}
use Rattle.grammar_check.specs.declared.error.AdmitError.{AdmitError}
use Rattle.grammar_check.specs.declared.error.AdmitError.TheVariants as admit_errors
use Rattle.grammar_check.specs.declared.error.CheckError.{CheckError}
use Rattle.grammar_check.specs.declared.error.CheckError.TheVariants as check_errors
use Rattle.grammar_text.specs.declared.error.TextError.{TextError}
use Rattle.grammar_text.specs.declared.error.TextError.TheVariants as text_errors

-- the fault of bytes that were not read as a job
abbrev pub text_refusal : TextError → Fault
text_refusal (text_errors.Fault fault) = faults.Text fault
text_refusal text_errors.Memory = faults.Memory

-- the fault of a grammar that was not checked
abbrev pub grammar_refusal : CheckError → Fault
grammar_refusal (check_errors.Fault fault) = faults.Grammar fault
grammar_refusal check_errors.Memory = faults.Memory

-- the fault of two algebras that were not made a pair
abbrev pub pair_refusal : PairError → Fault
pair_refusal (pair_errors.Fault fault) = faults.Grammar fault
pair_refusal pair_errors.Memory = faults.Memory

-- why a word is refused whose pair was not compiled
abbrev pub compile_refusal : CompileError → AdmitError
compile_refusal (compile_errors.Fault fault) = admit_errors.Fault fault
compile_refusal compile_errors.Memory = admit_errors.Memory

-- the fault of a run whose word at this place was refused
abbrev pub limit_refusal : ℕ → AdmitError → Fault
limit_refusal place (admit_errors.Fault fault) = faults.Limit (place + 1) fault
limit_refusal place admit_errors.Memory = faults.Memory

-- where a second algebra is asked for, it is a fault of the pair, with a short name, or want of memory
abbrev pub IsPairRefusal : Option (List ℕ) → CheckedGrammar → Fault → Type 0
IsPairRefusal None first fault = fault ≡ faults.Memory
IsPairRefusal (Some name) first (faults.Grammar fault) =
    IsPairFault first.grammar first.algebra name fault × (length fault.name ≤ 32)
IsPairRefusal (Some name) first faults.Memory = Unit {0}
IsPairRefusal (Some name) first fault = ⊥

-- the job's grammar is that of the text that the command asks about, and has no fault under the algebra, nor has the
-- pair where a second one is asked for; its words are the text's
abbrev pub IsCheckedJob : List (List ℕ) → List ℕ → asked.Command → CheckedJob → Type 0
IsCheckedJob words bytes command checked =
    (job : Job) × (asks : AsksUnder words bytes job checked.checked.algebra) × (asks.command ≡ command)
    × (checked.checked.grammar ≡ job.grammar) × (checked.words ≡ job.words)

-- it is a fault of the text, or of its grammar with a short name, or want of memory
abbrev pub IsJobFault : Fault → Type 0
IsJobFault (faults.Text fault) = Unit {0}
IsJobFault (faults.Grammar fault) = length fault.name ≤ 32
IsJobFault faults.Memory = Unit {0}
IsJobFault fault = ⊥

-- the verdict is the fault of the text or of its grammar; of want of memory nothing is said
abbrev pub IsJobRefusal : List (List ℕ) → List ℕ → Fault → Type 0
IsJobRefusal words bytes (faults.Text fault) = IsJobVerdict words bytes (verdicts.Text fault)
IsJobRefusal words bytes (faults.Grammar fault) = IsJobVerdict words bytes (verdicts.Grammar fault)
IsJobRefusal words bytes faults.Memory = Unit {0}
IsJobRefusal words bytes fault = ⊥

-- no word is longer than so many letters
abbrev pub AreShort : ℕ → List (List ℕ) → Type 0
AreShort longest words =
    (place : ℕ) → place < length words → length (slice_index_or words place []) ≤ longest

-- the word is admitted under its algebra, or under two, and keeps the limits of its lists where they are asked for
abbrev pub IsAdmissibleIn : asked.Command → PosedProblem → Type 0
IsAdmissibleIn command p =
    IsAdmissibleWith command.second p × KeepsLimitsOfLists command.best p.grammar (length p.word)

-- the fault of the first word that passes a limit; of want of memory nothing is said
abbrev pub IsLimitOf : asked.Command → Grammar → ℕ → List (List ℕ) → Fault → Type 0
IsLimitOf command grammar algebra words (faults.Limit word fault) =
    IsFirstLimit command grammar algebra 1 words word fault
IsLimitOf command grammar algebra words faults.Memory = Unit {0}
IsLimitOf command grammar algebra words fault = ⊥

-- the fault of a word of this length; of want of memory nothing is said
abbrev pub IsWordRefusal : asked.Command → Grammar → ℕ → ℕ → AdmitError → Type 0
IsWordRefusal command grammar algebra len (admit_errors.Fault fault) = IsLimitIn command grammar algebra len fault
IsWordRefusal command grammar algebra len admit_errors.Memory = Unit {0}

-- the fault of a length under one algebra or two; of want of memory nothing is said
abbrev pub IsLengthRefusal : Option (List ℕ) → Grammar → ℕ → ℕ → AdmitError → Type 0
IsLengthRefusal second grammar algebra len (admit_errors.Fault fault) = IsLimitWith second grammar algebra len fault
IsLengthRefusal second grammar algebra len admit_errors.Memory = Unit {0}

-- the fault of a length under a pair; of want of memory nothing is said
abbrev pub IsPairLimitRefusal : Grammar → ℕ → ℕ → ℕ → AdmitError → Type 0
IsPairLimitRefusal grammar first second len (admit_errors.Fault fault) = IsPairLimitFault grammar first second len fault
IsPairLimitRefusal grammar first second len admit_errors.Memory = Unit {0}

-- the reports of these problems in order, under their own grammar, the first of which has this number, as the command
-- asks for them
abbrev pub AreReportsOf : asked.Command → ℕ → List PosedProblem → List (List ℕ) → Type 0
AreReportsOf command number [] [] = Unit {0}
AreReportsOf command number (problem ∷ problems) (report ∷ reports) =
    IsReportIn command None number problem report × AreReportsOf command (number + 1) problems reports
AreReportsOf command number problems reports = ⊥

-- what was written of these reports: all of them, a part that is not the whole, or the first of them
abbrev pub HasWritten : Result (Unit {0}) Fault → Option (List ℕ) → Option (List ℕ) → List (List ℕ) → Type 0
HasWritten (Ok written) old new reports = Appends old new (concat reports)
HasWritten (Err faults.Write) old new reports = AppendsProperPrefix old new (concat reports)
HasWritten (Err faults.Memory) old new reports = (count : ℕ) × Appends old new (concat (take count reports))
HasWritten (Err fault) old new reports = ⊥

-- the words keep the limits, and these are their reports under the grammar itself
pub record IsReported (command : asked.Command) (grammar : Grammar) (algebra : ℕ) (words : List (List ℕ))
    (reports : List (List ℕ)) : Type 0 where
  pub limits : KeepLimits command grammar algebra words
  pub reports_are : AreReports command None grammar algebra 1 words reports

-- how the words of a checked job, which came with this input, were reported: one of them passes a limit and nothing was
-- written, or it was written of their reports and of what stands behind them
abbrev pub IsJobEnding : asked.Command → Grammar → ℕ → List (List ℕ) → List ℕ → Result (Unit {0}) Fault
    → Option (List ℕ) → Option (List ℕ) → Type 0
IsJobEnding command grammar algebra words input (Err (faults.Limit word fault)) old new =
    IsFirstLimit command grammar algebra 1 words word fault × Appends old new []
IsJobEnding command grammar algebra words input (Err faults.Memory) old new =
    Appends old new []
    ⊎ ((reports : List (List ℕ)) × IsReported command grammar algebra words reports
    × HasWritten (Err faults.Memory) old new (reports ++ behind_reports command.mode (length words) input))
IsJobEnding command grammar algebra words input result old new =
    (reports : List (List ℕ)) × IsReported command grammar algebra words reports
    × HasWritten result old new (reports ++ behind_reports command.mode (length words) input)
