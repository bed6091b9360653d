-- A command and an input that is not too long have a fault of the job, or its words keep their limits and have reports.
use Rattle.std.proofs.Common.{◌≡◌, ℕ, ◌+◌, ◌≤◌, ◌⊎◌, inl, inr, IsSome, IsTrue, Option, None, Some, List, [], ◌∷◌, length, subst}
use Rattle.adp_model.specs.declared.fault.TextFault.{TextFault}
use Rattle.adp_model.specs.declared.fault.GrammarFault.{GrammarFault}
use Rattle.adp_model.specs.declared.grammar.Grammar.{Grammar}
use Rattle.adp_model.specs.declared.job.Job.{Job}
use Rattle.adp_model.specs.Checks.{IsChecked}
use Rattle.adp_model.specs.GrammarFaults.{IsFaultless, IsNamed}
use Rattle.adp_model.specs.PosedProblem.{PosedProblem}
use Rattle.adp_model.specs.WellFormed.{is_well_formed}
use Rattle.faultless_grammars.specs.Irrefutable.{HasSizesAndRanks, IsFaultyOrSound, IsIrrefutable}
use Rattle.lex_product.specs.PairFaults.{BothAddScores, NoAlgebra as NoSecond, OtherFactor}
use Rattle.nested_jobs.specs.NestedJob.{IsNestedFault, IsNestedText, hidden_in}
use Rattle.verdicts.specs.declared.command.Mode.TheVariants.{Lex}
use Rattle.verdicts.specs.Command.{Command, IsCommand, ReadsJob}
use Rattle.verdicts.specs.SecondAlgebra.{IsAdmissibleWith, IsFaultWith, KeepsLimitsWith, MakesPairWith}
use Rattle.verdicts.specs.Verdict.{AreReports, AsksUnder, AsksWithin, asked_name, greatest_length, IsJobVerdict, IsReportIn, Verdict, Text, Grammar as OfGrammar, Limit}
use Rattle.verdicts.specs.WordLimits.{KeepLimits}
use Rattle.verdicts.specs.WordReport.{HidesAlternatives}
use Rattle.verdicts.proofs.Irrefutably.{FailsOrHolds, and_then, decided, fails_or_holds, it_holds}
use Rattle.verdicts.proofs.Limited.{LimitLaws, WordsJudged, words_judged}
use Rattle.verdicts.proofs.OneVerdict.{one_second, some_workers}

-- what is known of texts, grammars and reports
pub record JobLaws : Type 0 where
  pub texts : (bytes : List ℕ) → ((job : Job) × IsNestedText bytes job) ⊎ ((fault : TextFault) × IsNestedFault bytes fault)
  pub hides : (bytes : List ℕ) (job : Job) → IsNestedText bytes job → HidesAlternatives (hidden_in bytes) job.grammar
  pub judged : (grammar : Grammar) (name : List ℕ) → IsIrrefutable (IsFaultyOrSound grammar name)
  pub faultless : (grammar : Grammar) (name : List ℕ) (algebra : ℕ) → IsTrue (is_well_formed grammar)
      → IsFaultless grammar name algebra → IsIrrefutable (HasSizesAndRanks grammar algebra)
  pub limits : LimitLaws
  pub reports : (command : Command) (hidden : Option ℕ) (number : ℕ) (p : PosedProblem) → ReadsJob command.mode
      → (command.mode ≡ Lex → IsSome command.second) → 1 ≤ command.workers → IsAdmissibleWith command.second p
      → HidesAlternatives hidden p.grammar → (report : List ℕ) × IsReportIn command hidden number p report

-- ---- the grammar

abbrev PairJudged : Option (List ℕ) → Grammar → List ℕ → Type 0
PairJudged second grammar name =
    ((fault : GrammarFault) × IsFaultWith second grammar name fault)
    ⊎ ((algebra : ℕ) × IsFaultless grammar name algebra × MakesPairWith second grammar algebra)

by_scores : (grammar : Grammar) (name other : List ℕ) (algebra second : ℕ) → IsFaultless grammar name algebra
    → IsNamed grammar other second → FailsOrHolds (BothAddScores grammar algebra second) (length grammar.signs)
    → PairJudged (Some other) grammar name
by_scores grammar name other algebra second sound named (inl (sign, first)) =
    inl (_, inr (algebra, sound, OtherFactor second sign named first))
by_scores grammar name other algebra second sound named (inr all) = inr (algebra, sound, (second, named, all))

with_second : (second : Option (List ℕ)) (grammar : Grammar) (name : List ℕ) (algebra : ℕ)
    → IsFaultless grammar name algebra → IsIrrefutable (PairJudged second grammar name)
with_second None grammar name algebra sound = it_holds _ (inr (algebra, sound, tt))
with_second (Some other) grammar name algebra sound =
    and_then _ _ (decided ((second : ℕ) × IsNamed grammar other second)) (λ case. elim case [
      | inl found ↦
          and_then _ _ (fails_or_holds (BothAddScores grammar algebra found.0) (length grammar.signs)) (λ adding.
          it_holds _ (by_scores grammar name other algebra found.0 sound found.1 adding))
      | inr none ↦
          it_holds _ (inl (_, inr (algebra, sound, NoSecond (λ second named. none (second, named)))))
    ])

own_fault : (second : Option (List ℕ)) (grammar : Grammar) (name : List ℕ) → IsFaultyOrSound grammar name
    → IsIrrefutable (PairJudged second grammar name)
own_fault second grammar name (inr (algebra, sound)) = with_second second grammar name algebra sound
own_fault None grammar name (inl (fault, is)) = it_holds _ (inl (fault, is))
own_fault (Some other) grammar name (inl (fault, is)) = it_holds _ (inl (fault, inl is))

-- ---- reports

-- a word that keeps the limits is admitted
admitted : (second : Option (List ℕ)) (grammar : Grammar) (algebra : ℕ) (least : List ℕ) (greatest : List (Option ℕ))
    (ranks : List ℕ) → IsChecked grammar algebra least greatest ranks → MakesPairWith second grammar algebra
    → (word : List ℕ) → KeepsLimitsWith second grammar algebra (length word)
    → IsAdmissibleWith second (record { grammar = grammar; algebra = algebra; word = word })
admitted None grammar algebra least greatest ranks checked pair word kept =
    record { least = least; greatest = greatest; ranks = ranks; checked = checked; limits = kept }
admitted (Some name) grammar algebra least greatest ranks checked pair word (n, named, kept) = (
  n,
  named,
  record {
    least = least;
    greatest = greatest;
    ranks = ranks;
    checked = record {
      checked = checked;
      known = named.in_range;
      adding = λ sign inside. subst (λ m. BothAddScores grammar algebra m sign)
          (one_second (Some name) grammar checked.well_formed pair.0 n pair.1 named) (pair.2 sign inside);
    };
    limits = kept;
  },
)

-- ---- the job

-- faults of a job
abbrev pub IsOfJob : Verdict → Type 0
IsOfJob (Text fault) = Unit {0}
IsOfJob (OfGrammar fault) = Unit {0}
IsOfJob (Limit word fault) = Unit {0}
IsOfJob verdict = ⊥

-- the words of a job keep their limits, and each has a report
pub record IsReported (words : List (List ℕ)) (bytes : List ℕ) : Type 0 where
  pub asks : AsksWithin words bytes
  pub reports : List (List ℕ)
  pub are : AreReports asks.asked.command (hidden_in bytes) asks.job.grammar asks.algebra 1 asks.job.words reports

abbrev pub JobJudged : List (List ℕ) → List ℕ → Type 0
JobJudged words bytes =
    ((verdict : Verdict) × IsOfJob verdict × IsJobVerdict words bytes verdict) ⊎ IsReported words bytes

module _ (laws : JobLaws) (words : List (List ℕ)) (bytes : List ℕ) (command : Command) (is : IsCommand words command)
    (reads : ReadsJob command.mode) (short : length bytes ≤ greatest_length) where
  module _ (job : Job) (algebra : ℕ) (asked : AsksUnder words bytes job algebra) where
    -- each word has a report
    all_reported : (least : List ℕ) (greatest : List (Option ℕ)) (ranks : List ℕ)
        → IsChecked job.grammar algebra least greatest ranks → (number : ℕ) (those : List (List ℕ))
        → KeepLimits asked.command job.grammar algebra those
        → (reports : List (List ℕ))
        × AreReports asked.command (hidden_in bytes) job.grammar algebra number those reports
    all_reported least greatest ranks checked number [] kept = ([], tt)
    all_reported least greatest ranks checked number (word ∷ those) kept =
        let here = laws.reports asked.command (hidden_in bytes) number
        (record { grammar = job.grammar; algebra = algebra; word = word }) asked.asks.reads asked.asks.is_command.paired
        (some_workers words asked.command asked.asks.is_command)
        (admitted asked.command.second job.grammar algebra least greatest ranks checked asked.pair word kept.0.0)
        (laws.hides bytes job asked.asks.is_text) in
        let others = all_reported least greatest ranks checked (number + 1) those kept.1 in
        (here.0 ∷ others.0, (here.1, others.1))

    by_limits : (least : List ℕ) (greatest : List (Option ℕ)) (ranks : List ℕ)
        (checked : IsChecked job.grammar algebra least greatest ranks)
        → WordsJudged laws.limits job.grammar algebra least greatest ranks checked asked.command asked.pair 1 job.words
        → JobJudged words bytes
    by_limits least greatest ranks checked (inl kept) =
        let found = all_reported least greatest ranks checked 1 job.words kept in
        inr (record {
          asks = record { job = job; algebra = algebra; asked = asked; limits = kept };
          reports = found.0;
          are = found.1;
        })
    by_limits least greatest ranks checked (inr (first, fault, passes)) =
        inl (Limit first fault, tt, (job, algebra, asked, passes))

    under_judged : IsIrrefutable (JobJudged words bytes)
    under_judged =
        and_then _ _ (laws.faultless job.grammar _ algebra job.well_formed asked.faultless) (λ found.
        and_then _ _
        (words_judged laws.limits job.grammar algebra found.0 found.1 found.2 found.3 asked.command asked.pair 1 job.words)
        (λ limits. it_holds _ (by_limits found.0 found.1 found.2 found.3 limits)))

  by_grammar : (job : Job) → IsNestedText bytes job
      → PairJudged command.second job.grammar (asked_name command job.grammar) → IsIrrefutable (JobJudged words bytes)
  by_grammar job text (inl (fault, faulty)) =
      it_holds _ (inl (
        OfGrammar fault,
        tt,
        (
          command,
          job,
          record { is_command = is; reads = reads; short_enough = short; is_text = text },
          faulty,
        ),
      ))
  by_grammar job text (inr (algebra, sound, pair)) =
      under_judged job algebra (record {
        command = command;
        asks = record { is_command = is; reads = reads; short_enough = short; is_text = text };
        faultless = sound;
        pair = pair;
      })

  by_text : ((job : Job) × IsNestedText bytes job) ⊎ ((fault : TextFault) × IsNestedFault bytes fault)
      → IsIrrefutable (JobJudged words bytes)
  by_text (inr (fault, faulty)) = it_holds _ (inl (Text fault, tt, ((command, is, reads), short, faulty)))
  by_text (inl (job, text)) =
      and_then _ _ (laws.judged job.grammar (asked_name command job.grammar)) (λ own.
      and_then _ _ (own_fault command.second job.grammar (asked_name command job.grammar) own) (by_grammar job text))

  pub job_judged : IsIrrefutable (JobJudged words bytes)
  job_judged = by_text (laws.texts bytes)
