-- An admitted word has a report in each mode that reads words.
use Rattle.std.proofs.Common.{◌≡◌, ◌↔◌, ℕ, zero, suc, ◌+◌, ◌≤◌, IsSome, Option, None, Some, List, [], ◌∷◌, ◌++◌, length, sum, refl, sym, ap, subst, ◌∙◌, arith}
use Rattle.std.proofs.lemmas.List.Sums.{sum_by-cons}
use Rattle.adp_model.specs.PosedProblem.{PosedProblem}
use Rattle.adp_model.specs.ProblemFields.{IsAdmissible}
use Rattle.adp_model.specs.Checks.{IsChecked}
use Rattle.adp_model.specs.Demand.{IsDemandedCount}
use Rattle.adp_model.specs.Report.{wins_line, IsReport}
use Rattle.verdicts.specs.declared.command.Mode.{Mode}
use Rattle.verdicts.specs.declared.command.Mode.TheVariants.{Best, Serial, Wins, Replay, Lex, Cert, Verify, KBest, Big}
use Rattle.verdicts.specs.Command.{Command, ReadsJob}
use Rattle.first_trees.specs.ListReport.{IsListReport}
use Rattle.lex_product.specs.PairLimits.{IsPairAdmissible}
use Rattle.lex_product.specs.PairReport.{IsPairReport}
use Rattle.table_certificate.specs.ScoreReports.{IsScoreReport}
use Rattle.table_certificate.specs.WrittenCertificate.{IsCertificate}
use Rattle.verdicts.specs.Certificates.{before_block}
use Rattle.verdicts.specs.SecondAlgebra.{IsAdmissibleWith, IsSecond}
use Rattle.verdicts.specs.Verdict.{IsReportIn, IsReportWith}
use Rattle.verdicts.specs.WordReport.{HidesAlternatives}

-- an admitted word has a report, by one algebra and by two in order
pub record ReportLaws : Type 0 where
  pub plain : (number : ℕ) (p : PosedProblem) → IsAdmissible p → (report : List ℕ) × IsReport number p report
  pub paired : (number : ℕ) (p : PosedProblem) (second : ℕ) → IsPairAdmissible p second
      → (report : List ℕ) × IsPairReport number p second report
  pub block : (number : ℕ) (p : PosedProblem) → IsAdmissible p → (text : List ℕ) × IsCertificate number p text
  pub score : (number : ℕ) (p : PosedProblem) → IsAdmissible p → (report : List ℕ) × IsScoreReport number p report
  pub nested : (p : PosedProblem) (least : List ℕ) (greatest : List (Option ℕ)) (ranks : List ℕ)
      → IsChecked p.grammar p.algebra least greatest ranks → (hidden : Option ℕ) → HidesAlternatives hidden p.grammar
      → (mode : Mode) (command : Command) (number : ℕ) (wins report : List ℕ)
      → IsReportWith mode command None number p wins report ↔ IsReportWith mode command hidden number p wins report
  pub listed : (number : ℕ) (p : PosedProblem) → IsAdmissible p → (k : ℕ)
      → (report : List ℕ) × IsListReport number p k report

-- a word that is admitted with a second algebra is admitted
own_admissible : (second : Option (List ℕ)) (p : PosedProblem) → IsAdmissibleWith second p → IsAdmissible p
own_admissible None p is = is
own_admissible (Some name) p (second, named, pair) = record {
  least = pair.least;
  greatest = pair.greatest;
  ranks = pair.ranks;
  checked = pair.checked.checked;
  limits = pair.limits.of_first;
}

-- ---- with wins

abbrev no_wins : ℕ → List ℕ
no_wins zero = []
no_wins (suc count) = 0 ∷ no_wins count

no_wins_number : (count : ℕ) → length (no_wins count) ≡ count
no_wins_number zero = refl
no_wins_number (suc count) = ap suc (no_wins_number count)

no_wins_sum : (count : ℕ) → sum (no_wins count) ≡ 0
no_wins_sum zero = refl
no_wins_sum (suc count) = no_wins_sum count

module _ (laws : ReportLaws) where
  -- by both algebras
  by_both : (second : Option (List ℕ)) (number : ℕ) (p : PosedProblem) → IsSome second
      → IsAdmissibleWith second p
      → (report : List ℕ) × (algebra : ℕ) × IsSecond second p.grammar algebra × IsPairReport number p algebra report
  by_both None number p there is = cc
  by_both (Some name) number p there (second, named, pair) =
      let found = laws.paired number p second pair in
      (found.0, second, named, found.1)

  -- with wins that have been found for a plain report
  module _ (command : Command) (number : ℕ) (p : PosedProblem) (is : IsAdmissibleWith command.second p) (wins : List ℕ)
      (each : length wins ≡ command.workers) (plain : (report : List ℕ) × IsReport number p report)
      (all : sum wins ≡ plain.1.1) where
    with_wins : (mode : Mode) → ReadsJob mode → (mode ≡ Lex → IsSome command.second)
        → (report : List ℕ) × IsReportWith mode command None number p wins report
    with_wins Best reads there = plain
    with_wins Serial reads there = plain
    with_wins Wins reads there =
        (plain.0 ++ wins_line wins, (plain.0, plain.1, subst (IsDemandedCount p) (sym all) plain.1.3, refl))
    with_wins Replay reads there =
        (plain.0 ++ wins_line wins, (plain.0, plain.1, subst (IsDemandedCount p) (sym all) plain.1.3, refl))
    with_wins Lex reads there =
        let found = by_both command.second number p (there refl) is in
        (found.0, (found.1, found.2, found.3))
    with_wins Cert reads there =
        let found = laws.block number p (own_admissible command.second p is) in
        (before_block number ++ found.0, (found.0, found.1, refl))
    with_wins Verify reads there = laws.score number p (own_admissible command.second p is)
    with_wins KBest reads there = laws.listed number p (own_admissible command.second p is) command.best
    with_wins Big reads there = absurd (reads refl)

    in_mode : ReadsJob command.mode → (command.mode ≡ Lex → IsSome command.second)
        → (report : List ℕ) × IsReportIn command None number p report
    in_mode reads there =
        let found = with_wins command.mode reads there in
        (found.0, (wins, each, found.1))

  -- one of the evaluators has all wins
  for_workers : (command : Command) (workers number : ℕ) (p : PosedProblem) → command.workers ≡ workers → 1 ≤ workers
      → ReadsJob command.mode → (command.mode ≡ Lex → IsSome command.second) → IsAdmissibleWith command.second p
      → (report : List ℕ) × IsReportIn command None number p report
  for_workers command zero number p is some reads there admissible = absurd (omega (arith, some))
  for_workers command (suc others) number p is some reads there admissible =
      let plain = laws.plain number p (own_admissible command.second p admissible) in
      let count = plain.1.1 in
      let all : sum (count ∷ no_wins others) ≡ count =
      sum_by-cons (λ (n : ℕ). n) count (no_wins others) ∙ ap (λ n. count + n) (no_wins_sum others) ∙ (omega arith) in
      in_mode command number p admissible (count ∷ no_wins others) (ap suc (no_wins_number others) ∙ sym is) plain all reads
      there

  pub report_asked_for : (command : Command) (hidden : Option ℕ) (number : ℕ) (p : PosedProblem)
      → ReadsJob command.mode → (command.mode ≡ Lex → IsSome command.second) → 1 ≤ command.workers
      → IsAdmissibleWith command.second p → HidesAlternatives hidden p.grammar
      → (report : List ℕ) × IsReportIn command hidden number p report
  report_asked_for command hidden number p reads there some admissible hides =
      let found = for_workers command command.workers number p refl some reads there admissible in
      let own = own_admissible command.second p admissible in (
        found.0,
        (
          found.1.0,
          found.1.1,
          (laws.nested p own.least own.greatest own.ranks own.checked hidden hides command.mode command number
              found.1.0 found.0).0 found.1.2,
        ),
      )
