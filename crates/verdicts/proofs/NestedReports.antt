-- Reports under a nested grammar are those under the plain one.
use Rattle.std.proofs.Common.{◌≡◌, ◌↔◌, ℕ, Option, None, Some, List}
use Rattle.adp_model.specs.declared.grammar.Grammar.{Grammar}
use Rattle.adp_model.specs.PosedProblem.{PosedProblem}
use Rattle.adp_model.specs.Report.{IsReport, IsWinsReport}
use Rattle.first_trees.specs.ListReport.{IsListReport}
use Rattle.first_trees.specs.NestedListReport.{IsNestedListReport}
use Rattle.nested_trees.specs.HiddenRules.{AreNestedAlternatives}
use Rattle.nested_trees.specs.NestedReport.{IsNestedReport, IsNestedWinsReport}
use Rattle.table_certificate.specs.ScoreReports.{IsScoreReport}
use Rattle.verdicts.specs.declared.command.Mode.{Mode}
use Rattle.verdicts.specs.declared.command.Mode.TheVariants.{Best, Serial, Wins, Replay, Lex, Cert, Verify, KBest, Big}
use Rattle.verdicts.specs.Command.{Command}
use Rattle.verdicts.specs.NestedScores.{IsNestedScoreReport}
use Rattle.verdicts.specs.Verdict.{IsReportWith}
use Rattle.verdicts.specs.WordReport.{HidesAlternatives, IsWordListReport, IsWordReport, IsWordScoreReport, IsWordWinsReport}

-- what is hidden is nested, where it is so of each number of hidden rules
pub hides_of : (grammar : Grammar) (hidden : Option ℕ)
    → ((number : ℕ) → hidden ≡ Some number → AreNestedAlternatives grammar number) → HidesAlternatives hidden grammar
hides_of grammar None nested = tt
hides_of grammar (Some number) nested = nested number (λ i. Some number)

same : {A : Type 0} → A ↔ A
same = (λ is. is, λ is. is)

module _ (p : PosedProblem)
    (report_is : (hidden : ℕ) → AreNestedAlternatives p.grammar hidden → (number : ℕ) (report : List ℕ)
    → IsReport number p report ↔ IsNestedReport number p hidden report)
    (wins_is : (hidden : ℕ) → AreNestedAlternatives p.grammar hidden → (number : ℕ) (wins report : List ℕ)
    → IsWinsReport number p wins report ↔ IsNestedWinsReport number p hidden wins report)
    (list_is : (hidden : ℕ) → AreNestedAlternatives p.grammar hidden → (number best : ℕ) (report : List ℕ)
    → IsListReport number p best report ↔ IsNestedListReport number p hidden best report)
    (score_is : (hidden : ℕ) → AreNestedAlternatives p.grammar hidden → (number : ℕ) (report : List ℕ)
    → IsScoreReport number p report ↔ IsNestedScoreReport number p hidden report) where
  of_word : (hidden : Option ℕ) → HidesAlternatives hidden p.grammar → (number : ℕ) (report : List ℕ)
      → IsReport number p report ↔ IsWordReport hidden number p report
  of_word None hides number report = same
  of_word (Some hidden) hides number report = report_is hidden hides number report

  of_wins : (hidden : Option ℕ) → HidesAlternatives hidden p.grammar → (number : ℕ) (wins report : List ℕ)
      → IsWinsReport number p wins report ↔ IsWordWinsReport hidden number p wins report
  of_wins None hides number wins report = same
  of_wins (Some hidden) hides number wins report = wins_is hidden hides number wins report

  of_list : (hidden : Option ℕ) → HidesAlternatives hidden p.grammar → (number best : ℕ) (report : List ℕ)
      → IsListReport number p best report ↔ IsWordListReport hidden number p best report
  of_list None hides number best report = same
  of_list (Some hidden) hides number best report = list_is hidden hides number best report

  of_score : (hidden : Option ℕ) → HidesAlternatives hidden p.grammar → (number : ℕ) (report : List ℕ)
      → IsScoreReport number p report ↔ IsWordScoreReport hidden number p report
  of_score None hides number report = same
  of_score (Some hidden) hides number report = score_is hidden hides number report

  pub plain_in_mode : (hidden : Option ℕ) → HidesAlternatives hidden p.grammar → (mode : Mode)
      (command : Command) (number : ℕ) (wins report : List ℕ)
      → IsReportWith mode command None number p wins report ↔ IsReportWith mode command hidden number p wins report
  plain_in_mode hidden hides Best command number wins report = of_word hidden hides number report
  plain_in_mode hidden hides Serial command number wins report = of_word hidden hides number report
  plain_in_mode hidden hides Wins command number wins report = of_wins hidden hides number wins report
  plain_in_mode hidden hides Replay command number wins report = of_wins hidden hides number wins report
  plain_in_mode hidden hides Lex command number wins report = same
  plain_in_mode hidden hides Cert command number wins report = same
  plain_in_mode hidden hides Verify command number wins report = of_score hidden hides number report
  plain_in_mode hidden hides KBest command number wins report = of_list hidden hides number command.best report
  plain_in_mode hidden hides Big command number wins report = same
