-- The report of one word of a job: under its grammar, or under the nested one where the last rules of the grammar, so
-- many as are hidden, are alternatives that stand as arguments in its text.
use Rattle.std.specs.Prelude.{ℕ, Option, None, Some, List}
use Rattle.adp_model.specs.declared.grammar.Grammar.{Grammar}
use Rattle.adp_model.specs.PosedProblem.{PosedProblem}
use Rattle.adp_model.specs.Report.{IsReport, IsWinsReport}
use Rattle.nested_trees.specs.HiddenRules.{AreNestedAlternatives}
use Rattle.first_trees.specs.ListReport.{IsListReport}
use Rattle.first_trees.specs.NestedListReport.{IsNestedListReport}
use Rattle.nested_trees.specs.NestedReport.{IsNestedReport, IsNestedWinsReport}
use Rattle.table_certificate.specs.ScoreReports.{IsScoreReport}
use Rattle.verdicts.specs.NestedScores.{IsNestedScoreReport}

-- the hidden rules of the grammar, where there are any, are nested alternatives
abbrev pub HidesAlternatives : Option ℕ → Grammar → Type 0
HidesAlternatives None grammar = Unit {0}
HidesAlternatives (Some hidden) grammar = AreNestedAlternatives grammar hidden

-- the report of the word with this number, counted from 1
abbrev pub IsWordReport : Option ℕ → ℕ → PosedProblem → List ℕ → Type 0
IsWordReport None number p report = IsReport number p report
IsWordReport (Some hidden) number p report = IsNestedReport number p hidden report

-- the same with the wins of the evaluators
abbrev pub IsWordWinsReport : Option ℕ → ℕ → PosedProblem → List ℕ → List ℕ → Type 0
IsWordWinsReport None number p wins report = IsWinsReport number p wins report
IsWordWinsReport (Some hidden) number p wins report = IsNestedWinsReport number p hidden wins report

-- the report of its first candidates, so many
abbrev pub IsWordListReport : Option ℕ → ℕ → PosedProblem → ℕ → List ℕ → Type 0
IsWordListReport None number p best report = IsListReport number p best report
IsWordListReport (Some hidden) number p best report = IsNestedListReport number p hidden best report

-- the report of its best score
abbrev pub IsWordScoreReport : Option ℕ → ℕ → PosedProblem → List ℕ → Type 0
IsWordScoreReport None number p report = IsScoreReport number p report
IsWordScoreReport (Some hidden) number p report = IsNestedScoreReport number p hidden report
