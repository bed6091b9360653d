-- The best score of a word over its nested trees, as the check of a certificate tells it.
use Rattle.std.specs.Prelude.{◌≡◌, ℕ, ℤ, Option, Some, None, List}
use Rattle.adp_model.specs.declared.grammar.Arg.TheVariants.{Rule}
use Rattle.adp_model.specs.PosedProblem.{PosedProblem}
use Rattle.adp_model.specs.Parts.{algebra_of}
use Rattle.adp_model.specs.Scores.{IsBetter}
use Rattle.nested_trees.specs.Patterns.{Plain, Patterns, NestedProblem, HidesRules}
use Rattle.nested_trees.specs.NestedTree.{NestedTree}
use Rattle.nested_trees.specs.NestedDerivation.{IsNestedCandidate}
use Rattle.nested_trees.specs.NestedScores.{nested_score}
use Rattle.table_certificate.specs.ScoreReports.{score_lines}

-- the score of a nested candidate, which meets the pattern that names the axiom
abbrev pub candidate_score : NestedProblem → NestedTree → ℤ
candidate_score q tree = nested_score q (Plain (Rule q.plain.grammar.axiom)) tree

-- some nested candidate has this score, and none a better one; nothing stands for no nested candidate at all
abbrev pub IsBestNestedScore : NestedProblem → Option ℤ → Type 0
IsBestNestedScore q None = (tree : NestedTree) → IsNestedCandidate q tree → ⊥
IsBestNestedScore q (Some score) =
    ((tree : NestedTree) × IsNestedCandidate q tree × (score ≡ candidate_score q tree))
    × ((tree : NestedTree) → IsNestedCandidate q tree
    → IsBetter (algebra_of q.plain).goal (candidate_score q tree) score → ⊥)

-- the lines of the word with this number, with the best score under the nested grammar of which so many rules are hidden
abbrev pub IsNestedScoreReport : ℕ → PosedProblem → ℕ → List ℕ → Type 0
IsNestedScoreReport number p hidden report =
    (patterns : ℕ → ℕ → Patterns) × HidesRules (record { plain = p; patterns = patterns }) hidden
    × (score : Option ℤ) × IsBestNestedScore (record { plain = p; patterns = patterns }) score
    × (report ≡ score_lines number score)
