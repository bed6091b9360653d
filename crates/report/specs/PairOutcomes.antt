-- What is found of a word under the compiled algebra of two in order, and the lines that tell it.
use Rattle.std.specs.Prelude.{◌≡◌, ℕ, ℤ, Option, Some, None, List, ◌++◌, codes}
use Rattle.std.specs.Fmt.{signed_decimal}
use Rattle.adp_model.specs.PosedProblem.{PosedProblem, axiom_cell}
use Rattle.adp_model.specs.Tree.{Tree}
use Rattle.adp_model.specs.Preference.{IsPreferred}
use Rattle.adp_model.specs.Answers.{HasNoTree}
use Rattle.adp_model.specs.Report.{line}
use Rattle.lex_product.specs.CompiledGrammar.{compiled_problem, multiplier_of}
use Rattle.lex_product.specs.Compilable.{IsCompilable}
use Rattle.lex_product.specs.PairOrder.{scores_of}
use Rattle.report.specs.Pieces.{IsBestText}

-- there are scores where there is a preferred tree
abbrev pub AreThere : PosedProblem → Option (ℤ × ℤ) → Type 0
AreThere compiled None = HasNoTree compiled (axiom_cell compiled)
AreThere compiled (Some scores) = (tree : Tree) × IsPreferred compiled (axiom_cell compiled) tree

-- the scores are the preferred tree's under the problem's algebra and under the second one
abbrev pub AreScoresOf : PosedProblem → ℕ → PosedProblem → Option (ℤ × ℤ) → Type 0
AreScoresOf p second compiled None = HasNoTree compiled (axiom_cell compiled)
AreScoresOf p second compiled (Some scores) =
    (tree : Tree) × IsPreferred compiled (axiom_cell compiled) tree × (scores ≡ scores_of p second tree)

-- the compiled problem is the pair's, and the scores are those of its preferred tree
pub record IsOutcomeOf (p : PosedProblem) (second : ℕ) (compiled : PosedProblem) (scores : Option (ℤ × ℤ)) : Type 0 where
  pub bound : ℕ
  pub compilable : IsCompilable p second bound
  pub same : compiled ≡ compiled_problem p second (multiplier_of bound)
  pub scores_are : AreScoresOf p second compiled scores

-- the line of both scores
abbrev pub scores_line : ℤ × ℤ → List ℕ
scores_line scores = line (codes "score " ++ signed_decimal scores.0 ++ codes " " ++ signed_decimal scores.1)

-- the lines of these scores and the preferred tree, or the line of a word without a candidate
abbrev pub IsPairText : PosedProblem → Option (ℤ × ℤ) → List ℕ → Type 0
IsPairText compiled None text = text ≡ line (codes "none")
IsPairText compiled (Some scores) text =
    (tree : List ℕ) × IsBestText compiled tree × (text ≡ scores_line scores ++ line (codes "tree " ++ tree))
