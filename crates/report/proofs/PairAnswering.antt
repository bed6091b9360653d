-- The lines of an answer with both scores.
use Rattle.std.proofs.Common.{◌≡◌, ◌↔◌, ℕ, ℤ, inl, inr, Option, Some, None, List, [], ◌∷◌, ◌++◌, codes, ap, ap₂, append_assoc, ◌∙◌}
use Rattle.adp_model.specs.declared.cell.Cell.{Cell}
use Rattle.adp_model.specs.PosedProblem.{PosedProblem, axiom_cell}
use Rattle.adp_model.specs.Tree.{Tree}
use Rattle.adp_model.specs.Derivation.{Derives}
use Rattle.adp_model.specs.Preference.{IsPreferred}
use Rattle.adp_model.specs.TreeText.{tree_text}
use Rattle.adp_model.specs.Report.{line}
use Rattle.lex_product.specs.CompiledGrammar.{compiled_problem}
use Rattle.lex_product.specs.PairOrder.{IsPairPreferred}
use Rattle.lex_product.specs.PairReport.{IsPairAnswerText}
use Rattle.report.specs.PairOutcomes.{AreScoresOf, IsPairText, scores_line}

-- what the compiled algebra keeps of a pair's problem
pub record Keeps (p : PosedProblem) (second multiplier : ℕ) : Type 0 where
  pub trees : (cell : Cell) (tree : Tree) → Derives p cell tree ↔ Derives (compiled_problem p second multiplier) cell tree
  pub texts : (tree : Tree) → tree_text (compiled_problem p second multiplier) tree ≡ tree_text p tree
  pub preferred : (cell : Cell) (tree : Tree) → IsPreferred (compiled_problem p second multiplier) cell tree ↔ IsPairPreferred p second cell tree
  pub one : (t u : Tree) → IsPreferred (compiled_problem p second multiplier) (axiom_cell p) t → IsPreferred (compiled_problem p second multiplier) (axiom_cell p) u → t ≡ u

pub pair_text : (p : PosedProblem) (second multiplier : ℕ) → Keeps p second multiplier → (scores : Option (ℤ × ℤ)) (text : List ℕ)
    → AreScoresOf p second (compiled_problem p second multiplier) scores → IsPairText (compiled_problem p second multiplier) scores text → IsPairAnswerText p second text
pair_text p second multiplier keeps None text none is = inr ((λ tree derived. none tree ((keeps.trees (axiom_cell p) tree).0 derived)), is)
pair_text p second multiplier keeps (Some scores) text (tree, first, scores_are) (written, (other, preferred, written_is), is) =
    let same : other ≡ tree = keeps.one other tree preferred first in
    let text_is : written ≡ tree_text p tree = written_is ∙ keeps.texts other ∙ ap (tree_text p) same in
    inl (tree, (keeps.preferred (axiom_cell p) tree).0 first, is ∙ ap₂ (λ s t. scores_line s ++ line (codes "tree " ++ t)) scores_are text_is)

-- the lines of a candidate, as they are put together
pub appended_pair : (old scores tree_word text one two three new : List ℕ)
    → one ≡ old ++ scores → two ≡ one ++ tree_word → three ≡ two ++ text → new ≡ three ++ 10 ∷ []
    → new ≡ old ++ (scores ++ line (tree_word ++ text))
appended_pair old scores tree_word text one two three new a b c d =
    d ∙ ap (λ x. x ++ 10 ∷ []) (c ∙ ap (λ x. x ++ text) (b ∙ ap (λ x. x ++ tree_word) a)) ∙ simp append_assoc
