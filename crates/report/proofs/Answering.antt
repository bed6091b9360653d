-- The lines of an answer.
use Rattle.std.proofs.Common.{◌≡◌, ℕ, ℤ, List, [], ◌∷◌, ◌++◌, codes, sym, ap, ap₂, subst, ◌∙◌, append_assoc}
use Rattle.std.specs.Fmt.{signed_decimal}
use Rattle.adp_model.specs.declared.cell.Answer.{Answer}
use Rattle.adp_model.specs.declared.cell.Answer.TheVariants.{Best}
use Rattle.adp_model.specs.declared.cell.Choice.{Choice}
use Rattle.adp_model.specs.PosedProblem.{PosedProblem, axiom_cell}
use Rattle.adp_model.specs.Tree.{Tree}
use Rattle.adp_model.specs.Preference.{IsPreferred}
use Rattle.adp_model.specs.Answers.{IsAnswer}
use Rattle.adp_model.specs.Report.{line, IsAnswerText}
use Rattle.adp_model.specs.TreeText.{tree_text}
use Rattle.report.specs.Pieces.{IsBestText}

-- the lines of a candidate, as they are put together
pub best_lines : (p : PosedProblem) (answer : Answer) (score : ℤ) (choice : Choice) (text : List ℕ) → answer ≡ Best score choice
    → ((t u : Tree) → IsPreferred p (axiom_cell p) t → IsPreferred p (axiom_cell p) u → t ≡ u)
    → IsAnswer p (axiom_cell p) answer → IsBestText p text
    → IsAnswerText p (line (codes "score " ++ signed_decimal score) ++ line (codes "tree " ++ text))
best_lines p answer score choice text is unique answered (tree, preferred, text_is) =
    let a : IsAnswer p (axiom_cell p) (Best score choice) = subst (λ x. IsAnswer p (axiom_cell p) x) is answered in
    let same : a.0 ≡ tree = unique a.0 tree a.1 preferred in
    let text_is' : text ≡ tree_text p a.0 = text_is ∙ ap (tree_text p) (sym same) in
    (Best score choice, a, ap₂ (λ s t. line (codes "score " ++ signed_decimal s) ++ line (codes "tree " ++ t)) a.2 text_is')

pub appended_lines : (old score_word score tree_word text one two three four new : List ℕ)
    → one ≡ old ++ score_word → two ≡ one ++ score → three ≡ two ++ 10 ∷ tree_word → four ≡ three ++ text → new ≡ four ++ 10 ∷ []
    → new ≡ old ++ (line (score_word ++ score) ++ line (tree_word ++ text))
appended_lines old score_word score tree_word text one two three four new a b c d e =
    e ∙ ap (λ x. x ++ 10 ∷ []) (d ∙ ap (λ x. x ++ text) (c ∙ ap (λ x. x ++ 10 ∷ tree_word) (b ∙ ap (λ x. x ++ score) a))) ∙ simp append_assoc
