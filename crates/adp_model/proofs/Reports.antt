-- A word has one report.
use Rattle.std.proofs.Common.{◌≡◌, ℕ, IsTrue, List, ◌++◌, codes, refl, sym, ap, ◌∙◌}
use Rattle.std.specs.Fmt.{decimal}
use Rattle.adp_model.specs.declared.cell.Answer.{Answer}
use Rattle.adp_model.specs.declared.cell.Answer.TheVariants.{NoCandidate, Best}
use Rattle.adp_model.specs.Answers.{IsAnswer}
use Rattle.adp_model.specs.PosedProblem.{PosedProblem, axiom_cell}
use Rattle.adp_model.specs.WellFormed.{is_well_formed}
use Rattle.adp_model.specs.Demand.{IsDemanded}
use Rattle.adp_model.specs.Scores.{score_of}
use Rattle.adp_model.specs.BigReport.{made_problem, big_lines, IsBigReport}
use Rattle.adp_model.specs.Report.{line, tree_lines, answer_lines, IsAnswerText, IsReport}
use Rattle.adp_model.proofs.CellLists.{count_unique}
use Rattle.adp_model.proofs.Order.{IsPreferred_unique-formed}

lines_unique : (p : PosedProblem) → IsTrue (is_well_formed p.grammar) → (answer other : Answer)
    (is : IsAnswer p (axiom_cell p) answer) (is' : IsAnswer p (axiom_cell p) other)
    → answer_lines p answer is ≡ answer_lines p other is'
lines_unique p formed (Best score choice) (Best score' choice') h k =
    ap (tree_lines p) (IsPreferred_unique-formed p (axiom_cell p) h.0 k.0 formed h.1 k.1)
lines_unique p formed (Best score choice) NoCandidate h none = absurd (none h.0 h.1.derived)
lines_unique p formed NoCandidate (Best score choice) none k = absurd (none k.0 k.1.derived)
lines_unique p formed NoCandidate NoCandidate none none' = refl

IsAnswerText_unique : (p : PosedProblem) → IsTrue (is_well_formed p.grammar) → (a b : List ℕ) → IsAnswerText p a
    → IsAnswerText p b → a ≡ b
IsAnswerText_unique p formed a b h k = h.2 ∙ lines_unique p formed h.0 k.0 h.1 k.1 ∙ sym k.2

pub IsReport_unique : (number : ℕ) (p : PosedProblem) (a b : List ℕ) → IsTrue (is_well_formed p.grammar) → IsReport number p a → IsReport number p b → a ≡ b
IsReport_unique number p a b formed h k =
    let answers : h.0 ≡ k.0 = IsAnswerText_unique p formed h.0 k.0 h.2 k.2 in
    let counts : h.1 ≡ k.1 = count_unique (IsDemanded p) (IsDemanded p) (λ cell. (λ x. x, λ x. x)) h.1 k.1 h.3 k.3 in
    h.4
    ∙ ap (λ answer. line (codes "word " ++ decimal number) ++ answer ++ line (codes "cells " ++ decimal h.1)) answers
    ∙ ap (λ count. line (codes "word " ++ decimal number) ++ k.0 ++ line (codes "cells " ++ decimal count)) counts
    ∙ sym k.4

pub IsBigReport_unique : (seed size : ℕ) (a b : List ℕ) → IsBigReport seed size a → IsBigReport seed size b → a ≡ b
IsBigReport_unique seed size a b h k =
    let p = made_problem seed size in
    let trees : h.0 ≡ k.0 = IsPreferred_unique-formed p (axiom_cell p) h.0 k.0 refl h.2 k.2 in
    let counts : h.1 ≡ k.1 = count_unique (IsDemanded p) (IsDemanded p) (λ cell. (λ x. x, λ x. x)) h.1 k.1 h.3 k.3 in
    h.4
    ∙ (λ i. big_lines size (score_of p (trees i)) (counts i))
    ∙ sym k.4
