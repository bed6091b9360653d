-- A word has exactly one report by a pair of algebras.
use Rattle.std.proofs.Common.{◌≡◌, inl, inr, ◌++◌, ℕ, List, refl, sym, ap, ◌∙◌}
use Rattle.std.specs.Prelude.{codes}
use Rattle.std.specs.Fmt.{decimal}
use Rattle.adp_model.specs.declared.cell.Answer.{Answer}
use Rattle.adp_model.specs.declared.cell.Answer.TheVariants.{NoCandidate, Best}
use Rattle.adp_model.specs.PosedProblem.{PosedProblem, axiom_cell}
use Rattle.adp_model.specs.Tree.{Tree}
use Rattle.adp_model.specs.Preference.{IsPreferred}
use Rattle.adp_model.specs.Answers.{IsAnswer}
use Rattle.adp_model.specs.Demand.{IsDemandedCount}
use Rattle.adp_model.specs.Report.{line, IsReport}
use Rattle.lex_product.specs.CompiledGrammar.{compiled_problem, multiplier_of}
use Rattle.lex_product.specs.Compilable.{IsCompilable}
use Rattle.lex_product.specs.PairReport.{pair_lines, IsPairAnswerText, IsPairReport}
use Rattle.lex_product.proofs.OtherAlgebras.{derived_moved, count_moved}
use Rattle.lex_product.proofs.PairLaw.{ModelLaws, preferred_pairs}

module _ (laws : ModelLaws) (p : PosedProblem) (second bound : ℕ) (can : IsCompilable p second bound) where
  abbrev c : PosedProblem
  c = compiled_problem p second (multiplier_of bound)

  answer_text : (answer : Answer) → IsAnswer c (axiom_cell c) answer → (text : List ℕ) × IsPairAnswerText p second text
  answer_text (Best score choice) (tree, preferred, is, at) =
      (pair_lines p second tree, inl (tree, (preferred_pairs laws p second bound can (axiom_cell p) tree).0 preferred, refl))
  answer_text NoCandidate none =
      (line (codes "none"), inr ((λ tree derived. none tree (derived_moved p c.grammar.algebras p.algebra (axiom_cell p) tree derived)), refl))

  pub report_there : (number : ℕ) (report : List ℕ) → IsReport number c report → (pair_report : List ℕ) × IsPairReport number p second pair_report
  report_there number report h =
      let found = answer_text h.2.0 h.2.1 in
      (line (codes "word " ++ decimal number) ++ found.0 ++ line (codes "cells " ++ decimal h.1), (found.0, h.1, found.1, count_moved c p.grammar.algebras p.algebra h.1 h.3, refl))

  module _ (unique : (t u : Tree) → IsPreferred c (axiom_cell p) t → IsPreferred c (axiom_cell p) u → t ≡ u) where
    answer_one : (a b : List ℕ) → IsPairAnswerText p second a → IsPairAnswerText p second b → a ≡ b
    answer_one a b (inl (t, first, is)) (inl (u, other, is')) =
        let same = unique t u ((preferred_pairs laws p second bound can (axiom_cell p) t).1 first) ((preferred_pairs laws p second bound can (axiom_cell p) u).1 other) in
        is ∙ ap (pair_lines p second) same ∙ sym is'
    answer_one a b (inl (t, first, is)) (inr (none, is')) = absurd (none t first.derived)
    answer_one a b (inr (none, is)) (inl (u, other, is')) = absurd (none u other.derived)
    answer_one a b (inr (none, is)) (inr (none', is')) = is ∙ sym is'

    pub report_one : ((a b : ℕ) → IsDemandedCount p a → IsDemandedCount p b → a ≡ b) → (number : ℕ) (a b : List ℕ) → IsPairReport number p second a → IsPairReport number p second b → a ≡ b
    report_one counts number a b h k =
        let answers = answer_one h.0 k.0 h.2 k.2 in
        let cells = counts h.1 k.1 h.3 k.3 in
        h.4 ∙ ap (λ text. line (codes "word " ++ decimal number) ++ text ++ line (codes "cells " ++ decimal h.1)) answers
        ∙ ap (λ count. line (codes "word " ++ decimal number) ++ k.0 ++ line (codes "cells " ++ decimal count)) cells ∙ sym k.4
