-- Reports of first trees.
use Rattle.std.proofs.Common.{◌≡◌, ℕ, inl, inr, ◌↔◌, List, [], ◌∷◌, ◌++◌, length, codes, decimal, refl, sym, ap, ◌∙◌, arith}
use Rattle.adp_model.specs.declared.cell.Answer.TheVariants.{NoCandidate, Best}
use Rattle.adp_model.specs.PosedProblem.{PosedProblem, axiom_cell}
use Rattle.adp_model.specs.Tree.{Tree}
use Rattle.adp_model.specs.Preference.{IsPreferred}
use Rattle.adp_model.specs.Answers.{HasNoTree}
use Rattle.adp_model.specs.Report.{IsReport, line, tree_lines}
use Rattle.first_trees.specs.FirstTrees.{AreFirst}
use Rattle.first_trees.specs.ListReport.{lines_of, IsListReport, IsPreferredReport, TellOneCandidate}

-- the report of these trees
abbrev pub report_of : ℕ → PosedProblem → List Tree → List ℕ
report_of number p trees =
    line (codes "word " ++ decimal number) ++ lines_of p trees ++ line (codes "listed " ++ decimal (length trees))

nothing_behind : (xs : List ℕ) → xs ++ [] ≡ xs
nothing_behind [] = refl
nothing_behind (x ∷ xs) = ap (λ ys. x ∷ ys) (nothing_behind xs)

one_tree : (number : ℕ) (p : PosedProblem) (tree : Tree)
    → report_of number p (tree ∷ [])
    ≡ line (codes "word " ++ decimal number) ++ tree_lines p tree ++ line (codes "listed " ++ decimal 1)
one_tree number p tree =
    ap (λ lines. line (codes "word " ++ decimal number) ++ lines ++ line (codes "listed " ++ decimal 1))
    (nothing_behind (tree_lines p tree))

no_tree : (number : ℕ) (p : PosedProblem)
    → report_of number p [] ≡ line (codes "word " ++ decimal number) ++ line (codes "listed " ++ decimal 0)
no_tree number p =
    ap (λ lines. lines ++ line (codes "listed " ++ decimal 0)) (nothing_behind (line (codes "word " ++ decimal number)))

module _ (p : PosedProblem)
    (first : (tree : Tree) (others : List Tree) → AreFirst p (axiom_cell p) 1 (tree ∷ others)
    → IsPreferred p (axiom_cell p) tree)
    (alone : (tree : Tree) → IsPreferred p (axiom_cell p) tree → AreFirst p (axiom_cell p) 1 (tree ∷ []))
    (none : HasNoTree p (axiom_cell p) ↔ AreFirst p (axiom_cell p) 1 []) (number : ℕ) (report : List ℕ) where
  there : (trees : List Tree) → AreFirst p (axiom_cell p) 1 trees → report ≡ report_of number p trees
      → IsPreferredReport number p report
  there [] listed told = inr (none.1 listed, told ∙ no_tree number p)
  there (tree ∷ []) listed told = inl (tree, first tree [] listed, told ∙ one_tree number p tree)
  there (tree ∷ next ∷ trees) listed told = let few = listed.few in absurd (omega arith)

  back : IsPreferredReport number p report → IsListReport number p 1 report
  back (inl found) = (found.0 ∷ [], alone found.0 found.1, found.2 ∙ sym (one_tree number p found.0))
  back (inr empty) = ([], none.0 empty.0, empty.1 ∙ sym (no_tree number p))

  pub preferred_reported : IsListReport number p 1 report ↔ IsPreferredReport number p report
  preferred_reported = ((λ listed. there listed.0 listed.1 listed.2), back)

-- the answer of the word and its one first tree are one
pub answer_told : (p : PosedProblem) → ((t u : Tree) → IsPreferred p (axiom_cell p) t → IsPreferred p (axiom_cell p) u → t ≡ u)
    → (number : ℕ) (report listed : List ℕ) → IsReport number p report → IsPreferredReport number p listed
    → TellOneCandidate number p report listed
answer_told p one number report listed (answer, count, (Best score choice, (tree, preferred, is, at), text), counted, told) (inl (other, best, same)) = (
  count,
  inl (
    tree,
    preferred,
    told ∙ ap (λ lines. line (codes "word " ++ decimal number) ++ lines ++ line (codes "cells " ++ decimal count)) text,
    same ∙ ap (λ (it : Tree). line (codes "word " ++ decimal number) ++ tree_lines p it ++ line (codes "listed " ++ decimal 1))
        (one other tree best preferred),
  ),
)
answer_told p one number report listed (answer, count, (Best score choice, (tree, preferred, is, at), text), counted, told) (inr (none, same)) =
    absurd (none tree preferred.derived)
answer_told p one number report listed (answer, count, (NoCandidate, none, text), counted, told) (inl (tree, preferred, same)) =
    absurd (none tree preferred.derived)
answer_told p one number report listed (answer, count, (NoCandidate, none, text), counted, told) (inr (none', same)) = (
  count,
  inr (
    none,
    told ∙ ap (λ lines. line (codes "word " ++ decimal number) ++ lines ++ line (codes "cells " ++ decimal count)) text,
    same,
  ),
)
