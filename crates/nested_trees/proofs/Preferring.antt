-- Erasing keeps which tree is preferred, whether there is one, and so the reports.
use Rattle.std.proofs.Common.{◌≡◌, Option, ℕ, inl, inr, ◌↔◌, List, ◌++◌, codes, refl, sym, ap, ap₂, subst, ◌∙◌}
use Rattle.std.specs.Fmt.{signed_decimal}
use Rattle.adp_model.specs.declared.grammar.Arg.TheVariants.{Rule}
use Rattle.adp_model.specs.declared.grammar.Grammar.{Grammar}
use Rattle.adp_model.specs.declared.cell.Cell.{Cell}
use Rattle.adp_model.specs.PosedProblem.{PosedProblem, axiom_cell}
use Rattle.adp_model.specs.Tree.{Tree}
use Rattle.adp_model.specs.Derivation.{Derives}
use Rattle.adp_model.specs.Preference.{IsPreferred}
use Rattle.adp_model.specs.declared.cell.Answer.{Answer}
use Rattle.adp_model.specs.declared.cell.Answer.TheVariants.{NoCandidate, Best}
use Rattle.adp_model.specs.Answers.{choice_of, HasNoTree, IsAnswer}
use Rattle.adp_model.specs.Scores.{score_of}
use Rattle.adp_model.specs.Report.{line, tree_lines, answer_lines, IsAnswerText, IsReport, IsWinsReport}
use Rattle.adp_model.specs.Checks.{IsChecked}
use Rattle.nested_trees.specs.HiddenRules.{AreNestedAlternatives}
use Rattle.nested_trees.specs.Patterns.{Plain, NestedProblem, HidesRules}
use Rattle.nested_trees.specs.NestedTree.{NestedTree}
use Rattle.nested_trees.specs.NestedDerivation.{DerivesNested}
use Rattle.nested_trees.specs.NestedPreference.{IsNestedBefore, IsNestedPreferred, HasNoNestedTree}
use Rattle.nested_trees.specs.NestedReport.{nested_tree_lines, IsNestedAnswerText, IsNestedReport, IsNestedWinsReport}
use Rattle.nested_trees.specs.Erasure.{erased, restored}
use Rattle.nested_trees.proofs.Erasing.{derived-erased}
use Rattle.nested_trees.proofs.Restoring.{derived-restored}
use Rattle.nested_trees.proofs.Scoring.{score-erased, text-erased}
use Rattle.nested_trees.proofs.Ordering.{before-erased}
use Rattle.nested_trees.proofs.Patterned.{nested_there, productive-checked}

module _ (q : NestedProblem) (hidden : ℕ) (alone : AreNestedAlternatives q.plain.grammar hidden)
    (hides : HidesRules q hidden) where
  abbrev p : PosedProblem
  p = q.plain

  abbrev g : Grammar
  g = q.plain.grammar

  pub onto-erased : (cell : Cell) (nested : NestedTree) → DerivesNested q cell nested → (tree : Tree)
      × Derives p cell tree × (nested ≡ erased g hidden tree)
  onto-erased cell nested d =
      let back = derived-restored q hidden alone hides cell nested d in
      (restored g cell.rule nested, back.0, sym back.1)

  pub preferred-erased : (cell : Cell) (tree : Tree) → IsPreferred p cell tree
      → IsNestedPreferred q cell (erased g hidden tree)
  preferred-erased cell tree preferred = record {
    derived = derived-erased q hidden alone hides cell tree preferred.derived;
    first = λ other d before.
        let found = onto-erased cell other d in
        preferred.first found.0 found.1
        ((before-erased q hidden alone hides cell found.0 tree found.1 preferred.derived).1
        (subst (λ t. IsNestedBefore q cell t (erased g hidden tree)) found.2 before));
  }

  pub preferred-onto : (cell : Cell) (nested : NestedTree) → IsNestedPreferred q cell nested → (tree : Tree)
      × IsPreferred p cell tree × (nested ≡ erased g hidden tree)
  preferred-onto cell nested preferred =
      let found = onto-erased cell nested preferred.derived in (
        found.0,
        record {
          derived = found.1;
          first =
              λ other d before. preferred.first (erased g hidden other)
              (derived-erased q hidden alone hides cell other d)
              (subst (λ t. IsNestedBefore q cell (erased g hidden other) t) (sym found.2)
              ((before-erased q hidden alone hides cell other found.0 d found.1).0 before));
        },
        found.2,
      )

  pub none-erased : (cell : Cell) → HasNoTree p cell ↔ HasNoNestedTree q cell
  none-erased cell = (
    (λ none nested d. let found = onto-erased cell nested d in none found.0 found.1),
    (λ none tree d. none (erased g hidden tree) (derived-erased q hidden alone hides cell tree d)),
  )

  -- ---- reports

  lines-erased : (tree : Tree) → Derives p (axiom_cell p) tree
      → nested_tree_lines q (erased g hidden tree) ≡ tree_lines p tree
  lines-erased tree d =
      ap₂ (λ score text. line (codes "score " ++ signed_decimal score) ++ line (codes "tree " ++ text))
      (score-erased q hidden alone hides (Plain (Rule g.axiom)) (axiom_cell p) tree d) (text-erased p hidden tree)

  told_nested : (answer : Answer) (is : IsAnswer p (axiom_cell p) answer)
      → IsNestedAnswerText q (answer_lines p answer is)
  told_nested (Best score choice) found =
      inl (
        erased g hidden found.0,
        preferred-erased (axiom_cell p) found.0 found.1,
        sym (lines-erased found.0 found.1.derived),
      )
  told_nested NoCandidate none = inr ((none-erased (axiom_cell p)).0 none, refl)

  to_nested : (text : List ℕ) → IsAnswerText p text → IsNestedAnswerText q text
  to_nested text (answer, is, told) = subst (IsNestedAnswerText q) (sym told) (told_nested answer is)

  to_plain : (text : List ℕ) → IsNestedAnswerText q text → IsAnswerText p text
  to_plain text (inl found) =
      let tree = preferred-onto (axiom_cell p) found.0 found.1 in (
        Best (score_of p tree.0) (choice_of tree.0),
        (tree.0, tree.1, refl, refl),
        found.2 ∙ ap (nested_tree_lines q) tree.2 ∙ lines-erased tree.0 tree.1.derived,
      )
  to_plain text (inr none) = (NoCandidate, (none-erased (axiom_cell p)).1 none.0, none.1)

  pub answer-erased : (text : List ℕ) → IsAnswerText p text ↔ IsNestedAnswerText q text
  answer-erased text = (to_nested text, to_plain text)

-- a checked problem under a grammar with nested alternatives
module _ (p : PosedProblem) (least : List ℕ) (greatest : List (Option ℕ)) (ranks : List ℕ)
    (checked : IsChecked p.grammar p.algebra least greatest ranks) (hidden : ℕ)
    (alone : AreNestedAlternatives p.grammar hidden) where
  pub report_to_nested : (number : ℕ) (report : List ℕ) → IsReport number p report
      → IsNestedReport number p hidden report
  report_to_nested number report (answer, count, told, counted, is) =
      let found =
      nested_there p hidden alone
      (productive-checked p.grammar p.algebra least greatest ranks checked hidden) in (
        found.0,
        found.1,
        answer,
        count,
        (answer-erased
            (record { plain = p; patterns = found.0 }) hidden alone found.1 answer).0 told,
        counted,
        is,
      )

  pub report_to_plain : (number : ℕ) (report : List ℕ) → IsNestedReport number p hidden report
      → IsReport number p report
  report_to_plain number report (patterns, hides, answer, count, told, counted, is) = (
    answer,
    count,
    (answer-erased (record
        { plain = p; patterns = patterns }) hidden alone hides answer).1 told,
    counted,
    is,
  )

  pub report-erased : (number : ℕ) (report : List ℕ) → IsReport number p report
      ↔ IsNestedReport number p hidden report
  report-erased number report = (report_to_nested number report, report_to_plain number report)

  pub wins-erased : (number : ℕ) (wins report : List ℕ) → IsWinsReport number p wins report
      ↔ IsNestedWinsReport number p hidden wins report
  wins-erased number wins report = (
    (λ (own, told, counted, is). (own, report_to_nested number own told, counted, is)),
    (λ (own, told, counted, is). (own, report_to_plain number own told, counted, is)),
  )
