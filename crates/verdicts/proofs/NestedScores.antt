-- The best score over all nested candidates is that over all candidates of the plain grammar.
use Rattle.std.proofs.Common.{◌≡◌, ◌↔◌, ℕ, ℤ, Option, Some, None, List, refl, sym, ap, subst, ◌∙◌}
use Rattle.adp_model.specs.declared.cell.Cell.{Cell}
use Rattle.adp_model.specs.declared.grammar.Arg.TheVariants.{Rule}
use Rattle.adp_model.specs.PosedProblem.{PosedProblem, axiom_cell}
use Rattle.adp_model.specs.Parts.{algebra_of}
use Rattle.adp_model.specs.Tree.{Tree}
use Rattle.adp_model.specs.Derivation.{Derives}
use Rattle.adp_model.specs.Scores.{score_of, IsBetter}
use Rattle.nested_trees.specs.Patterns.{Pattern, Plain, Patterns, NestedProblem, HidesRules}
use Rattle.nested_trees.specs.NestedTree.{NestedTree}
use Rattle.nested_trees.specs.NestedDerivation.{DerivesNested}
use Rattle.nested_trees.specs.NestedScores.{nested_score}
use Rattle.nested_trees.specs.Erasure.{erased}
use Rattle.table_certificate.specs.BestScores.{IsBestScore}
use Rattle.table_certificate.specs.ScoreReports.{IsScoreReport}
use Rattle.verdicts.specs.NestedScores.{candidate_score, IsBestNestedScore, IsNestedScoreReport}

-- the laws on erasing that this rests on
pub record AreErasureLaws (q : NestedProblem) (hidden : ℕ) : Type 0 where
  pub derived : (cell : Cell) (tree : Tree) → Derives q.plain cell tree
      → DerivesNested q cell (erased q.plain.grammar hidden tree)
  pub onto : (cell : Cell) (nested : NestedTree) → DerivesNested q cell nested
      → (tree : Tree) × Derives q.plain cell tree × (nested ≡ erased q.plain.grammar hidden tree)
  pub scores : (pattern : Pattern) (cell : Cell) (tree : Tree) → Derives q.plain cell tree
      → nested_score q pattern (erased q.plain.grammar hidden tree) ≡ score_of q.plain tree

module _ (q : NestedProblem) (hidden : ℕ) (laws : AreErasureLaws q hidden) where
  abbrev cell : Cell
  cell = axiom_cell q.plain

  erased_score : (tree : Tree) → Derives q.plain cell tree
      → candidate_score q (erased q.plain.grammar hidden tree) ≡ score_of q.plain tree
  erased_score tree derived = laws.scores (Plain (Rule q.plain.grammar.«axiom»)) cell tree derived

  restored_score : (nested : NestedTree) (tree : Tree) → Derives q.plain cell tree
      → nested ≡ erased q.plain.grammar hidden tree → candidate_score q nested ≡ score_of q.plain tree
  restored_score nested tree derived is = ap (candidate_score q) is ∙ erased_score tree derived

  nested_best : (score : Option ℤ) → IsBestScore q.plain cell score → IsBestNestedScore q score
  nested_best None none = λ nested derived.
      let from = laws.onto cell nested derived in
      none from.0 from.1
  nested_best (Some score) best = (
    (erased q.plain.grammar hidden best.0.0, laws.derived cell best.0.0 best.0.1, best.0.2 ∙ sym (erased_score best.0.0 best.0.1)),
    λ nested derived better.
        let from = laws.onto cell nested derived in
        best.1 from.0 from.1 (subst (λ s. IsBetter (algebra_of q.plain).goal s score) (restored_score nested from.0 from.1 from.2) better),
  )

  plain_best : (score : Option ℤ) → IsBestNestedScore q score → IsBestScore q.plain cell score
  plain_best None none = λ tree derived. none (erased q.plain.grammar hidden tree) (laws.derived cell tree derived)
  plain_best (Some score) best =
      let from = laws.onto cell best.0.0 best.0.1 in (
        (from.0, from.1, best.0.2 ∙ restored_score best.0.0 from.0 from.1 from.2),
        λ tree derived better. best.1 (erased q.plain.grammar hidden tree) (laws.derived cell tree derived)
            (subst (λ s. IsBetter (algebra_of q.plain).goal s score) (sym (erased_score tree derived)) better),
      )

-- so is what is told of a word
pub nested_scores : (p : PosedProblem) (hidden number : ℕ) (report : List ℕ)
    → (patterns : ℕ → ℕ → Patterns) × HidesRules (record { plain = p; patterns = patterns }) hidden
    → ((q : NestedProblem) → q.plain ≡ p → HidesRules q hidden → AreErasureLaws q hidden)
    → IsScoreReport number p report ↔ IsNestedScoreReport number p hidden report
nested_scores p hidden number report (patterns, hides) laws = (to, back)
  where
    to : IsScoreReport number p report → IsNestedScoreReport number p hidden report
    to (score, best, is) =
        let q : NestedProblem = record { plain = p; patterns = patterns } in
        (patterns, hides, score, nested_best q hidden (laws q refl hides) score best, is)

    back : IsNestedScoreReport number p hidden report → IsScoreReport number p report
    back (others, hides', score, best, is) =
        let q : NestedProblem = record { plain = p; patterns = others } in
        (score, plain_best q hidden (laws q refl hides') score best, is)
