-- A length keeps the limits under a checked grammar, or passes one: it can't be that neither is so.
use Rattle.std.proofs.Common.{ℕ, suc, ◌<◌, ◌≤◌, ◌⊎◌, inl, inr, Option, List, length, refl, arith}
use Rattle.adp_model.specs.declared.cell.Cell.{Cell}
use Rattle.adp_model.specs.declared.grammar.Grammar.{Grammar}
use Rattle.adp_model.specs.Bounds.{IsScoreBound, IsNodeBound}
use Rattle.adp_model.specs.Cells.{IsCellBound, IsCounted}
use Rattle.adp_model.specs.Checks.{IsChecked}
use Rattle.adp_model.specs.Demand.{IsDemanded, IsDemandedCount}
use Rattle.adp_model.specs.PosedProblem.{PosedProblem}
use Rattle.adp_model.specs.LimitFaults.{ManyLetters, ManyCells, ManyNodes, GreatScores}
use Rattle.adp_model.specs.ProblemFields.{most_letters, most_cells, most_nodes, greatest_score}
use Rattle.faultless_grammars.specs.Irrefutable.{IsIrrefutable, KeepsOrPassesLimits}
use Rattle.faultless_grammars.proofs.AllCells.{all_cells}
use Rattle.faultless_grammars.proofs.Deciding.{and_then, it_holds}

-- a counted cell lies within bounds
inside : (grammar : Grammar) (len : ℕ) (cell : Cell) → IsCounted grammar len cell
    → (cell.rule < length grammar.rules) × (cell.from < suc len) × (cell.to < suc len)
inside grammar len cell counted =
    let in_order = counted.in_order in
    let in_word = counted.in_word in
    (counted.rule, omega (arith, in_order, in_word), omega (arith, in_word))

pub cell_bound : (grammar : Grammar) (len : ℕ) → IsIrrefutable ((count : ℕ) × IsCellBound grammar len count)
cell_bound grammar len =
    and_then _ _ (all_cells (IsCounted grammar len) (length grammar.rules) (suc len) (inside grammar len))
    (λ found. it_holds _ (length found.0, (found.0, found.1, refl)))

-- demanded cells are counted ones
pub demanded_count : (p : PosedProblem) → ((cell : Cell) → IsDemanded p cell → IsCounted p.grammar (length p.word) cell)
    → IsIrrefutable ((count : ℕ) × IsDemandedCount p count)
demanded_count p are_counted =
    and_then _ _ (all_cells (IsDemanded p) (length p.grammar.rules) (suc (length p.word)) (λ cell demanded.
    inside p.grammar (length p.word) cell (are_counted cell demanded)))
    (λ found. it_holds _ (length found.0, (found.0, found.1, refl)))

-- what is known of bounds
pub record BoundLaws : Type 0 where
  pub score : (grammar : Grammar) (algebra : ℕ) (least : List ℕ) (greatest : List (Option ℕ)) (ranks : List ℕ)
      → IsChecked grammar algebra least greatest ranks → (len : ℕ) → (number : ℕ) × IsScoreBound grammar algebra len number
  pub node : (grammar : Grammar) (algebra : ℕ) (least : List ℕ) (greatest : List (Option ℕ)) (ranks : List ℕ)
      → IsChecked grammar algebra least greatest ranks → (len : ℕ) → (number : ℕ) × IsNodeBound grammar len number

at_most : (most number : ℕ) → (number ≤ most) ⊎ (most < number)
at_most most number = grind arith

module _ (laws : BoundLaws) (grammar : Grammar) (algebra : ℕ) (least : List ℕ) (greatest : List (Option ℕ))
    (ranks : List ℕ) (checked : IsChecked grammar algebra least greatest ranks) (len : ℕ) where
  with_cells : (count : ℕ) → IsCellBound grammar len count → KeepsOrPassesLimits grammar algebra len
  with_cells count cells = by (at_most most_letters len) (at_most most_cells count) (at_most most_nodes nodes.0) (at_most greatest_score scores.0)
    where
      nodes : (number : ℕ) × IsNodeBound grammar len number
      nodes = laws.node grammar algebra least greatest ranks checked len

      scores : (number : ℕ) × IsScoreBound grammar algebra len number
      scores = laws.score grammar algebra least greatest ranks checked len

      by : (len ≤ most_letters) ⊎ (most_letters < len) → (count ≤ most_cells) ⊎ (most_cells < count)
          → (nodes.0 ≤ most_nodes) ⊎ (most_nodes < nodes.0) → (scores.0 ≤ greatest_score) ⊎ (greatest_score < scores.0)
          → KeepsOrPassesLimits grammar algebra len
      by (inr many) few_cells few_nodes low = inr (_, ManyLetters many)
      by (inl letters) (inr many) few_nodes low = inr (_, ManyCells count letters cells many)
      by (inl letters) (inl few) (inr many) low = inr (_, ManyNodes nodes.0 letters (count, cells, few) nodes.1 many)
      by (inl letters) (inl few) (inl few') (inr great) =
          inr (_, GreatScores scores.0 letters (count, cells, few) (nodes.0, nodes.1, few') scores.1 great)
      by (inl letters) (inl few) (inl few') (inl low) = inl (record {
        letters = letters;
        cells = (count, cells, few);
        nodes = (nodes.0, nodes.1, few');
        scores = (scores.0, scores.1, low);
      })

  pub limits_judged : IsIrrefutable (KeepsOrPassesLimits grammar algebra len)
  limits_judged = and_then _ _ (cell_bound grammar len) (λ found. it_holds _ (with_cells found.0 found.1))
