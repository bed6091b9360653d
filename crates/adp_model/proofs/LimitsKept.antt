-- Limits are kept or passed, and not both; of those that are passed one is the first.
use Rattle.std.proofs.Common.{◌≡◌, ℕ, ◌<◌, ◌≤◌, Option, List, refl, ap, arith}
use Rattle.adp_model.specs.declared.fault.LimitFault.{LimitFault}
use Rattle.adp_model.specs.declared.grammar.Grammar.{Grammar}
use Rattle.adp_model.specs.Cells.{IsCellBound}
use Rattle.adp_model.specs.Bounds.{IsNodeBound}
use Rattle.adp_model.specs.Checks.{IsChecked}
use Rattle.adp_model.specs.LimitFaults.{told, HasFewCells, HasFewNodes, IsLimitFault, ManyLetters, ManyCells, ManyNodes, GreatScores}
use Rattle.adp_model.specs.ProblemFields.{KeepsLimits, most_letters, most_cells, most_nodes, greatest_score}
use Rattle.adp_model.proofs.Places.{cell_bound_unique}
use Rattle.adp_model.proofs.BoundTables.{score_bound_unique, node_bound_unique}

below_and_above : (a b limit : ℕ) → a ≡ b → a ≤ limit → limit < b → ⊥
below_and_above a b limit same low high = absurd (omega arith)

abbrev fault_of : ℕ → ℕ → LimitFault
fault_of kind number = record { kind = kind; number = told number }

module _ (grammar : Grammar) (algebra : ℕ) (least : List ℕ) (greatest : List (Option ℕ)) (ranks : List ℕ) (checked : IsChecked grammar algebra least greatest ranks) (len : ℕ) where
  pub kept_not_passed : (fault : LimitFault) → KeepsLimits grammar algebra len → IsLimitFault grammar algebra len fault → ⊥
  kept_not_passed fault keeps (ManyLetters passes) = below_and_above len len most_letters refl keeps.letters passes
  kept_not_passed fault keeps (ManyCells count letters bound passes) =
      below_and_above keeps.cells.0 count most_cells (cell_bound_unique grammar len keeps.cells.0 count keeps.cells.1 bound) keeps.cells.2 passes
  kept_not_passed fault keeps (ManyNodes number letters cells bound passes) =
      below_and_above keeps.nodes.0 number most_nodes (node_bound_unique grammar algebra least greatest ranks checked len keeps.nodes.0 number keeps.nodes.1 bound) keeps.nodes.2 passes
  kept_not_passed fault keeps (GreatScores number letters cells nodes bound passes) =
      below_and_above keeps.scores.0 number greatest_score (score_bound_unique grammar algebra least greatest ranks checked len keeps.scores.0 number keeps.scores.1 bound) keeps.scores.2 passes

  many_and_few_cells : (count : ℕ) → HasFewCells grammar len → (bound : IsCellBound grammar len count) → most_cells < count → ⊥
  many_and_few_cells count few bound passes = below_and_above few.0 count most_cells (cell_bound_unique grammar len few.0 count few.1 bound) few.2 passes

  many_and_few_nodes : (number : ℕ) → HasFewNodes grammar len → (bound : IsNodeBound grammar len number) → most_nodes < number → ⊥
  many_and_few_nodes number few bound passes = below_and_above few.0 number most_nodes (node_bound_unique grammar algebra least greatest ranks checked len few.0 number few.1 bound) few.2 passes

  pub one_fault : (a b : LimitFault) → IsLimitFault grammar algebra len a → IsLimitFault grammar algebra len b → a ≡ b
  one_fault a b (ManyLetters passes) (ManyLetters passes') = refl
  one_fault a b (ManyLetters passes) (ManyCells count letters bound passes') = absurd (below_and_above len len most_letters refl letters passes)
  one_fault a b (ManyLetters passes) (ManyNodes number letters cells bound passes') = absurd (below_and_above len len most_letters refl letters passes)
  one_fault a b (ManyLetters passes) (GreatScores number letters cells nodes bound passes') = absurd (below_and_above len len most_letters refl letters passes)
  one_fault a b (ManyCells count letters bound passes) (ManyLetters passes') = absurd (below_and_above len len most_letters refl letters passes')
  one_fault a b (ManyCells count letters bound passes) (ManyCells count' letters' bound' passes') = ap (fault_of 2) (cell_bound_unique grammar len count count' bound bound')
  one_fault a b (ManyCells count letters bound passes) (ManyNodes number letters' cells bound' passes') = absurd (many_and_few_cells count cells bound passes)
  one_fault a b (ManyCells count letters bound passes) (GreatScores number letters' cells nodes bound' passes') = absurd (many_and_few_cells count cells bound passes)
  one_fault a b (ManyNodes number letters cells bound passes) (ManyLetters passes') = absurd (below_and_above len len most_letters refl letters passes')
  one_fault a b (ManyNodes number letters cells bound passes) (ManyCells count letters' bound' passes') = absurd (many_and_few_cells count cells bound' passes')
  one_fault a b (ManyNodes number letters cells bound passes) (ManyNodes number' letters' cells' bound' passes') = ap (fault_of 3) (node_bound_unique grammar algebra least greatest ranks checked len number number' bound bound')
  one_fault a b (ManyNodes number letters cells bound passes) (GreatScores number' letters' cells' nodes bound' passes') = absurd (many_and_few_nodes number nodes bound passes)
  one_fault a b (GreatScores number letters cells nodes bound passes) (ManyLetters passes') = absurd (below_and_above len len most_letters refl letters passes')
  one_fault a b (GreatScores number letters cells nodes bound passes) (ManyCells count letters' bound' passes') = absurd (many_and_few_cells count cells bound' passes')
  one_fault a b (GreatScores number letters cells nodes bound passes) (ManyNodes number' letters' cells' bound' passes') = absurd (many_and_few_nodes number' nodes bound' passes')
  one_fault a b (GreatScores number letters cells nodes bound passes) (GreatScores number' letters' cells' nodes' bound' passes') = ap (fault_of 4) (score_bound_unique grammar algebra least greatest ranks checked len number number' bound bound')
