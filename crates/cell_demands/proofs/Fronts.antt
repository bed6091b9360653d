-- What arguments demand behind tokens of fixed length in front of them.
use Rattle.std.proofs.Common.{◌≡◌, ℕ, List, ◌++◌, subst}
use Rattle.std.specs.List.{AllByRecursion}
use Rattle.adp_model.specs.declared.grammar.Arg.{Arg}
use Rattle.adp_model.specs.declared.cell.Cell.{Cell}
use Rattle.adp_model.specs.PosedProblem.{PosedProblem}
use Rattle.viable_splits.specs.Placing.{Cover}
use Rattle.split_lines.specs.Laid.{Demands, IsFixed}
use Rattle.cell_tables.specs.Marks.{CellMarks, AreMarkedFrom}
use Rattle.cell_demands.proofs.LineDemands.{demands_behind, demands_join}
use Rattle.cell_demands.proofs.MarkSteps.{marked_like}

module _ (p : PosedProblem) (front others : List Arg) (from to : ℕ) (fixed : AllByRecursion IsFixed front) (end : ℕ) (covers : Cover p front from end)
    (only : (other : ℕ) → Cover p front from other → other ≡ end) where
  pub demanded_behind : (cell : Cell) → Demands p others end to cell → Demands p (front ++ others) from to cell
  demanded_behind cell demands = demands_join p front others from end to cell covers demands

  pub marked_behind_front : (begin : ℕ) (old new : CellMarks) → AreMarkedFrom begin old new (Demands p others end to)
      → AreMarkedFrom begin old new (Demands p (front ++ others) from to)
  marked_behind_front begin old new marked =
      marked_like begin old new (Demands p others end to) (Demands p (front ++ others) from to)
      (λ cell demands. demanded_behind cell demands)
      (λ cell demands.
      let behind = demands_behind p front others from to cell fixed demands in
      subst (λ at. Demands p others at to cell) (only behind.0 behind.1) behind.2)
      marked
