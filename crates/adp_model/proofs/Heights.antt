-- Heights fall from a cell to its demanded children, and end below the number of rules and lengths.
use Rattle.std.proofs.Common.{ℕ, suc, ◌-◌, ◌<◌, ◌≤◌, Option, List, length, slice_index, arith}
use Rattle.adp_model.specs.declared.grammar.Arg.TheVariants.{Rule}
use Rattle.adp_model.specs.declared.cell.Cell.{Cell}
use Rattle.adp_model.specs.PosedProblem.{PosedProblem}
use Rattle.adp_model.specs.Splits.{Placed, FitsSpan, placed}
use Rattle.adp_model.specs.Demand.{IsDemandedChild, IsDemanded}
use Rattle.adp_model.specs.Checks.{IsChecked}
use Rattle.adp_model.specs.Heights.{height_of, heights_end}
use Rattle.adp_model.proofs.Checked.{measure_falls, shorter}
use Rattle.adp_model.proofs.Falling.{below_demanded, contained}
use Rattle.adp_model.proofs.KnownRules.{rule_known-within}
use Rattle.adp_model.proofs.Demanded.{demanded_counted}

module _ (p : PosedProblem) (least : List ℕ) (greatest : List (Option ℕ)) (ranks : List ℕ)
    (checked : IsChecked p.grammar p.algebra least greatest ranks) where
  pub height_falls : (cell child : Cell) → IsDemandedChild p cell child
      → height_of p ranks child < height_of p ranks cell
  height_falls cell child h =
      let it : Placed = record { argument = Rule child.rule; from = child.from; to = child.to } in
      let fits = contained (FitsSpan p) (placed p cell h.0 h.1) it h.2.fits h.3 in
      let known = rule_known-within p.grammar child.rule (child.to - child.from) fits.1 in
      measure_falls (length p.grammar.rules) ranks child cell (checked.ranks_fit child.rule known)
      (below_demanded p least greatest ranks checked cell child h)

  pub few_heights : (cell : Cell) → IsDemanded p cell → height_of p ranks cell < heights_end p
  few_heights cell demanded =
      let counted = demanded_counted p checked.well_formed cell demanded in
      let k : cell.to ≤ length p.word = counted.in_word in
      let l = shorter (length p.grammar.rules) (cell.to - cell.from) (suc (length p.word))
      (slice_index ranks cell.rule) 0 (omega arith) (checked.ranks_fit cell.rule counted.rule) in
      omega arith
