-- Arguments of splits, and all rule arguments of the viable splits of demanded cells.
use Rattle.std.specs.Prelude.{◌≡◌, ℕ, ◌<◌, ◌⊎◌, List, length, slice_get, Some}
use Rattle.std.specs.List.{Contains, AllAdjacentBelow}
use Rattle.adp_model.specs.declared.grammar.Arg.TheVariants.{Rule}
use Rattle.adp_model.specs.declared.cell.Cell.{Cell}
use Rattle.adp_model.specs.PosedProblem.{PosedProblem}
use Rattle.adp_model.specs.Parts.{arguments_of}
use Rattle.adp_model.specs.Preference.{LexicographicallyLess}
use Rattle.adp_model.specs.Cells.{CellPrecedes}
use Rattle.adp_model.specs.Splits.{placed, IsViable}
use Rattle.adp_model.specs.Demand.{IsDemanded}

-- an argument of a split of a cell: the split by its alternative and its cuts, the argument by its number
pub record SplitArgument : Type 0 where
  pub cell : Cell
  pub alternative : ℕ
  pub cuts : List ℕ
  pub number : ℕ

-- the split is viable and has such an argument
pub record IsSplitArgument (p : PosedProblem) (argument : SplitArgument) : Type 0 where
  pub viable : IsViable p argument.cell argument.alternative argument.cuts
  pub within : argument.number < length (arguments_of p.grammar argument.cell.rule argument.alternative)

-- it is a rule argument of a viable split, and the child is its cell: it asks for the child
pub record AsksFor (p : PosedProblem) (argument : SplitArgument) (child : Cell) : Type 0 where
  pub viable : IsViable p argument.cell argument.alternative argument.cuts
  pub there : slice_get (placed p argument.cell argument.alternative argument.cuts) argument.number
      ≡ Some (record { argument = Rule child.rule; from = child.from; to = child.to })

-- it is a rule argument of a viable split
abbrev pub IsRuleArgument : PosedProblem → SplitArgument → Type 0
IsRuleArgument p argument = (child : Cell) × AsksFor p argument child

-- by cell, then by alternative, then by cuts, then by number
abbrev pub ArgumentPrecedes : SplitArgument → SplitArgument → Type 0
ArgumentPrecedes a b =
    CellPrecedes a.cell b.cell
    ⊎ ((a.cell ≡ b.cell)
    × ((a.alternative < b.alternative)
    ⊎ ((a.alternative ≡ b.alternative)
    × (LexicographicallyLess a.cuts b.cuts ⊎ ((a.cuts ≡ b.cuts) × (a.number < b.number))))))

-- all rule arguments of all viable splits of all demanded cells, each once, in order
pub record AreRuleArguments (p : PosedProblem) (arguments : List SplitArgument) : Type 0 where
  pub in_order : AllAdjacentBelow ArgumentPrecedes arguments (length arguments)
  pub each : (argument : SplitArgument) → Contains arguments argument
      → IsDemanded p argument.cell × IsRuleArgument p argument
  pub all : (argument : SplitArgument) → IsDemanded p argument.cell → IsRuleArgument p argument
      → Contains arguments argument
