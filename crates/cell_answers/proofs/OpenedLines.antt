-- Lines that are opened, and the arguments that they were opened for.
use Rattle.std.proofs.Common.{ℕ, ℤ, List, ◌∷◌, ◌++◌, get_or, sym, subst}
use Rattle.std.specs.List.{Contains}
use Rattle.adp_model.specs.declared.grammar.Arg.{Arg}
use Rattle.adp_model.specs.PosedProblem.{PosedProblem}
use Rattle.viable_splits.specs.Placing.{Cover}
use Rattle.cell_tables.specs.Tables.{Table}
use Rattle.cell_answers.specs.declared.opened.OpenedLine.{OpenedLine}
use Rattle.cell_answers.specs.Opened.{IsOpenedOn}
use Rattle.cell_answers.specs.Totals.{AreLow, AreWeighted}
use Rattle.cell_answers.proofs.FirstEnds.{AreLaid}
use Rattle.cell_answers.proofs.WholeLines.{IsWhole, first_stands, tail_covers, tail_low, tail_weighted}

-- what is known of the tokens behind a line
pub record IsTail (p : PosedProblem) (line : OpenedLine) (to : ℕ) : Type 0 where
  pub weighted : AreWeighted p line.arguments.tail.now line.arguments.tail_factors.now
  pub covers : Cover p line.arguments.tail.now line.boundary.last to
  pub low : AreLow p line.arguments.tail.now line.arguments.tail_factors.now line.boundary.last to

module _ (p : PosedProblem) (table : Table ℤ) (arguments : List Arg) (factors : List ℤ) (from to : ℕ)
    (laid : AreLaid p table arguments factors from to) (line : OpenedLine)
    (is : IsOpenedOn p arguments factors from to line) where
  abbrev its_arguments : List Arg
  its_arguments = line.arguments.first.now ∷ (line.arguments.middle.now ++ line.arguments.second.now ∷ line.arguments.tail.now)

  abbrev its_factors : List ℤ
  its_factors = line.arguments.first_factor ∷ (line.arguments.middle_factors.now ++ line.arguments.second_factor ∷ line.arguments.tail_factors.now)

  pub opened_whole : IsWhole p table line.arguments line.from to line.boundary
  opened_whole = record {
    laid = subst (λ from. AreLaid p table its_arguments its_factors from to) (sym is.begins)
        (subst (λ xs. AreLaid p table xs its_factors from to) is.arguments_are
        (subst (λ ys. AreLaid p table arguments ys from to) is.factors_are laid));
    each = is.opened.middle_each;
    middle_fixed = is.opened.middle_fixed;
    tail_fixed = is.tail_fixed;
    positions = is.boundary;
  }

  -- it has a position
  opened_stands : Contains line.boundary.positions.now (get_or line.boundary.positions.now 0 0)
  opened_stands = first_stands line.boundary.positions.now is.some

  pub opened_tail : IsTail p line to
  opened_tail = record {
    weighted = tail_weighted p table line.arguments line.from to line.boundary opened_whole;
    covers = tail_covers p table line.arguments line.from to line.boundary opened_whole _ opened_stands;
    low = tail_low p table line.arguments line.from to line.boundary opened_whole _ opened_stands;
  }

  -- what holds of its arguments holds of these
  pub opened_holds : (Holds : List Arg → List ℤ → ℕ → Type 0) → Holds its_arguments its_factors line.from → Holds arguments factors from
  opened_holds Holds holds =
      subst (λ xs. Holds xs factors from) (sym is.arguments_are)
      (subst (λ ys. Holds its_arguments ys from) (sym is.factors_are)
      (subst (Holds its_arguments its_factors) is.begins holds))
