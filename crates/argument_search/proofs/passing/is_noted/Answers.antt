use Rattle.std.proofs.Common.{◌↔◌, Bool, true, false, IsTrue, refl}
use Rattle.std.specs.Bool.{OnTrue}
use Rattle.adp_model.specs.declared.cell.Cell.{Cell}
use Rattle.split_lines.specs.Laid.{IsCellOf}
use Rattle.argument_search.proofs.NotedPositions.{cell_there}
use Rattle.argument_search.proofs.passing.is_noted.Goals as goal

pub returns-in-Rule : goal.returns-in-Rule
returns-in-Rule g c = go c.has.result c.has.ensures
  where
    go : (found : Bool)
        → IsTrue found ↔ g.N.NotedCells.is_noted c.args.noted.now
        (record { rule = c.in-Rule.rule; from = c.args.from; to = c.args.to })
        → OnTrue found ((child : Cell) → IsCellOf c.args.argument.now c.args.from c.args.to child
        → g.N.NotedCells.is_noted c.args.noted.now child)
    go true told = λ child here.
        cell_there (g.N.NotedCells.is_noted c.args.noted.now) c.args.argument.now c.in-Rule.rule c.args.from c.args.to
        c.in-Rule.is (told.0 refl) child here
    go false told = tt
