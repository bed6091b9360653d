use Rattle.std.proofs.Common.{length, ap, subst, arith}
use Rattle.adp_model.specs.Cells.{IsCellBound}
use Rattle.grammar_check.specs.CheckedGrammar.{CheckedGrammar}
use Rattle.grammar_check.proofs.CheckedSizes.{sizes_are}
use Rattle.grammar_check.proofs.Limits.{letters_fault, cells_fault}
use Rattle.grammar_check.proofs.admission.cells_within_limits.Goals as goal

pub cell_bound-cells-requires-clause-sizes : goal.cell_bound-cells-requires-clause-sizes
cell_bound-cells-requires-clause-sizes c =
    let fields = c.checked.inside in
    sizes_are fields.grammar fields.algebra fields.sizes.least fields.sizes.greatest fields.ranks c.checked.invariant.found

pub returns-then-letters-gt-MOST_LETTERS : goal.returns-then-letters-gt-MOST_LETTERS
returns-then-letters-gt-MOST_LETTERS c =
    let same = ap length c.bytes-letters.ensures.bytes in
    letters_fault c.args.checked.now.grammar c.args.checked.now.algebra (length c.args.word.now) c.min-number.result (omega (arith, same, c.if-letters-gt-MOST_LETTERS.true)) (omega (arith, same, c.min-number.ensures))

pub returns-then-cells-gt-MOST_CELLS : goal.returns-then-cells-gt-MOST_CELLS
returns-then-cells-gt-MOST_CELLS c =
    let same = ap length c.bytes-letters.ensures.bytes in
    cells_fault c.args.checked.now.grammar c.args.checked.now.algebra (length c.args.word.now) c.cell_bound-cells.result c.min-number-then-cells-gt-MOST_CELLS.result
    (omega (arith, same, c.if-letters-gt-MOST_LETTERS.false))
    (subst (λ (g : CheckedGrammar). IsCellBound g.grammar (length c.args.word.now) c.cell_bound-cells.result) c.checked.view_is (subst (λ n. IsCellBound c.checked.inside.grammar n c.cell_bound-cells.result) same c.cell_bound-cells.ensures))
    (omega (arith, c.if-cells-gt-MOST_CELLS.true)) c.min-number-then-cells-gt-MOST_CELLS.ensures
