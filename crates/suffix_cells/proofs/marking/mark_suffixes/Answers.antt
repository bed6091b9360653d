use Rattle.std.proofs.Common.{◌≡◌, ℕ, Option, List, length, ap, sym, subst, ◌∙◌, arith}
use Rattle.adp_model.specs.declared.cell.Cell.{Cell}
use Rattle.adp_model.specs.PosedProblem.{PosedProblem}
use Rattle.adp_model.specs.Demand.{IsDemanded}
use Rattle.suffix_cells.specs.Targets.{AreTargets}
use Rattle.suffix_cells.proofs.Sweeps.{Counted, all_in_rows}
use Rattle.suffix_cells.proofs.marking.mark_suffixes.Goals as goal

pub settle_start-requires-clause-targets : goal.settle_start-requires-clause-targets
settle_start-requires-clause-targets c =
    let T : List (Option ℕ) → Type 0 = AreTargets c.args.lines.now c.loop-from.visits.order in
    let O : List ℕ → Type 0 = λ order. AreTargets c.args.lines.now order c.in_ok-targets.targets.items in
    subst T (sym c.deref.ensures.value) (subst O (sym c.loop-from.invariant.order) c.in_ok-targets.ensures)

pub returns-clause-rows : goal.returns-clause-rows
returns-clause-rows c =
    let p = c.args.lines.now in
    let D : PosedProblem → Type 0 = λ q. (cell : Cell) → IsDemanded q cell → Counted q cell in
    let counted = subst D c.problem-problem.ensures
    (c.demanded_cells_are_counted.ensures c.problem-problem.result.now c.admissible.ensures.checked.well_formed) in
    let letters : length c.letters.result.now ≡ length p.word =
    ap length c.letters.ensures.word ∙ ap (λ (q : PosedProblem). length q.word) c.problem-problem.ensures in
    all_in_rows p counted c.loop-from.visits.marks c.loop-from.from (omega (arith, letters, c.loop-from-test.false)) c.loop-from.invariant.swept
