use Rattle.std.proofs.Common.{◌≡◌, ◌+◌, ◌-◌, length, sym, ap, subst, ◌∙◌, arith}
use Rattle.std.proofs.lemmas.Bool.{false≢true}
use Rattle.adp_model.specs.PosedProblem.{PosedProblem}
use Rattle.adp_model.specs.ProblemFields.{IsAdmissible}
use Rattle.row_scores.specs.Sweeps.{AreFilled, IsFromStart}
use Rattle.row_scores.proofs.RowSweeps.{all_starts, no_start, start_passed}
use Rattle.row_scores.proofs.sweep.fill.Goals as goal

pub loop-from-init : goal.loop-from-init
loop-from-init g c =
    let p = c.args.lines.now in
    let admissible : IsAdmissible p = subst (λ (q : PosedProblem). IsAdmissible q) c.problem.ensures c.admissible.ensures in
    let positions = c.positions-positions.result in
    let same : positions ≡ length p.word + 1 = c.positions-positions.ensures.same ∙ ap (λ (q : PosedProblem). length q.word + 1) c.requires.swept.same_layout in
    record {
      clear = record { is_room = c.in_ok-room.ensures.room p same; row_clear = c.in_ok-room.ensures.row };
      filled = no_start g.N.RowNumber.width g.N.RowNumber.value p (c.demanded_cells_are_counted.ensures p admissible.checked.well_formed) positions
          (omega (arith, same)) c.args.table.now c.requires.numbers;
    }

pub fill_start-requires-clause-filled : goal.fill_start-requires-clause-filled
fill_start-requires-clause-filled g c =
    let same : c.loop-from.from ≡ c.loop-from.from - 1 + 1 = omega (arith, c.loop-from-test.true) in
    subst (λ from. AreFilled g.N.RowNumber.width g.N.RowNumber.value c.args.lines.now c.loop-from.table (IsFromStart from)) same c.loop-from.invariant.filled

pub fill_start-requires-clause-from : goal.fill_start-requires-clause-from
fill_start-requires-clause-from g c =
    omega (arith, c.loop-from.auto.from, c.positions-positions.ensures.same, ap (λ (q : PosedProblem). length q.word) c.requires.swept.same_layout)

pub loop-from-preserved-then-has_start : goal.loop-from-preserved-then-has_start
loop-from-preserved-then-has_start g c = record { clear = c.fill_start.ensures.room; filled = c.fill_start.ensures.filled }

pub loop-from-preserved : goal.loop-from-preserved
loop-from-preserved g c = record {
  clear = c.loop-from.invariant.clear;
  filled = start_passed g.N.RowNumber.width g.N.RowNumber.value c.args.lines.now (c.loop-from.from - 1) c.loop-from.from (omega (arith, c.loop-from-test.true))
      (λ cell at demanded. false≢true (sym c.if-has_start.false ∙ c.has_start.ensures.1 (cell, at, (c.requires.swept.marked cell).1 demanded)))
      c.loop-from.table c.loop-from.invariant.filled;
}

pub returns : goal.returns
returns g c =
    all_starts g.N.RowNumber.width g.N.RowNumber.value c.args.lines.now c.loop-from.from c.loop-from-test.false c.loop-from.table c.loop-from.invariant.filled
