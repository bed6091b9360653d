use Rattle.std.proofs.Common.{◌≤◌, ◌-◌, ◌^◌, ℕ, length, sym, subst, arith}
use Rattle.adp_model.specs.PosedProblem.{PosedProblem}
use Rattle.adp_model.specs.Bounds.{IsScoreBound}
use Rattle.cell_answers.specs.declared.scores.Packed.{Packed}
use Rattle.score_numbers.specs.Packing.{short, medium, long}
use Rattle.cell_answers.specs.ScoresFields.{IsPacked, AreWithin}
use Rattle.cell_answers.proofs.PackedScores.{best_low, new_proper}
use Rattle.cell_answers.proofs.scores.Scores.new.Goals as goal
use Rattle.cell_answers.proofs.scores.Scores.new.Goals.{After-goal, then-problem+in_ok-table}
use Rattle.cell_answers.proofs.scores.Scores.new.Goals.{else-problem+then-problem-2+in_ok-table-2}
use Rattle.cell_answers.proofs.scores.Scores.new.Goals.{else-problem+else-problem-2+then-problem-3+in_ok-table-3}
use Rattle.cell_answers.proofs.scores.Scores.new.Goals.{else-problem+else-problem-2+else-problem-3+in_ok-new}

within : (c : After-goal) (limit : ℕ) → c.problem.inside.score_bound ≤ limit → AreWithin c.args.layout.now limit
within c limit low =
    let p = c.problem-problem.result.now in
    let bound : IsScoreBound p.grammar p.algebra (length p.word) c.problem.inside.score_bound =
    subst (λ (q : PosedProblem). IsScoreBound q.grammar q.algebra (length q.word) c.problem.inside.score_bound) c.problem.view_is c.problem.invariant.scores in
    subst (λ (q : PosedProblem). AreWithin q limit) c.problem-problem.ensures
    (best_low p c.admissible.ensures c.words_keep_their_score_bound.ensures.score c.problem.inside.score_bound limit bound low)

pub invariant_of-result : goal.invariant_of-result
invariant_of-result c = elim c.if-problem.branch [
  | then-problem+in_ok-table w ↦
      subst (λ (packed : Packed). IsPacked packed) (sym w.packed-is)
      (new_proper short c.args.layout.now w.in_ok-table.table w.in_ok-table.ensures.problem w.cells.ensures
      (within c short.limit (omega (arith, w.if-problem.true))) w.in_ok-table.ensures.rows
      w.in_ok-table.ensures.columns)
  | else-problem+then-problem-2+in_ok-table-2 w ↦
      subst (λ (packed : Packed). IsPacked packed) (sym w.packed-is)
      (new_proper medium c.args.layout.now w.in_ok-table-2.table w.in_ok-table-2.ensures.problem
      w.cells-then-problem-2.ensures (within c medium.limit (omega (arith, w.if-problem-2.true)))
      w.in_ok-table-2.ensures.rows w.in_ok-table-2.ensures.columns)
  | else-problem+else-problem-2+then-problem-3+in_ok-table-3 w ↦
      subst (λ (packed : Packed). IsPacked packed) (sym w.packed-is)
      (new_proper long c.args.layout.now w.in_ok-table-3.table w.in_ok-table-3.ensures.problem
      w.cells-then-problem-3.ensures (within c long.limit (omega (arith, w.if-problem-3.true)))
      w.in_ok-table-3.ensures.rows w.in_ok-table-3.ensures.columns)
  | else-problem+else-problem-2+else-problem-3+in_ok-new w ↦
      subst (λ (packed : Packed). IsPacked packed) (sym w.packed-is)
      (subst (λ (p : PosedProblem). AreWithin p (2 ^ 63 - 1)) (sym w.in_ok-new.ensures.problem)
      (within c (2 ^ 63 - 1) (omega (arith, c.problem.invariant.low_scores))))
]
