use Rattle.std.proofs.Common.{sym, subst}
use Rattle.cell_answers.specs.declared.tails.TailRows.{TailRows}
use Rattle.cell_answers.specs.TailRows.{AreTrueRows}
use Rattle.cell_answers.proofs.TailNotes.{true_empty}
use Rattle.cell_answers.proofs.tails.Tails.new.Goals as goal
use Rattle.cell_answers.proofs.tails.Tails.new.Goals.{then-eq, else-eq}

pub invariant_of-result : goal.invariant_of-result
invariant_of-result c =
    let p = c.problem-problem.result.now in
    let R : TailRows → Type 0 = λ kept. AreTrueRows p kept.rows.items in
    let none : R c.in_ok-kept.kept = true_empty p c.in_ok-kept.kept.rows.items c.in_ok-kept.ensures in
    elim c.if-eq.branch [
      | then-eq w ↦ subst R (sym w.kept-is) (w.make_all.ensures p none)
      | else-eq w ↦ subst R (sym w.kept-is) none
    ]
