use Rattle.std.proofs.Common.{Vec, sym, subst}
use Rattle.std.specs.declared.alloc.Global.{Global}
use Rattle.cell_answers.specs.declared.tails.TailRow.{TailRow}
use Rattle.cell_answers.specs.TailRows.{AreEmpty}
use Rattle.cell_answers.proofs.tails.TailRows.new.Goals as goal
use Rattle.cell_answers.proofs.tails.TailRows.new.Goals.{then-rule_tails-gt0+in_ok-push_rows, else-rule_tails-gt0}

pub loop-rule-preserved : goal.loop-rule-preserved
loop-rule-preserved c =
    let R : Vec TailRow Global → Type 0 = λ rows. AreEmpty rows.items in
    elim c.if-rule_tails-gt0.branch [
      | then-rule_tails-gt0+in_ok-push_rows w ↦ subst R (sym w.rows-is) w.in_ok-push_rows.ensures
      | else-rule_tails-gt0 w ↦ subst R (sym w.rows-is) c.loop-rule.invariant
    ]
