use Rattle.std.proofs.Common.{◌+◌, ℤ, FitsSigned, w64, to_z, of_z, rules, List, sym, subst, ◌∙◌, arith}
use Rattle.std.proofs.lemmas.Bool.{false≢true}
use Rattle.std.proofs.lemmas.Int.{to_z-of_z}
use Rattle.row_scores.specs.RowNumbers.{IsInRow}
use Rattle.row_scores.proofs.StepLoops.{IsStepped, all_stepped, none_stepped, stepped_more, stepped_past}
use Rattle.row_scores.proofs.steps.step.Goals as goal
use Rattle.row_scores.proofs.steps.step.Goals.{then-is_live, else-is_live}

pub loop-position-init : goal.loop-position-init
loop-position-init g c =
    let known = c.args.known.now in
    none_stepped known.lines.now g.N.RowNumber.width (IsInRow g.N.RowNumber.value known.table.now) c.args.argument.now (to_z w64 (of_z w64 c.args.factor))
    c.args.reached.now c.window-window.result c.window-window.ensures.dead c.args.next.now

pub loop-position-preserved : goal.loop-position-preserved
loop-position-preserved g c =
    let known = c.args.known.now in
    let width = g.N.RowNumber.width in
    let InRow = IsInRow g.N.RowNumber.value known.table.now in
    let factor = to_z w64 (of_z w64 c.args.factor) in
    let position = c.loop-position.position in
    let number = g.N.RowNumber.value c.number-number.result in
    let R : List ℤ → Type 0 = λ now. IsStepped known.lines.now width InRow c.args.argument.now factor c.args.reached.now c.args.next.now now (position + 1) in
    elim c.if-is_live.branch [
      | then-is_live w ↦
          subst R (sym w.next-is)
          (stepped_more known.lines.now width InRow c.args.argument.now factor c.args.reached.now c.args.next.now c.loop-position.next
          w.step_from.new.next position number c.number-number.ensures (c.is_live.ensures.0 w.if-is_live.true) c.loop-position.invariant w.step_from.ensures)
      | else-is_live w ↦
          subst R (sym w.next-is)
          (stepped_past known.lines.now width InRow c.args.argument.now factor c.args.reached.now c.args.next.now c.loop-position.next position number
          c.number-number.ensures (λ live. false≢true (sym w.if-is_live.false ∙ c.is_live.ensures.1 live)) c.loop-position.invariant)
    ]

pub returns : goal.returns
returns g c =
    let known = c.args.known.now in
    let width = g.N.RowNumber.width in
    let InRow = IsInRow g.N.RowNumber.value known.table.now in
    let fits : FitsSigned w64 c.args.factor = search rules in
    all_stepped known.lines.now width InRow c.args.argument.now c.args.factor c.args.reached.now c.window-window.result c.window-window.ensures.dead
    c.args.next.now c.loop-position.next c.loop-position.position (omega (arith, c.loop-position-test.false))
    (subst (λ factor. IsStepped known.lines.now width InRow c.args.argument.now factor c.args.reached.now c.args.next.now c.loop-position.next
    c.loop-position.position)
    (to_z-of_z w64 c.args.factor fits) c.loop-position.invariant)
