use Rattle.std.proofs.Common.{◌≡◌, ◌+◌, length, refl, ap, subst, ◌∙◌, arith}
use Rattle.adp_model.specs.declared.cell.Cell.{Cell}
use Rattle.adp_model.specs.PosedProblem.{PosedProblem}
use Rattle.adp_model.specs.Demand.{IsDemanded}
use Rattle.seq_reference.specs.Sweeping.{IsBeforeStart}
use Rattle.seq_reference.proofs.Sweeps.{Counted, gathered_now, swept_gathered, swept_from_past, swept_down_to, swept_start}
use Rattle.seq_reference.proofs.demand.settle_start.Goals as goal
use Rattle.seq_reference.proofs.demand.settle_start.Goals.{After-demanded_cells_are_counted}

counted : (c : After-demanded_cells_are_counted) → (cell : Cell) → IsDemanded c.args.lines.now cell → Counted c.args.lines.now cell
counted c =
    let D : PosedProblem → Type 0 = λ p. (cell : Cell) → IsDemanded p cell → Counted p cell in
    subst D c.problem-problem.ensures (c.demanded_cells_are_counted.ensures c.problem-problem.result.now c.admissible.ensures.checked.well_formed)

pub loop-to-init : goal.loop-to-init
loop-to-init c =
    let p = c.args.lines.now in
    let from = c.args.from in
    let before = (goal.at.loop-to-init c).After-demanded_cells_are_counted in
    let word : length c.bytes.result.now ≡ length p.word = ap length c.bytes.ensures.bytes ∙ ap (λ (q : PosedProblem). length q.word) (c.problem.view_is ∙ c.problem-problem.ensures) in
    record {
      gathered = gathered_now from c.args.marks.now c.gather.new.self c.gather.ensures.same c.gather.ensures.gathered;
      swept = swept_from_past p (counted before) c.gather.new.self from (length c.bytes.result.now + 1) (omega (arith, word))
          (swept_gathered p c.args.marks.now c.gather.new.self (IsBeforeStart from) c.requires.swept c.gather.ensures.same);
    }

pub settle_span-requires-clause-swept : goal.settle_span-requires-clause-swept
settle_span-requires-clause-swept c =
    let before = (goal.at.settle_span-requires-clause-swept c).After-demanded_cells_are_counted in
    swept_down_to c.args.lines.now (counted before) c.loop-to.marks c.args.rules.now c.args.from c.loop-to.behind c.requires.ranked c.loop-to.invariant.gathered c.loop-to.invariant.swept c.in-Some.to c.in-Some.ensures.last.last

pub returns : goal.returns
returns c =
    let before = (goal.at.returns c).After-demanded_cells_are_counted in
    swept_start c.args.lines.now (counted before) c.loop-to.marks c.args.rules.now c.args.from c.loop-to.behind c.requires.ranked c.loop-to.invariant.gathered c.loop-to.invariant.swept (c.in_default.ensures.none refl)
