use Rattle.std.proofs.Common.{⊎_elim, ◌≡◌, sym, ap, subst, ◌∙◌}
use Rattle.std.proofs.lemmas.Bool.{false≢true}
use Rattle.adp_model.specs.declared.cell.Cell.{Cell}
use Rattle.adp_model.specs.PosedProblem.{PosedProblem, axiom_cell}
use Rattle.adp_model.specs.Demand.{IsDemanded}
use Rattle.cell_tables.specs.Marks.{AreMarkedToo}
use Rattle.seq_reference.proofs.Sweeps.{Counted, swept_nothing, swept_root}
use Rattle.seq_reference.proofs.demand.first_marks.Goals as goal
use Rattle.seq_reference.proofs.demand.first_marks.Goals.{After-counts}

-- the cell that the code asks for is the axiom's
root_is : (c : After-counts) → c.axiom_cell-root.result ≡ axiom_cell c.args.lines.now
root_is c = c.axiom_cell-root.ensures ∙ ap axiom_cell c.problem-problem.ensures

same_problem : (c : After-counts) → c.in_ok-marks.marks.problem ≡ c.args.lines.now
same_problem c = c.in_ok-marks.ensures.problem ∙ c.requires

pub returns-then-not-counts : goal.returns-then-not-counts
returns-then-not-counts c =
    let p = c.args.lines.now in
    let before = (goal.at.returns-then-not-counts c).After-counts in
    let D : PosedProblem → Type 0 = λ q. (cell : Cell) → IsDemanded q cell → Counted q cell in
    let counted = subst D c.problem-problem.ensures
    (c.demanded_cells_are_counted.ensures c.problem-problem.result.now c.admissible.ensures.checked.well_formed) in
    let swept = swept_nothing p c.in_ok-marks.marks (same_problem before) c.in_ok-marks.ensures.none (λ demanded.
    let C : PosedProblem → Type 0 = λ q. Counted q (axiom_cell p) in
    let T : Cell → Type 0 = Counted c.args.layout.now in
    let there = subst T (sym (root_is before)) (subst C (sym c.requires) (counted (axiom_cell p) demanded)) in
    false≢true (sym c.if-not-counts.true ∙ c.counts.ensures.1 there)) in
    record { swept = swept; in_rows = λ cell marked. absurd (c.in_ok-marks.ensures.none cell marked) }

pub mark-requires : goal.mark-requires
mark-requires c =
    let C : PosedProblem → Type 0 = λ q. Counted q c.axiom_cell-root.result in
    subst C (sym c.in_ok-marks.ensures.problem) (c.counts.ensures.0 c.if-not-counts.false)

pub returns : goal.returns
returns c =
    let p = c.args.lines.now in
    let before = (goal.at.returns c).After-counts in
    let e = root_is before in
    let T : Cell → Type 0 = Counted c.args.layout.now in
    let C : PosedProblem → Type 0 = λ q. Counted q (axiom_cell p) in
    let M : Cell → Type 0 = λ cell. AreMarkedToo c.in_ok-marks.marks c.mark.new.self (λ other. other ≡ cell) in
    record {
      swept = swept_root p c.in_ok-marks.marks c.mark.new.self (same_problem before) c.in_ok-marks.ensures.none
          (subst C c.requires (subst T e (c.counts.ensures.0 c.if-not-counts.false))) (subst M e c.mark.ensures.marked);
      in_rows = λ cell marked. ⊎_elim (λ was. absurd (c.in_ok-marks.ensures.none cell was)) (λ same. c.mark.ensures.in_row cell same)
          ((c.mark.ensures.marked.exact cell).0 marked);
    }
