use Rattle.std.proofs.Common.{◌≡◌, sym, ap, subst, ◌∙◌}
use Rattle.std.proofs.lemmas.Bool.{false≢true}
use Rattle.adp_model.specs.declared.cell.Cell.{Cell}
use Rattle.adp_model.specs.PosedProblem.{PosedProblem, axiom_cell}
use Rattle.adp_model.specs.Demand.{IsDemanded}
use Rattle.cell_demands.specs.Rows.{AreMarkedInRows}
use Rattle.suffix_cells.specs.Sweeping.{AreSwept, IsBeforeStart}
use Rattle.suffix_cells.specs.Visits.{Visited, suffix_cell}
use Rattle.suffix_cells.proofs.Sweeps.{Counted, swept_nothing, swept_root}
use Rattle.suffix_cells.proofs.marking.first_visits.Goals as goal
use Rattle.suffix_cells.proofs.marking.first_visits.Goals.{After-counts, then-counts, else-counts}

-- the cell that the code asks for is the axiom's
root_is : (c : After-counts) → c.axiom_cell-root.result ≡ axiom_cell c.args.lines.now
root_is c = c.axiom_cell-root.ensures ∙ ap axiom_cell c.problem-problem.ensures

same_problem : (c : After-counts) → c.in_ok-visits.visits.marks.problem ≡ c.args.lines.now
same_problem c = c.in_ok-visits.ensures.problem ∙ c.requires.layout

pub returns-clause-swept : goal.returns-clause-swept
returns-clause-swept c =
    let at = (goal.at.returns-clause-swept c).After-counts in
    let p = c.args.lines.now in
    let old = c.in_ok-visits.visits.marks in
    let none = c.in_ok-visits.ensures.none in
    let S : Visited → Type 0 = λ visits. AreSwept p visits.marks (IsBeforeStart 0) in
    let C : PosedProblem → Type 0 = λ q. Counted q (axiom_cell p) in
    let T : Cell → Type 0 = Counted c.args.layout.now in
    elim c.if-counts.branch [
      | then-counts w ↦
          let new = w.visit.new.self.marks in
          let counted = subst C c.requires.layout (subst T (root_is at) (c.counts.ensures.0 w.if-counts.true)) in
          let here : suffix_cell old.problem c.axiom_cell-root.result.rule c.axiom_cell-root.result.from ≡ axiom_cell p =
          ap (λ (q : PosedProblem). suffix_cell q c.axiom_cell-root.result.rule c.axiom_cell-root.result.from) (same_problem at)
          ∙ ap (λ (it : Cell). suffix_cell p it.rule it.from) (root_is at) in
          let M : Cell → Type 0 = λ cell. AreMarkedInRows old new (λ other. other ≡ cell) in
          subst S (sym w.visits-is) (swept_root p old (same_problem at) none counted new (subst M here w.visit.ensures.marked))
      | else-counts w ↦
          let D : PosedProblem → Type 0 = λ q. (cell : Cell) → IsDemanded q cell → Counted q cell in
          let counted = subst D c.problem-problem.ensures
          (c.demanded_cells_are_counted.ensures c.problem-problem.result.now c.admissible.ensures.checked.well_formed) in
          subst S (sym w.visits-is) (swept_nothing p old (same_problem at) none (λ demanded.
          let there = subst T (sym (root_is at)) (subst C (sym c.requires.layout) (counted (axiom_cell p) demanded)) in
          false≢true (sym w.if-counts.false ∙ c.counts.ensures.1 there)))
    ]
