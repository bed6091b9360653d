use Rattle.std.proofs.Common.{◌≡◌, ℕ, ◌≤◌, Some, List, length, slice_get, refl, sym, ap, subst, inl, ◌∙◌, arith}
use Rattle.std.specs.Prelude.{IfSome}
use Rattle.std.proofs.lemmas.Option.{slice_get_within}
use Rattle.adp_model.specs.declared.cell.Cell.{Cell}
use Rattle.adp_model.specs.PosedProblem.{PosedProblem}
use Rattle.adp_model.specs.Demand.{IsBelow, IsDemanded, IsDemandedChild, Child}
use Rattle.cell_tables.specs.Marks.{CellMarks, IsMarkedInRow}
use Rattle.suffix_cells.specs.Targets.{LeadsTo}
use Rattle.suffix_cells.specs.Visits.{IsVisited, suffix_cell}
use Rattle.suffix_cells.proofs.Leading.{told}
use Rattle.suffix_cells.proofs.Sweeps.{Counted, swept_down, swept_first, swept_number, swept_start}
use Rattle.suffix_cells.proofs.marking.settle_start.Goals as goal
use Rattle.suffix_cells.proofs.marking.settle_start.Goals.{After-numbers_fit_together, After-rule-rule, In-Some}

counted : (c : After-numbers_fit_together) → (cell : Cell) → IsDemanded c.args.lines.now cell → Counted c.args.lines.now cell
counted c =
    let D : PosedProblem → Type 0 = λ p. (cell : Cell) → IsDemanded p cell → Counted p cell in
    subst D c.problem.ensures (c.demanded_cells_are_counted.ensures c.problem.result.now c.admissible.ensures.checked.well_formed)

below : (c : After-numbers_fit_together) → (cell child : Cell) → IsDemandedChild c.args.lines.now cell child
    → IsBelow c.admissible.ensures.ranks child cell
below c =
    let it = c.admissible.ensures in
    let B : PosedProblem → Type 0 = λ p. (cell child : Cell) → IsDemandedChild p cell child → IsBelow it.ranks child cell in
    subst B c.problem.ensures (c.demanded_children_are_below.ensures c.problem.result.now it.least it.greatest it.ranks it.checked)

ends : (c : After-numbers_fit_together) → (cell : Cell) → IsDemanded c.args.lines.now cell → cell.to ≡ length c.args.lines.now.word
ends c = c.demanded_cells_end_with_the_word.ensures c.args.lines.now c.requires.straight

few : (c : After-numbers_fit_together) → length c.args.visits.now.order ≤ 128
few c =
    let F : PosedProblem → Type 0 = λ p. length p.grammar.rules ≤ 128 in
    omega (
      arith,
      c.requires.ranked.each,
      subst F c.problem.ensures
          (c.numbers_fit_together.ensures.few_rules c.problem.result.now.grammar c.admissible.ensures.checked.well_formed),
    )

-- the cell of the number that is found
stands : (c : After-rule-rule) → slice_get c.args.visits.now.order c.in-Some.number ≡ Some c.rule-rule.result
stands c = ap (λ (order : List ℕ). slice_get order c.in-Some.number) (sym c.loop-number.invariant.order) ∙ c.rule-rule.ensures

row : (c : After-rule-rule) → IsMarkedInRow c.loop-number.visits.marks (suffix_cell c.args.lines.now c.rule-rule.result c.args.from)
row c =
    let it = c.in-Some.ensures.visited in
    let told : Some it.rule ≡ Some c.rule-rule.result = sym it.stands ∙ c.rule-rule.ensures in
    let same : it.rule ≡ c.rule-rule.result = cc in
    let marks = c.loop-number.visits.marks in
    let R : ℕ → Type 0 = λ rule. IsMarkedInRow marks (suffix_cell marks.problem rule c.args.from) in
    let P : PosedProblem → Type 0 = λ p. IsMarkedInRow marks (suffix_cell p c.rule-rule.result c.args.from) in
    subst P c.loop-number.invariant.swept.problem (subst R same it.marked)

demanded : (c : After-rule-rule) → IsDemanded c.args.lines.now (suffix_cell c.args.lines.now c.rule-rule.result c.args.from)
demanded c = c.loop-number.invariant.swept.demanded (suffix_cell c.args.lines.now c.rule-rule.result c.args.from) (inl (row c))

-- what is visited, in the order as it was at first
module _ (marks : CellMarks) (order now : List ℕ) (same : now ≡ order) (from : ℕ) where
  in_order : (number : ℕ) → IsVisited (record { marks = marks; order = order }) from number → IsVisited (record { marks = marks; order = now }) from number
  in_order number = subst (λ it. IsVisited (record { marks = marks; order = it }) from number) (sym same)

pub loop-number-init : goal.loop-number-init
loop-number-init c =
    let at = (goal.at.loop-number-init c).After-numbers_fit_together in
    record {
      order = refl;
      swept = swept_first c.args.lines.now (counted at) (ends at) c.args.visits.now.order c.requires.ranked c.args.from c.args.visits.now.marks 128
          (few at) c.requires.swept;
    }

pub rule-rule-requires : goal.rule-rule-requires
rule-rule-requires c =
    let it = c.in-Some.ensures.visited in
    slice_get_within c.loop-number.visits.order c.in-Some.number it.rule it.stands

pub mark_others-requires-clause-targets : goal.mark_others-requires-clause-targets
mark_others-requires-clause-targets c =
    let at = (goal.at.mark_others-requires-clause-targets c).After-rule-rule in
    let L : List ℕ → Type 0 = λ order. IfSome c.target_at.result (LeadsTo c.args.lines.now order c.rule-rule.result) in
    subst L (sym c.loop-number.invariant.order)
    (told c.args.lines.now c.args.visits.now.order c.args.targets.now c.requires.targets c.in-Some.number c.rule-rule.result (stands at)
    c.target_at.result c.target_at.ensures)

pub mark_others-requires-clause-rule : goal.mark_others-requires-clause-rule
mark_others-requires-clause-rule c =
    let before = (goal.at.mark_others-requires-clause-rule c).After-numbers_fit_together in
    let at = (goal.at.mark_others-requires-clause-rule c).After-rule-rule in
    (counted before (suffix_cell c.args.lines.now c.rule-rule.result c.args.from) (demanded at)).rule

pub mark_others-requires-clause-from : goal.mark_others-requires-clause-from
mark_others-requires-clause-from c =
    let before = (goal.at.mark_others-requires-clause-from c).After-numbers_fit_together in
    let at = (goal.at.mark_others-requires-clause-from c).After-rule-rule in
    (counted before (suffix_cell c.args.lines.now c.rule-rule.result c.args.from) (demanded at)).in_order

pub mark_others-requires-clause-counted : goal.mark_others-requires-clause-counted
mark_others-requires-clause-counted c = λ child is.
    let before = (goal.at.mark_others-requires-clause-counted c).After-numbers_fit_together in
    let at = (goal.at.mark_others-requires-clause-counted c).After-rule-rule in
    counted before child (Child (suffix_cell c.args.lines.now c.rule-rule.result c.args.from) child (demanded at) is)

pub loop-number-preserved : goal.loop-number-preserved
loop-number-preserved c =
    let before = (goal.at.loop-number-preserved c).After-numbers_fit_together in
    let at = (goal.at.loop-number-preserved c).After-rule-rule in
    let p = c.args.lines.now in
    let order = c.args.visits.now.order in
    let marks = c.loop-number.visits.marks in
    let number = c.in-Some.number in
    let same = c.loop-number.invariant.order in
    record {
      order = c.mark_others.ensures.order ∙ same;
      swept = swept_number p (counted before) (ends before) order c.requires.ranked c.args.from c.admissible.ensures.ranks (below before)
          number c.rule-rule.result (stands at) marks c.mark_others.new.visits.marks
          (swept_down p (counted before) (ends before) order c.requires.ranked c.args.from marks c.loop-number.below c.loop-number.invariant.swept
          number (λ other high low visited. c.in-Some.ensures.none_behind other high low
          (in_order marks order c.loop-number.visits.order same c.args.from other visited)))
          (row at) c.mark_others.ensures.marked;
    }

pub returns-clause-swept : goal.returns-clause-swept
returns-clause-swept c =
    let before = (goal.at.returns-clause-swept c).After-numbers_fit_together in
    let order = c.args.visits.now.order in
    let marks = c.loop-number.visits.marks in
    swept_start c.args.lines.now (counted before) (ends before) order c.requires.ranked c.args.from marks c.loop-number.below c.loop-number.invariant.swept
    (λ other low visited. c.in_default.ensures other low
    (in_order marks order c.loop-number.visits.order c.loop-number.invariant.order c.args.from other visited))
