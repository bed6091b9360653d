use Rattle.std.proofs.Common.{◌≡◌, ℕ, ◌+◌, ◌-◌, length, get_or, refl, subst, inl, arith}
use Rattle.adp_model.specs.declared.cell.Cell.{Cell}
use Rattle.adp_model.specs.PosedProblem.{PosedProblem}
use Rattle.adp_model.specs.Demand.{IsDemandedChild, IsBelow, IsDemanded, Child}
use Rattle.seq_reference.specs.Sweeping.{AreSwept, IsBeforeEnd, IsBeforeRule}
use Rattle.seq_reference.proofs.Sweeps.{Counted, swept_fewer, swept_past, swept_settled, still_gathered, visited, rule_cases, not_before, none_behind, all_behind}
use Rattle.seq_reference.proofs.demand.settle_span.Goals as goal
use Rattle.seq_reference.proofs.demand.settle_span.Goals.{After-demanded_children_are_below}

counted : (c : After-demanded_children_are_below) → (cell : Cell) → IsDemanded c.args.lines.now cell → Counted c.args.lines.now cell
counted c =
    let q = c.problem.result.now in
    let D : PosedProblem → Type 0 = λ p. (cell : Cell) → IsDemanded p cell → Counted p cell in
    subst D c.problem.ensures (c.demanded_cells_are_counted.ensures q c.admissible.ensures.checked.well_formed)

below : (c : After-demanded_children_are_below) → (cell child : Cell) → IsDemandedChild c.args.lines.now cell child → IsBelow c.admissible.ensures.ranks child cell
below c =
    let q = c.problem.result.now in
    let it = c.admissible.ensures in
    let B : PosedProblem → Type 0 = λ p. (cell child : Cell) → IsDemandedChild p cell child → IsBelow it.ranks child cell in
    subst B c.problem.ensures (c.demanded_children_are_below.ensures q it.least it.greatest it.ranks it.checked)

pub loop-number-init : goal.loop-number-init
loop-number-init c =
    let p = c.args.lines.now in
    let before = (goal.at.loop-number-init c).After-demanded_children_are_below in
    record {
      gathered = c.requires.gathered;
      swept = swept_fewer p (counted before) c.args.marks.now (IsBeforeEnd c.args.from (c.args.to + 1)) (IsBeforeRule c.args.rules.now c.args.from c.args.to (length c.args.rules.now))
          (λ cell _. none_behind p c.args.rules.now c.args.from c.args.to cell) c.requires.swept;
    }

pub mark_children-requires-clause-rule : goal.mark_children-requires-clause-rule
mark_children-requires-clause-rule c =
    let p = c.args.lines.now in
    let before = (goal.at.mark_children-requires-clause-rule c).After-demanded_children_are_below in
    let cell = visited p c.args.rules.now c.args.from c.args.to (get_or c.args.rules.now (c.loop-number.number - 1) 0) in
    (counted before cell (c.loop-number.invariant.swept.demanded cell (inl (c.if-is_marked_in_row.ensures.0 refl)))).rule

pub mark_children-requires-clause-span : goal.mark_children-requires-clause-span
mark_children-requires-clause-span c =
    let p = c.args.lines.now in
    let before = (goal.at.mark_children-requires-clause-span c).After-demanded_children_are_below in
    let cell = visited p c.args.rules.now c.args.from c.args.to (get_or c.args.rules.now (c.loop-number.number - 1) 0) in
    let is = counted before cell (c.loop-number.invariant.swept.demanded cell (inl (c.if-is_marked_in_row.ensures.0 refl))) in
    record { in_order = is.in_order; in_word = is.in_word }

pub mark_children-requires-clause-counted : goal.mark_children-requires-clause-counted
mark_children-requires-clause-counted c =
    let p = c.args.lines.now in
    let before = (goal.at.mark_children-requires-clause-counted c).After-demanded_children_are_below in
    let cell = visited p c.args.rules.now c.args.from c.args.to (get_or c.args.rules.now (c.loop-number.number - 1) 0) in
    λ child is. counted before child (Child cell child (c.loop-number.invariant.swept.demanded cell (inl (c.if-is_marked_in_row.ensures.0 refl))) is)

pub loop-number-preserved-then-is_marked_in_row : goal.loop-number-preserved-then-is_marked_in_row
loop-number-preserved-then-is_marked_in_row c =
    let p = c.args.lines.now in
    let rules = c.args.rules.now in
    let from = c.args.from in
    let to = c.args.to in
    let before = (goal.at.loop-number-preserved-then-is_marked_in_row c).After-demanded_children_are_below in
    let number = c.loop-number.number - 1 in
    let rule = get_or rules number 0 in
    let cell = visited p rules from to rule in
    let next : c.loop-number.number ≡ number + 1 = omega (arith, c.loop-number-test.true) in
    let S : ℕ → Type 0 = λ n. AreSwept p c.loop-number.marks (IsBeforeRule rules from to n) in
    record {
      gathered = still_gathered from c.loop-number.marks c.mark_children.new.self (IsDemandedChild p cell) c.loop-number.invariant.gathered c.mark_children.ensures;
      swept = swept_settled p (counted before) cell c.loop-number.marks c.mark_children.new.self (IsBeforeRule rules from to (number + 1)) (IsBeforeRule rules from to number)
          (subst S next c.loop-number.invariant.swept) (c.if-is_marked_in_row.ensures.0 refl) c.mark_children.ensures.marked
          (rule_cases p rules from to number rule refl)
          (not_before p rules from to number rule refl (omega (arith, c.loop-number-test.true, c.loop-number.auto.number)) c.requires.ranked c.admissible.ensures.ranks (below before));
    }

pub loop-number-preserved : goal.loop-number-preserved
loop-number-preserved c =
    let p = c.args.lines.now in
    let rules = c.args.rules.now in
    let from = c.args.from in
    let to = c.args.to in
    let before = (goal.at.loop-number-preserved c).After-demanded_children_are_below in
    let number = c.loop-number.number - 1 in
    let rule = get_or rules number 0 in
    let cell = visited p rules from to rule in
    let next : c.loop-number.number ≡ number + 1 = omega (arith, c.loop-number-test.true) in
    let S : ℕ → Type 0 = λ n. AreSwept p c.loop-number.marks (IsBeforeRule rules from to n) in
    record {
      gathered = c.loop-number.invariant.gathered;
      swept = swept_past p (counted before) cell c.loop-number.marks (IsBeforeRule rules from to (number + 1)) (IsBeforeRule rules from to number)
          (subst S next c.loop-number.invariant.swept) (λ marked. let yes = c.if-is_marked_in_row.ensures.1 (c.loop-number.invariant.gathered cell refl marked) in absurd cc)
          (rule_cases p rules from to number rule refl);
    }

pub returns-clause-swept : goal.returns-clause-swept
returns-clause-swept c =
    let p = c.args.lines.now in
    let before = (goal.at.returns-clause-swept c).After-demanded_children_are_below in
    let none : c.loop-number.number ≡ 0 = omega (arith, c.loop-number-test.false) in
    let S : ℕ → Type 0 = λ n. AreSwept p c.loop-number.marks (IsBeforeRule c.args.rules.now c.args.from c.args.to n) in
    swept_fewer p (counted before) c.loop-number.marks (IsBeforeRule c.args.rules.now c.args.from c.args.to 0) (IsBeforeEnd c.args.from c.args.to)
    (all_behind p c.args.rules.now c.args.from c.args.to c.requires.ranked) (subst S none c.loop-number.invariant.swept)
