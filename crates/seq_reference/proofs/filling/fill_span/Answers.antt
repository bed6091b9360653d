use Rattle.std.proofs.Common.{◌+◌, get_or, refl, sym, subst, ℤ, arith}
use Rattle.adp_model.specs.declared.cell.Cell.{Cell}
use Rattle.adp_model.specs.PosedProblem.{PosedProblem}
use Rattle.adp_model.specs.Demand.{IsDemandedChild, IsBelow, IsDemanded, Child}
use Rattle.cell_tables.specs.Tables.{Table}
use Rattle.seq_reference.specs.Filling.{AreFilled, AreKept, IsFilledBeforeRule, IsShorterWithin, IsWithin}
use Rattle.seq_reference.proofs.Sweeps.{Counted, visited}
use Rattle.seq_reference.proofs.Fills.{filled_fewer, filled_past, filled_kept, fill_cases, child_before, none_filled, all_filled}
use Rattle.seq_reference.proofs.filling.fill_span.Goals as goal
use Rattle.seq_reference.proofs.filling.fill_span.Goals.{After-demanded_children_are_below, then-is_marked_in_row, else-is_marked_in_row}

counted : (c : After-demanded_children_are_below) → (cell : Cell) → IsDemanded c.args.lines.now cell → Counted c.args.lines.now cell
counted c =
    let q = c.problem.result.now in
    let D : PosedProblem → Type 0 = λ p. (cell : Cell) → IsDemanded p cell → Counted p cell in
    subst D c.problem.ensures (c.demanded_cells_are_counted.ensures q c.admissible.ensures.checked.well_formed)

below : (c : After-demanded_children_are_below) → (cell child : Cell) → IsDemandedChild c.args.lines.now cell child → IsBelow c.admissible.ensures.ranks child cell
below c =
    let q = c.problem.result.now in
    let it = c.admissible.ensures in
    let B : PosedProblem → Type 0 = λ p. (cell child : Cell) → IsDemandedChild p cell child → IsBelow it.ranks child cell in
    subst B c.problem.ensures (c.demanded_children_are_below.ensures q it.least it.greatest it.ranks it.checked)

pub loop-rule-init : goal.loop-rule-init
loop-rule-init c =
    let p = c.args.lines.now in
    let before = (goal.at.loop-rule-init c).After-demanded_children_are_below in
    record {
      filled = filled_fewer p (counted before) c.args.scores.now (IsShorterWithin c.args.from c.args.to) (IsFilledBeforeRule c.args.rules.now c.args.from c.args.to 0)
          (λ cell _. none_filled p c.args.rules.now c.args.from c.args.to cell) c.requires.filled;
      kept = λ cell entry. entry;
    }

pub fill-requires-clause-rule : goal.fill-requires-clause-rule
fill-requires-clause-rule c =
    let before = (goal.at.fill-requires-clause-rule c).After-demanded_children_are_below in
    let cell = visited c.args.lines.now c.args.rules.now c.args.from c.args.to (get_or c.args.rules.now c.loop-rule.rule-index 0) in
    (counted before cell ((c.requires.marked cell).0 (c.if-is_marked_in_row.ensures.0 refl))).rule

pub fill-requires-clause-in_word : goal.fill-requires-clause-in_word
fill-requires-clause-in_word c =
    let before = (goal.at.fill-requires-clause-in_word c).After-demanded_children_are_below in
    let cell = visited c.args.lines.now c.args.rules.now c.args.from c.args.to (get_or c.args.rules.now c.loop-rule.rule-index 0) in
    let is = counted before cell ((c.requires.marked cell).0 (c.if-is_marked_in_row.ensures.0 refl)) in
    record { in_order = is.in_order; in_word = is.in_word }

pub fill-requires-clause-scored : goal.fill-requires-clause-scored
fill-requires-clause-scored c = λ child is.
    let p = c.args.lines.now in
    let rules = c.args.rules.now in
    let number = c.loop-rule.rule-index in
    let before = (goal.at.fill-requires-clause-scored c).After-demanded_children_are_below in
    let cell = visited c.args.lines.now c.args.rules.now c.args.from c.args.to (get_or c.args.rules.now c.loop-rule.rule-index 0) in
    let demanded = Child cell child ((c.requires.marked cell).0 (c.if-is_marked_in_row.ensures.0 refl)) is in
    c.loop-rule.invariant.filled.entries child demanded
    (child_before p rules c.args.from c.args.to number (get_or rules number 0) refl c.loop-rule-test.true c.requires.ranked c.admissible.ensures.ranks (below before) child (counted before child demanded) is)

pub fill-requires-clause-counted : goal.fill-requires-clause-counted
fill-requires-clause-counted c =
    let before = (goal.at.fill-requires-clause-counted c).After-demanded_children_are_below in
    let cell = visited c.args.lines.now c.args.rules.now c.args.from c.args.to (get_or c.args.rules.now c.loop-rule.rule-index 0) in
    counted before cell ((c.requires.marked cell).0 (c.if-is_marked_in_row.ensures.0 refl))

pub fill-requires-clause-same_problem : goal.fill-requires-clause-same_problem
fill-requires-clause-same_problem c = c.loop-rule.invariant.filled.problem

pub loop-rule-preserved : goal.loop-rule-preserved
loop-rule-preserved c =
    let p = c.args.lines.now in
    let rules = c.args.rules.now in
    let from = c.args.from in
    let to = c.args.to in
    let number = c.loop-rule.rule-index in
    let before = (goal.at.loop-rule-preserved c).After-demanded_children_are_below in
    let rule = get_or rules number 0 in
    let cell = visited p rules from to rule in
    let F : Table ℤ → Type 0 = λ scores. record {
      filled : AreFilled p scores (IsFilledBeforeRule rules from to (number + 1));
      kept : AreKept c.args.scores.now scores;
    } in
    elim c.if-is_marked_in_row.branch [
      | then-is_marked_in_row w ↦
          subst F (sym w.scores-is) (record {
            filled = filled_kept p (counted before) cell c.loop-rule.scores w.fill.new.self (IsFilledBeforeRule rules from to number) (IsFilledBeforeRule rules from to (number + 1))
                c.loop-rule.invariant.filled w.fill.ensures.problem w.fill.ensures.kept w.fill.ensures.others (fill_cases p rules from to number rule refl);
            kept = λ other entry. w.fill.ensures.others other (c.loop-rule.invariant.kept other entry);
          })
      | else-is_marked_in_row w ↦
          subst F (sym w.scores-is) (record {
            filled = filled_past p (counted before) cell c.loop-rule.scores (IsFilledBeforeRule rules from to number) (IsFilledBeforeRule rules from to (number + 1))
                c.loop-rule.invariant.filled (λ demanded. let yes = c.is_marked_in_row.ensures.1 ((c.requires.marked cell).1 demanded) in let no = w.if-is_marked_in_row.false in absurd cc) (fill_cases p rules from to number rule refl);
            kept = c.loop-rule.invariant.kept;
          })
    ]

pub returns-clause-filled : goal.returns-clause-filled
returns-clause-filled c =
    let p = c.args.lines.now in
    let before = (goal.at.returns-clause-filled c).After-demanded_children_are_below in
    filled_fewer p (counted before) c.loop-rule.scores (IsFilledBeforeRule c.args.rules.now c.args.from c.args.to c.loop-rule.rule-index) (IsWithin c.args.from c.args.to)
    (all_filled p c.args.rules.now c.args.from c.args.to c.requires.ranked c.loop-rule.rule-index (omega (arith, c.loop-rule-test.false))) c.loop-rule.invariant.filled
