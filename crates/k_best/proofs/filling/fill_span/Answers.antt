use Rattle.std.proofs.Common.{◌≡◌, ◌+◌, [], get_or, refl, sym, ap, subst, ◌∙◌, arith}
use mathlib.Core.Bool.{true≢false}
use Rattle.adp_model.specs.declared.cell.Cell.{Cell}
use Rattle.adp_model.specs.PosedProblem.{PosedProblem}
use Rattle.adp_model.specs.Demand.{IsDemandedChild, IsBelow, IsDemanded, Child}
use Rattle.first_trees.specs.Entries.{AreEntries}
use Rattle.seq_reference.specs.Filling.{IsFilledBeforeRule}
use Rattle.k_best.specs.declared.list_table.ListTable.{ListTable}
use Rattle.k_best.specs.ListTables.{AreListed, HasList, IsLaidOut}
use Rattle.k_best.proofs.Fills.{Counted, all_filled, child_before, filled_more, filled_past, none_filled, visited}
use Rattle.k_best.proofs.filling.fill_span.Goals as goal
use Rattle.k_best.proofs.filling.fill_span.Goals.{After-demanded_children_are_below, then-is_marked_in_row+in_ok-fill_list+in_ok-put, else-is_marked_in_row}

counted : (c : After-demanded_children_are_below) → (cell : Cell) → IsDemanded c.args.sweep.lines.now cell → Counted c.args.sweep.lines.now cell
counted c =
    let q = c.problem.result.now in
    let D : PosedProblem → Type 0 = λ p. (cell : Cell) → IsDemanded p cell → Counted p cell in
    subst D c.problem.ensures (c.demanded_cells_are_counted.ensures q c.admissible.ensures.checked.well_formed)

below : (c : After-demanded_children_are_below) → (cell child : Cell) → IsDemandedChild c.args.sweep.lines.now cell child → IsBelow c.admissible.ensures.ranks child cell
below c =
    let q = c.problem.result.now in
    let it = c.admissible.ensures in
    let B : PosedProblem → Type 0 = λ p. (cell child : Cell) → IsDemandedChild p cell child → IsBelow it.ranks child cell in
    subst B c.problem.ensures (c.demanded_children_are_below.ensures q it.least it.greatest it.ranks it.checked)

pub loop-rule-init : goal.loop-rule-init
loop-rule-init c = record {
  listed = none_filled c.args.sweep.lines.now c.args.sweep.rules.now c.args.from c.args.to c.args.sweep.k c.args.table.now c.requires.listed;
  kept = λ cell has. has;
  empty = c.requires.empty;
}

pub fill_list-requires-clause-lists : goal.fill_list-requires-clause-lists
fill_list-requires-clause-lists c child is =
    let at = (goal.at.fill_list-requires-clause-lists c).After-demanded_children_are_below in
    let p = c.args.sweep.lines.now in
    let rules = c.args.sweep.rules.now in
    let number = c.loop-rule.rule-index in
    let cell = visited p rules c.args.from c.args.to (get_or rules number 0) in
    let demanded = Child cell child ((c.requires.marked cell).0 (c.if-is_marked_in_row.ensures.0 refl)) is in
    c.loop-rule.invariant.listed.lists child demanded
    (child_before p rules c.args.from c.args.to number (get_or rules number 0) refl c.loop-rule-test.true c.requires.ranked
    c.admissible.ensures.ranks (below at) child (counted at child demanded) is)

pub fill_list-requires-clause-rule : goal.fill_list-requires-clause-rule
fill_list-requires-clause-rule c =
    let at = (goal.at.fill_list-requires-clause-rule c).After-demanded_children_are_below in
    let cell = visited c.args.sweep.lines.now c.args.sweep.rules.now c.args.from c.args.to (get_or c.args.sweep.rules.now c.loop-rule.rule-index 0) in
    (counted at cell ((c.requires.marked cell).0 (c.if-is_marked_in_row.ensures.0 refl))).rule

pub fill_list-requires-clause-span : goal.fill_list-requires-clause-span
fill_list-requires-clause-span c =
    let at = (goal.at.fill_list-requires-clause-span c).After-demanded_children_are_below in
    let cell = visited c.args.sweep.lines.now c.args.sweep.rules.now c.args.from c.args.to (get_or c.args.sweep.rules.now c.loop-rule.rule-index 0) in
    let is = counted at cell ((c.requires.marked cell).0 (c.if-is_marked_in_row.ensures.0 refl)) in
    record { in_order = is.in_order; in_word = is.in_word }

pub put-requires-clause-counted : goal.put-requires-clause-counted
put-requires-clause-counted c =
    let at = (goal.at.put-requires-clause-counted c).After-demanded_children_are_below in
    let cell = visited c.args.sweep.lines.now c.args.sweep.rules.now c.args.from c.args.to (get_or c.args.sweep.rules.now c.loop-rule.rule-index 0) in
    let C : PosedProblem → Type 0 = λ q. Counted q cell in
    subst C (sym c.loop-rule.invariant.listed.laid.problem) (counted at cell ((c.requires.marked cell).0 (c.if-is_marked_in_row.ensures.0 refl)))

pub loop-rule-preserved : goal.loop-rule-preserved
loop-rule-preserved c =
    let p = c.args.sweep.lines.now in
    let k = c.args.sweep.k in
    let rules = c.args.sweep.rules.now in
    let from = c.args.from in
    let to = c.args.to in
    let number = c.loop-rule.rule-index in
    let rule = get_or rules number 0 in
    let cell = visited p rules from to rule in
    let F : ListTable → Type 0 = λ table. record {
      listed : AreListed p k table (IsFilledBeforeRule rules from to (number + 1));
      kept : (other : Cell) → HasList k c.args.table.now other → HasList k table other;
    } in
    let problem = c.loop-rule.invariant.listed.laid.problem in
    let made = elim c.if-is_marked_in_row.branch as (λ _. F c.if-is_marked_in_row.table) [
      | then-is_marked_in_row+in_ok-fill_list+in_ok-put w ↦
          let entries = subst (λ (q : PosedProblem). AreEntries q k cell w.fill_list.new.listed.items) (sym problem) w.in_ok-fill_list.ensures in
          subst F (sym w.table-is) (record {
            listed = filled_more p rules from to k c.loop-rule.table w.put.new.self number rule refl c.loop-rule.invariant.listed
                (subst (λ (q : PosedProblem). IsLaidOut q w.put.new.self) problem w.in_ok-put.ensures.laid)
                (w.in_ok-put.ensures.there k entries) (w.in_ok-put.ensures.kept k entries);
            kept = λ other has. w.in_ok-put.ensures.kept k entries other (c.loop-rule.invariant.kept other has);
          })
      | else-is_marked_in_row w ↦
          subst F (sym w.table-is) (record {
            listed = filled_past p rules from to k c.loop-rule.table number rule refl c.loop-rule.invariant.listed
                (λ demanded. let yes = c.is_marked_in_row.ensures.1 ((c.requires.marked cell).1 demanded) in true≢false (sym yes ∙ w.if-is_marked_in_row.false));
            kept = c.loop-rule.invariant.kept;
          })
    ] in
    record {
      listed = made.listed;
      kept = made.kept;
      empty = elim c.if-is_marked_in_row.branch as (λ _. c.if-is_marked_in_row.list.items ≡ []) [
        | then-is_marked_in_row+in_ok-fill_list+in_ok-put w ↦ ap (λ l. l.items) w.list-is ∙ w.in_ok-put.ensures.empty
        | else-is_marked_in_row w ↦ ap (λ l. l.items) w.list-is ∙ c.loop-rule.invariant.empty
      ];
    }

pub returns-clause-listed : goal.returns-clause-listed
returns-clause-listed c =
    let at = (goal.at.returns-clause-listed c).After-demanded_children_are_below in
    all_filled c.args.sweep.lines.now c.args.sweep.rules.now c.args.from c.args.to c.args.sweep.k c.requires.ranked (counted at) c.loop-rule.rule-index
    (omega (arith, c.loop-rule-test.false)) c.loop-rule.table c.loop-rule.invariant.listed
