use Rattle.std.proofs.Common.{◌≡◌, ℕ, ◌+◌, ◌<◌, ◌≤◌, sym, ap, subst, ◌∙◌, arith}
use Rattle.adp_model.specs.LimitFaults.{told}
use Rattle.adp_model.specs.WideTerms.{form_of}
use Rattle.grammar_check.specs.Tables.{entry}
use Rattle.grammar_check.specs.TermSpreads.{term_room, term_spread}
use Rattle.grammar_check.proofs.WideSteps.{Writes, IsNodeStep, AreNodeRows, node_spread, rows_at_node, set_writes, joined_cut, node_written}
use Rattle.grammar_check.proofs.wide_rows.+extend_term.Goals as goal

pub returns-clause-other_columns : goal.returns-clause-other_columns
returns-clause-other_columns t c = λ row column differ less.
    let parts = c.args.parts.now in
    let node = c.in-Some.node in
    let left = form_of node.left.now in
    let right = form_of node.right.now in
    let first = c.args.first in
    let spare = c.args.spare in
    let width = c.args.rows.now.width in
    let m = c.rows_of.result in
    let n = c.rows_of-2.result in
    let one = c.extend_term-left.new.rows in
    let two = c.extend_term-right.new.rows in
    let same_one = c.extend_term-left.ensures.width in
    let same_two = c.extend_term-right.ensures.width in
    let same_three = c.set.ensures.width in
    let left_writes : Writes c.args.rows.now one first (first + m) spare width = record {
      columns = c.extend_term-left.ensures.other_columns;
      lower = c.extend_term-left.ensures.lower_rows;
      further = λ row more. c.extend_term-left.ensures.further_rows row (omega (arith, more, c.rows_of.ensures));
    } in
    let right_writes : Writes one two (first + m) (first + m + n) spare width = record {
      columns = λ row column differ less. c.extend_term-right.ensures.other_columns row column differ (omega (arith, less, same_one));
      lower = c.extend_term-right.ensures.lower_rows;
      further = λ row more. c.extend_term-right.ensures.further_rows row (omega (arith, more, c.rows_of-2.ensures));
    } in
    let own_writes : Writes two c.set.new.self (first + m + n) (first + m + n + 1) spare width =
    set_writes two c.set.new.self (first + m + n) spare width (omega (arith, same_one, same_two)) c.requires.column c.set.ensures.other_columns c.set.ensures.other_rows in
    let next_writes : Writes c.set.new.self c.set-2.new.self (first + m + n + 1) (first + m + n + 1 + 1) spare width =
    set_writes c.set.new.self c.set-2.new.self (first + m + n + 1) spare width (omega (arith, same_one, same_two, same_three)) c.requires.column c.set-2.ensures.other_columns c.set-2.ensures.other_rows in
    next_writes.columns row column differ less ∙ own_writes.columns row column differ less ∙ right_writes.columns row column differ less ∙ left_writes.columns row column differ less

pub returns-clause-value : goal.returns-clause-value
returns-clause-value t c = λ bound reads rows.
    let parts = c.args.parts.now in
    let node = c.in-Some.node in
    let left = form_of node.left.now in
    let right = form_of node.right.now in
    let first = c.args.first in
    let spare = c.args.spare in
    let width = c.args.rows.now.width in
    let m = c.rows_of.result in
    let n = c.rows_of-2.result in
    let one = c.extend_term-left.new.rows in
    let two = c.extend_term-right.new.rows in
    let same_one = c.extend_term-left.ensures.width in
    let same_two = c.extend_term-right.ensures.width in
    let same_three = c.set.ensures.width in
    let left_writes : Writes c.args.rows.now one first (first + m) spare width = record {
      columns = c.extend_term-left.ensures.other_columns;
      lower = c.extend_term-left.ensures.lower_rows;
      further = λ row more. c.extend_term-left.ensures.further_rows row (omega (arith, more, c.rows_of.ensures));
    } in
    let right_writes : Writes one two (first + m) (first + m + n) spare width = record {
      columns = λ row column differ less. c.extend_term-right.ensures.other_columns row column differ (omega (arith, less, same_one));
      lower = c.extend_term-right.ensures.lower_rows;
      further = λ row more. c.extend_term-right.ensures.further_rows row (omega (arith, more, c.rows_of-2.ensures));
    } in
    let own_writes : Writes two c.set.new.self (first + m + n) (first + m + n + 1) spare width =
    set_writes two c.set.new.self (first + m + n) spare width (omega (arith, same_one, same_two)) c.requires.column c.set.ensures.other_columns c.set.ensures.other_rows in
    let next_writes : Writes c.set.new.self c.set-2.new.self (first + m + n + 1) (first + m + n + 1 + 1) spare width =
    set_writes c.set.new.self c.set-2.new.self (first + m + n + 1) spare width (omega (arith, same_one, same_two, same_three)) c.requires.column c.set-2.ensures.other_columns c.set-2.ensures.other_rows in
    let step : IsNodeStep bound parts left right m n first spare width c.extend_term-left.result c.extend_term-right.result c.args.rows.now one two c.set.new.self c.set-2.new.self = record {
      narrow = c.requires.column;
      left_writes = left_writes;
      right_writes = right_writes;
      own_writes = own_writes;
      next_writes = next_writes;
      own_is = c.set.ensures.here;
      next_is = c.set-2.ensures.here;
      left_is = c.extend_term-left.ensures.value bound reads;
      right_is = c.extend_term-right.ensures.value bound reads;
      left_rows = c.extend_term-left.ensures.spread bound reads;
      right_rows = c.extend_term-right.ensures.spread bound reads;
    } in
    let here : AreNodeRows bound parts c.args.rows.now left right first spare = subst (λ X. X) (rows_at_node bound parts c.args.rows.now node.operation left right (form_of c.args.term.now) first spare c.in-Some.ensures) rows in
    let written = node_written bound parts left right first spare width c.extend_term-left.result c.extend_term-right.result c.args.rows.now one two c.set.new.self c.set-2.new.self m n c.rows_of.ensures c.rows_of-2.ensures step here in
    let in_table : (column : ℕ) → column ≤ spare → column < c.set-2.new.self.width = λ column low. omega (arith, low, same_one, same_two, same_three, c.set-2.ensures.width, c.requires.column) in
    c.best_of_sides.ensures (term_spread bound parts left) (term_spread bound parts right)
    (λ column low. c.row.ensures.entries column (in_table column low) ∙ subst (λ k. entry c.set-2.new.self k column ≡ told (term_spread bound parts left column)) (omega (arith, c.rows_of.ensures, c.rows_of-2.ensures)) (written.2.0 column (omega (arith, low))))
    (λ column low. c.row-2.ensures.entries column (in_table column low) ∙ subst (λ k. entry c.set-2.new.self k column ≡ told (term_spread bound parts right column)) (omega (arith, c.rows_of.ensures, c.rows_of-2.ensures)) (written.2.1 column (omega (arith, low))))
    ∙ ap told (joined_cut node.operation (term_spread bound parts left) (term_room parts left) (term_spread bound parts right) (term_room parts right) spare c.term_room.result c.term_room-2.result c.requires.short c.term_room.ensures c.term_room-2.ensures
    ∙ sym (node_spread bound parts node.operation left right (form_of c.args.term.now) spare c.in-Some.ensures))

pub returns-clause-spread : goal.returns-clause-spread
returns-clause-spread t c = λ bound reads rows.
    let parts = c.args.parts.now in
    let node = c.in-Some.node in
    let left = form_of node.left.now in
    let right = form_of node.right.now in
    let first = c.args.first in
    let spare = c.args.spare in
    let width = c.args.rows.now.width in
    let m = c.rows_of.result in
    let n = c.rows_of-2.result in
    let one = c.extend_term-left.new.rows in
    let two = c.extend_term-right.new.rows in
    let same_one = c.extend_term-left.ensures.width in
    let same_two = c.extend_term-right.ensures.width in
    let same_three = c.set.ensures.width in
    let left_writes : Writes c.args.rows.now one first (first + m) spare width = record {
      columns = c.extend_term-left.ensures.other_columns;
      lower = c.extend_term-left.ensures.lower_rows;
      further = λ row more. c.extend_term-left.ensures.further_rows row (omega (arith, more, c.rows_of.ensures));
    } in
    let right_writes : Writes one two (first + m) (first + m + n) spare width = record {
      columns = λ row column differ less. c.extend_term-right.ensures.other_columns row column differ (omega (arith, less, same_one));
      lower = c.extend_term-right.ensures.lower_rows;
      further = λ row more. c.extend_term-right.ensures.further_rows row (omega (arith, more, c.rows_of-2.ensures));
    } in
    let own_writes : Writes two c.set.new.self (first + m + n) (first + m + n + 1) spare width =
    set_writes two c.set.new.self (first + m + n) spare width (omega (arith, same_one, same_two)) c.requires.column c.set.ensures.other_columns c.set.ensures.other_rows in
    let next_writes : Writes c.set.new.self c.set-2.new.self (first + m + n + 1) (first + m + n + 1 + 1) spare width =
    set_writes c.set.new.self c.set-2.new.self (first + m + n + 1) spare width (omega (arith, same_one, same_two, same_three)) c.requires.column c.set-2.ensures.other_columns c.set-2.ensures.other_rows in
    let step : IsNodeStep bound parts left right m n first spare width c.extend_term-left.result c.extend_term-right.result c.args.rows.now one two c.set.new.self c.set-2.new.self = record {
      narrow = c.requires.column;
      left_writes = left_writes;
      right_writes = right_writes;
      own_writes = own_writes;
      next_writes = next_writes;
      own_is = c.set.ensures.here;
      next_is = c.set-2.ensures.here;
      left_is = c.extend_term-left.ensures.value bound reads;
      right_is = c.extend_term-right.ensures.value bound reads;
      left_rows = c.extend_term-left.ensures.spread bound reads;
      right_rows = c.extend_term-right.ensures.spread bound reads;
    } in
    let here : AreNodeRows bound parts c.args.rows.now left right first spare = subst (λ X. X) (rows_at_node bound parts c.args.rows.now node.operation left right (form_of c.args.term.now) first spare c.in-Some.ensures) rows in
    let written = node_written bound parts left right first spare width c.extend_term-left.result c.extend_term-right.result c.args.rows.now one two c.set.new.self c.set-2.new.self m n c.rows_of.ensures c.rows_of-2.ensures step here in
    subst (λ X. X) (sym (rows_at_node bound parts c.set-2.new.self node.operation left right (form_of c.args.term.now) first (spare + 1) c.in-Some.ensures)) written
