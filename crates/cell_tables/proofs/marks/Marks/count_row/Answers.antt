use Rattle.std.proofs.Common.{◌≡◌, ◌+◌, ◌*◌, ◌≤◌, length, sym, ap, subst, ◌∙◌, arith}
use Rattle.std.specs.Prelude.{unwrap_or}
use Rattle.std.proofs.lemmas.Bool.{false≢true}
use Rattle.std.proofs.lemmas.Nat.{ones-le}
use Rattle.adp_model.specs.Cells.{AreCountedEnds, IsCountOf}
use Rattle.cell_tables.specs.Marks.{CellMarks}
use Rattle.cell_tables.proofs.CellCounts.{no_cells}
use Rattle.cell_tables.proofs.SetSpans.{word_at}
use Rattle.cell_tables.proofs.RowCounts.{IsEarly, none_early, next_number, all_early}
use Rattle.cell_tables.proofs.marks.Marks.count_row.Goals as goal
use Rattle.cell_tables.proofs.marks.Marks.count_row.Goals.{After-div_ceil-number-end}

ends : (c : After-div_ceil-number-end) → AreCountedEnds c.args.self.now.problem.grammar (length c.args.self.now.problem.word) c.args.rule c.args.from c.ends-ends.result.start c.ends-ends.result.end
ends c =
    let E : CellMarks → Type 0 = λ marks. AreCountedEnds marks.problem.grammar (length marks.problem.word) c.args.rule c.args.from c.ends-ends.result.start c.ends-ends.result.end in
    subst E c.self.view_is c.ends-ends.ensures.ends

pub returns-then-not-has_start-clause-count : goal.returns-then-not-has_start-clause-count
returns-then-not-has_start-clause-count c = no_cells _ (λ cell (row, r, f). false≢true (sym c.if-not-has_start.true ∙ c.has_start.ensures.1 (cell, f, row)))

pub loop-number-init : goal.loop-number-init
loop-number-init c =
    let before = (goal.at.loop-number-init c).After-div_ceil-number-end in
    record {
      counted = none_early c.args.self.now c.args.rule c.args.from c.cells.ensures c.ends-ends.result.start c.ends-ends.result.end (ends before);
      few = omega arith;
    }

pub loop-number-preserved : goal.loop-number-preserved
loop-number-preserved c =
    let marks = c.args.self.now in
    let rule = c.args.rule in
    let from = c.args.from in
    let number = c.loop-number.number in
    let bits = c.unwrap_or-bits.result in
    let word : bits ≡ word_at marks.rows rule from number = c.unwrap_or-bits.ensures ∙ ap (λ value. unwrap_or value 0) c.get.ensures ∙ ap (λ (it : CellMarks). word_at it.rows rule from number) c.self.view_is in
    let more = next_number marks rule from number c.loop-number.count bits word (omega arith) c.loop-number.invariant.counted in
    record {
      counted = subst (λ n. IsCountOf (IsEarly marks rule from (number + 1)) (c.loop-number.count + n)) (sym c.from-count.ensures) more;
      few = omega (arith, c.loop-number.invariant.few, ones-le 64 bits (omega arith), c.from-count.ensures);
    }

pub returns-clause-count : goal.returns-clause-count
returns-clause-count c =
    let before = (goal.at.returns-clause-count c).After-div_ceil-number-end in
    let end : c.ends-ends.result.end ≤ 64 * c.loop-number.number = omega (arith, c.loop-number-test.false, c.div_ceil-number-end.ensures) in
    all_early c.args.self.now c.args.rule c.args.from c.cells.ensures c.ends-ends.result.start c.ends-ends.result.end (ends before) c.loop-number.number c.loop-number.count end c.loop-number.invariant.counted

pub returns-clause-few : goal.returns-clause-few
returns-clause-few c = omega (arith, c.loop-number.invariant.few, c.div_ceil-number-end.ensures, c.ends-ends.ensures.in_order)
