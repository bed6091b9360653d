use Rattle.std.proofs.Common.{◌≡◌, ℕ, ◌+◌, length, refl, sym, ap, subst, ◌∙◌, arith}
use Rattle.std.proofs.lemmas.Bool.{false≢true}
use Rattle.adp_model.specs.declared.cell.Cell.{Cell}
use Rattle.adp_model.specs.PosedProblem.{PosedProblem}
use Rattle.adp_model.specs.ProblemFields.{IsAdmissible}
use Rattle.adp_model.specs.Cells.{AreCountedEnds, IsCounted}
use Rattle.adp_model.specs.Demand.{IsDemanded}
use Rattle.adp_model.specs.Parts.{alternatives_of}
use Rattle.row_scores.specs.RowNumbers.{IsNumberOf}
use Rattle.row_scores.proofs.CellNumbers.{row_number}
use Rattle.row_scores.proofs.RowSweeps.{AreEndsFilled, all_ends, end_filled, end_passed, no_end}
use Rattle.row_scores.proofs.RuleLists.{item_of}
use Rattle.row_scores.proofs.sweep.fill_row.Goals as goal
use Rattle.row_scores.proofs.sweep.fill_row.Goals.{then-is_marked_in_row, else-is_marked_in_row}

admissible_in : (q p : PosedProblem) → q ≡ p → IsAdmissible q → IsAdmissible p
admissible_in q p same admissible = subst IsAdmissible same admissible

ends_in : (q p : PosedProblem) (rule from first past : ℕ) → q ≡ p → AreCountedEnds q.grammar (length q.word) rule from first past
    → AreCountedEnds p.grammar (length p.word) rule from first past
ends_in q p rule from first past same ends = subst (λ (r : PosedProblem). AreCountedEnds r.grammar (length r.word) rule from first past) same ends

pub raise_by-requires-clause-alternative : goal.raise_by-requires-clause-alternative
raise_by-requires-clause-alternative g c = (
  c.args.rule.now.rule,
  c.loop-alternative.alternative-index,
  item_of c.args.lines.now c.args.rule.now.rule _ _ _ c.requires.rule.alternatives c.deref-alternative-items.ensures.value c.loop-alternative.alternative-index
      c.alternative-item.result c.loop-alternative-test.true c.alternative-item.is,
)

pub loop-alternative-preserved : goal.loop-alternative-preserved
loop-alternative-preserved g c =
    let index = c.loop-alternative.alternative-index in
    let is = item_of c.args.lines.now c.args.rule.now.rule _ _ _ c.requires.rule.alternatives c.deref-alternative-items.ensures.value index
    c.alternative-item.result c.loop-alternative-test.true c.alternative-item.is in
    record {
      is_room = c.raise_by.ensures.room;
      row = c.raise_by.ensures.row c.args.rule.now.rule index c.requires.rule.known is c.requires.children.1 c.loop-alternative.invariant.row;
    }

pub loop-to-init : goal.loop-to-init
loop-to-init g c =
    let p = c.args.lines.now in
    let admissible = admissible_in c.problem-problem.result.now p c.problem-problem.ensures c.admissible.ensures in
    let ends = ends_in c.args.layout.now p c.args.rule.now.rule c.args.from c.ends-ends.result.start c.ends-ends.result.end
    c.requires.swept.same_layout c.ends-ends.ensures.ends in
    record {
      filled = no_end g.N.RowNumber.width g.N.RowNumber.value p (c.demanded_cells_are_counted.ensures p admissible.checked.well_formed)
          c.args.rule.now.rule c.args.from c.ends-ends.result.start c.ends-ends.result.end ends c.args.table.now c.requires.children.0;
      kept = λ cell has. has;
    }

pub number-requires : goal.number-requires
number-requires g c =
    let p = c.args.lines.now in
    let ends = ends_in c.args.layout.now p c.args.rule.now.rule c.args.from c.ends-ends.result.start c.ends-ends.result.end
    c.requires.swept.same_layout c.ends-ends.ensures.ends in
    let counted = (ends c.loop-to.to).1 (omega (arith, c.loop-to.auto.to), c.loop-to-test.true) in
    omega (arith, counted.in_word, c.loop-alternative.invariant.is_room.row_long)

pub put-requires : goal.put-requires
put-requires g c =
    let p = c.args.lines.now in
    let cell : Cell = record { rule = c.args.rule.now.rule; from = c.args.from; to = c.loop-to.to } in
    let admissible = admissible_in c.problem-problem.result.now p c.problem-problem.ensures c.admissible.ensures in
    let demanded = (c.requires.swept.marked cell).0 (c.if-is_marked_in_row.ensures.0 refl) in
    subst (λ (q : PosedProblem). IsCounted q.grammar (length q.word) cell) (sym c.loop-to.invariant.filled.numbers.problem)
    (c.demanded_cells_are_counted.ensures p admissible.checked.well_formed cell demanded)

pub loop-to-preserved : goal.loop-to-preserved
loop-to-preserved g c =
    let p = c.args.lines.now in
    let width = g.N.RowNumber.width in
    let value = g.N.RowNumber.value in
    let rule = c.args.rule.now.rule in
    let to = c.loop-to.to in
    let cell : Cell = record { rule = rule; from = c.args.from; to = to } in
    let admissible = admissible_in c.problem-problem.result.now p c.problem-problem.ensures c.admissible.ensures in
    let counted = c.demanded_cells_are_counted.ensures p admissible.checked.well_formed in
    let all : c.loop-alternative.alternative-index ≡ length (alternatives_of p.grammar rule) =
    omega (
      arith,
      c.loop-alternative-test.false,
      c.loop-alternative.auto.alternative-index-end,
      ap length c.deref-alternative-items.ensures.value,
      c.requires.rule.alternatives.each,
    ) in
    elim c.if-is_marked_in_row.branch [
      | then-is_marked_in_row w ↦
          let demanded : IsDemanded p cell = (c.requires.swept.marked cell).0 (w.if-is_marked_in_row.ensures.0 refl) in
          let is : IsNumberOf width p cell (value w.settled.result) =
          row_number p admissible (c.bellman.ensures.admissible p admissible) c.words_keep_their_score_bound.ensures.score c.alternatives_fit.ensures.arguments
          c.arguments_are_few_and_known.ensures.few width c.requires.swept.low rule c.args.from c.loop-alternative.alternative-index all
          c.loop-alternative.room.row c.loop-alternative.invariant.row to demanded (counted cell demanded) (value w.number.result)
          (value w.settled.result) w.number.ensures w.settled.ensures in
          subst (λ table. AreEndsFilled width value p rule c.args.from c.args.table.now table (to + 1)) (sym w.table-is)
          (end_filled width value p rule c.args.from c.args.table.now c.loop-to.table w.put.new.self to w.settled.result c.loop-to.invariant
          w.put.ensures.problem w.put.ensures.row w.put.ensures.column is)
      | else-is_marked_in_row w ↦
          subst (λ table. AreEndsFilled width value p rule c.args.from c.args.table.now table (to + 1)) (sym w.table-is)
          (end_passed width value p rule c.args.from c.args.table.now c.loop-to.table to c.loop-to.invariant
          (λ demanded. false≢true (sym w.if-is_marked_in_row.false ∙ c.is_marked_in_row.ensures.1 ((c.requires.swept.marked cell).1 demanded))))
    ]

pub returns-clause-filled : goal.returns-clause-filled
returns-clause-filled g c =
    let p = c.args.lines.now in
    let admissible = admissible_in c.problem-problem.result.now p c.problem-problem.ensures c.admissible.ensures in
    let ends = ends_in c.args.layout.now p c.args.rule.now.rule c.args.from c.ends-ends.result.start c.ends-ends.result.end
    c.requires.swept.same_layout c.ends-ends.ensures.ends in
    all_ends g.N.RowNumber.width g.N.RowNumber.value p (c.demanded_cells_are_counted.ensures p admissible.checked.well_formed)
    c.args.rule.now.rule c.args.from c.ends-ends.result.start c.ends-ends.result.end c.loop-to.to ends c.loop-to-test.false
    c.loop-to.table c.loop-to.invariant.filled
