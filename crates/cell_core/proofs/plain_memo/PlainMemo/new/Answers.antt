use Rattle.std.proofs.Common.{length, sym, ap, subst, ◌∙◌, rules}
use Rattle.adp_model.specs.PosedProblem.{PosedProblem}
use Rattle.adp_model.specs.Cells.{IsCellBound}
use Rattle.cell_core.specs.PlainMemos.{AreRecords, HasRecord, record_count}
use Rattle.cell_core.proofs.PlainRecords.{no_records, none_there, none_counted}
use Rattle.cell_core.proofs.plain_memo.PlainMemo.new.Goals as goal

pub invariant_of-pass : goal.invariant_of-pass
invariant_of-pass c =
    let items = c.in_ok-records.ensures.items_if_clones_equal (λ y e. search rules) in
    let bound = subst (λ (p : PosedProblem). IsCellBound p.grammar (length p.word) c.problem.inside.cells)
    c.problem.view_is c.problem.invariant.cells in
    subst (AreRecords c.args.problem.now) (sym items) (no_records c.args.problem.now c.problem.inside.cells bound)

pub returns-clause-none : goal.returns-clause-none
returns-clause-none c = λ cell h.
    let items = c.in_ok-records.ensures.items_if_clones_equal (λ y e. search rules) in
    let k = subst (λ records. HasRecord records cell) items h in
    none_there _ k.0 k.1 k.2

pub returns-clause-wins : goal.returns-clause-wins
returns-clause-wins c =
    let items = c.in_ok-records.ensures.items_if_clones_equal (λ y e. search rules) in
    ap record_count items ∙ none_counted c.problem.inside.cells
