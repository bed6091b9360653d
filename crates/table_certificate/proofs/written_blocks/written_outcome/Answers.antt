use Rattle.std.proofs.Common.{◌≡◌, ℕ, List, ◌++◌, ap, arith, subst, ◌∙◌}
use Rattle.adp_model.specs.declared.grammar.Grammar.{Grammar}
use Rattle.adp_model.specs.PosedProblem.{PosedProblem}
use Rattle.adp_model.specs.Demand.{IsDemandedCount}
use Rattle.table_certificate.specs.BlockLines.{IsAtHead}
use Rattle.table_certificate.specs.WrittenCertificate.{IsCertificate}
use Rattle.table_certificate.proofs.WrittenBlocks.{few_demanded, written_is_right}
use Rattle.table_certificate.proofs.written_blocks.written_outcome.Goals as goal

pub overflow_cast-result : goal.overflow_cast-result
overflow_cast-result c =
    let p = c.args.problem.now in
    let counted = subst (λ (q : PosedProblem). IsDemandedCount q c.cells.result) c.requires c.cells.ensures in
    let few = few_demanded p c.admissible.ensures (λ count bound. c.demanded_cells_are_within_the_cell_bound.ensures p count bound c.admissible.ensures.checked.well_formed) c.cells.result counted in
    omega (arith, few)

pub overflow_add-result : goal.overflow_add-result
overflow_add-result c =
    let p = c.args.problem.now in
    let counted = subst (λ (q : PosedProblem). IsDemandedCount q c.cells.result) c.requires c.cells.ensures in
    let few = few_demanded p c.admissible.ensures (λ count bound. c.demanded_cells_are_within_the_cell_bound.ensures p count bound c.admissible.ensures.checked.well_formed) c.cells.result counted in
    omega (arith, few)

pub returns-clause-outcome : goal.returns-clause-outcome
returns-clause-outcome c =
    let p = c.args.problem.now in
    let G = ap (λ (q : PosedProblem). q.grammar) c.problem.view_is in
    let behind = c.in-Some.behind.now in
    let head = subst (λ (g : Grammar). IsAtHead g behind) G c.in-Some.ensures.head in
    let counted = subst (λ (q : PosedProblem). IsDemandedCount q c.cells.result) c.requires c.cells.ensures in
    written_is_right (record {
      read = record {
        counted = c.demanded_cells_are_counted.ensures;
        few = c.demanded_cells_are_within_the_cell_bound.ensures;
        bounded = c.words_keep_their_score_bound.ensures.score;
        names = c.parts_have_names.ensures.rules;
      };
      count = c.demanded_cells_are_unique.ensures.count;
      heads = c.written_lines_are_right.ensures.heads;
      cells = c.written_lines_are_right.ensures.cells;
    }) p c.admissible.ensures c.args.number (omega arith) c.in_ok-block.block.items c.args.text.now behind
    (subst (λ (q : PosedProblem). IsCertificate c.args.number q c.in_ok-block.block.items)
    (c.layout-layout.ensures ∙ c.prepared.ensures ∙ c.requires) c.in_ok-block.ensures)
    (subst (λ (x : List ℕ). c.args.text.now ≡ x ++ behind) c.deref.ensures.value c.in-Some.ensures.text) head
    c.word_score.result c.word_score.ensures.within c.word_score.ensures.outside c.cells.result counted
