use Rattle.std.proofs.Common.{length, slice_index, sym, ap, ◌∙◌}
use Rattle.adp_model.specs.LimitFaults.{told}
use Rattle.grammar_check.proofs.MeasuredPlans.{sound_arguments}
use Rattle.grammar_check.proofs.ScoreNumbers.{score_is}
use Rattle.grammar_check.proofs.bounds.BoundRows.new.Goals as goal

pub returns-clause-rows : goal.returns-clause-rows
returns-clause-rows c =
    let checked = c.args.checked.now in
    let found = c.passes.ensures.found in
    let grammar = checked.grammar in
    let sound = sound_arguments grammar (c.numbers_fit_together.ensures.named_known grammar found.well_formed) (c.numbers_fit_together.ensures.runs_in_order grammar found.well_formed) in
    let words = c.words_have_one_bound.ensures in
    let scores = c.new-scores.ensures in
    let nodes = c.new-nodes.ensures in
    record {
      scores_each = ap length scores ∙ c.in_ok-score_row.ensures.each;
      nodes_each = ap length nodes ∙ c.in_ok-node_row.ensures.each;
      scores_are = λ len short.
          let one = words.score grammar checked.algebra checked.sizes.least checked.sizes.greatest checked.ranks found len in (
            one.0,
            one.1,
            ap (λ row. slice_index row len) scores ∙ c.in_ok-score_row.ensures.bounds one.1.0 one.1.1 len short
                ∙ ap told (sym (score_is grammar checked.algebra checked.sizes.least checked.sizes.greatest c.args.longest sound one.1.0 len one.0 short one.1.2)),
          );
      nodes_are = λ len short.
          let one = words.node grammar checked.algebra checked.sizes.least checked.sizes.greatest checked.ranks found len in
          (one.0, one.1, ap (λ row. slice_index row len) nodes ∙ c.in_ok-node_row.ensures.bounds one.1.0 one.1.1 len short ∙ ap told (sym one.1.2));
    }
