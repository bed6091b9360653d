use Rattle.memo_table.proofs.AnswersFit.{answer_fits}
use Rattle.memo_table.proofs.laws.answers_have_words.Goals as goal

pub returns : goal.returns
returns c p admissible cell answer demanded right =
    let formed = admissible.checked.well_formed in
    answer_fits p admissible cell answer (c.demanded_cells_are_counted.ensures p formed cell demanded) right
    (c.bellman.ensures.admissible p admissible) c.words_keep_their_score_bound.ensures.score
    (λ alternative cuts in_order viable. c.viable_cuts_lie_within_the_cell.ensures p formed cell alternative cuts
    in_order viable)
    (c.alternatives_fit.ensures.few p.grammar formed cell.rule)
