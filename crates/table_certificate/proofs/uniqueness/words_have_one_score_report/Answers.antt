use Rattle.table_certificate.proofs.OneScore.{score_report_exists, score_report_unique}
use Rattle.table_certificate.proofs.uniqueness.words_have_one_score_report.Goals as goal

pub returns-clause-one : goal.returns-clause-one
returns-clause-one c = score_report_unique

pub returns-clause-there : goal.returns-clause-there
returns-clause-there c = λ number p admissible.
    score_report_exists (record {
      bellman = c.bellman.ensures.admissible;
      best = c.preferred_tree_has_the_best_score.ensures;
    }) p admissible number
