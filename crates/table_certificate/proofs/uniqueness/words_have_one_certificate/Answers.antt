use Rattle.table_certificate.proofs.OneScore.{certificate_exists, certificate_unique}
use Rattle.table_certificate.proofs.uniqueness.words_have_one_certificate.Goals as goal

pub returns-clause-one : goal.returns-clause-one
returns-clause-one c = certificate_unique c.demanded_cells_are_unique.ensures.cells

pub returns-clause-there : goal.returns-clause-there
returns-clause-there c = λ number p admissible.
    let listed = c.demanded_cells_are_listed.ensures.cells p admissible in
    certificate_exists (record {
      bellman = c.bellman.ensures.admissible;
      best = c.preferred_tree_has_the_best_score.ensures;
    }) p admissible c.demanded_cells_are_counted.ensures listed.0 listed.1 number
