use Rattle.lex_product.specs.CompiledGrammar.{compiled_problem, multiplier_of}
use Rattle.adp_model.specs.PosedProblem.{axiom_cell}
use Rattle.lex_product.proofs.PairReports.{report_there, report_one}
use Rattle.lex_product.proofs.laws.words_have_one_pair_report.Goals as goal

pub returns-clause-report : goal.returns-clause-report
returns-clause-report c number p second bound can admissible =
    let found = c.words_have_reports.ensures number (compiled_problem p second (multiplier_of bound)) admissible in
    report_there (record {
      bounded = c.words_keep_their_score_bound.ensures.score;
      rules = c.alternatives_fit.ensures.rule;
      signs = c.alternatives_fit.ensures.sign;
      terms = c.terms_fit_their_signs.ensures.terms;
      fits = c.terms_fit_their_signs.ensures.fit;
    }) p second bound can number found.0 found.1

pub returns-clause-one : goal.returns-clause-one
returns-clause-one c number p second bound can admissible =
    let compiled = compiled_problem p second (multiplier_of bound) in
    report_one (record {
      bounded = c.words_keep_their_score_bound.ensures.score;
      rules = c.alternatives_fit.ensures.rule;
      signs = c.alternatives_fit.ensures.sign;
      terms = c.terms_fit_their_signs.ensures.terms;
      fits = c.terms_fit_their_signs.ensures.fit;
    }) p second bound can (λ t u first other. c.preferred_tree_is_unique.ensures compiled (axiom_cell p) t u admissible.checked.well_formed first other)
    (c.demanded_cells_are_unique.ensures.count p) number
