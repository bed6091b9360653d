use Rattle.std.proofs.Common.{subst}
use Rattle.adp_model.specs.PosedProblem.{PosedProblem}
use Rattle.adp_model.specs.ProblemFields.{IsAdmissible}
use Rattle.cell_answers.proofs.FrontScores.{no_score_closed}
use Rattle.cell_answers.proofs.filling.alternative_score.Goals as goal

pub returns-in-None-clause-greatest : goal.returns-in-None-clause-greatest
returns-in-None-clause-greatest c =
    let p = c.args.lines.now in
    let admissible : IsAdmissible p = subst (λ (q : PosedProblem). IsAdmissible q) c.problem.ensures c.admissible.ensures in
    let some = c.alternatives_fit.ensures.arguments p.grammar admissible.checked.well_formed c.args.cell.rule c.args.alt c.requires.in_range in
    no_score_closed p c.args.cell c.args.alt c.args.alternative.now c.requires.alternative c.requires.in_range some c.in-None.ensures
