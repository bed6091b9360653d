use Rattle.std.proofs.Common.{sym, subst, ◌∙◌}
use Rattle.std.proofs.lemmas.Bool.{false≢true}
use Rattle.adp_model.specs.PosedProblem.{PosedProblem}
use Rattle.adp_model.specs.ProblemFields.{IsAdmissible}
use Rattle.cell_answers.proofs.FrontScores.{no_score_closed}
use Rattle.cell_answers.proofs.filling.candidate_score.Goals as goal

pub returns-then-not-have-clause-greatest : goal.returns-then-not-have-clause-greatest
returns-then-not-have-clause-greatest c =
    let A : PosedProblem → Type 0 = IsAdmissible in
    let admissible : IsAdmissible c.args.lines.now = subst A c.problem.ensures c.admissible.ensures in
    let some = c.alternatives_fit.ensures.arguments c.args.lines.now.grammar admissible.checked.well_formed c.args.cell.rule c.args.alt c.requires.in_range in
    no_score_closed c.args.lines.now c.args.cell c.args.alt c.args.alternative.now c.requires.alternative c.requires.in_range some
    (c.requires.others (λ is. false≢true (sym c.if-not-have.true ∙ c.have.ensures.1 is)))
