use Rattle.std.proofs.Common.{FitsSigned, w64, rules}
use Rattle.std.proofs.lemmas.Int.{to_z-of_z}
use Rattle.adp_model.specs.Bellman.{HasBestScore}
use Rattle.cell_answers.proofs.filling.cell_score_noting.Goals as goal

pub returns-in-Some-clause-best : goal.returns-in-Some-clause-best
returns-in-Some-clause-best c =
    let fits : FitsSigned w64 c.in-Some.best.score = search rules in
    let given = c.in-Some.ensures.best in
    let best : HasBestScore c.args.lines.now c.args.cell c.in-Some.best.score = (record { alt = c.in-Some.best.alt; cuts = given.0 }, given.1) in
    simp to_z-of_z best
