use Rattle.std.proofs.Common.{None, [], ◌∷◌, refl, subst}
use Rattle.adp_model.specs.PosedProblem.{PosedProblem}
use Rattle.adp_model.specs.Demand.{IsDemanded}
use Rattle.argument_search.specs.Seeking.{IsNoneSought}
use Rattle.cell_tables.specs.Noted.{IsNoted}
use Rattle.memo_model.specs.declared.visit.Visit.{Visit}
use Rattle.table_certificate.specs.BestScores.{IsBestScore}
use Rattle.table_certificate.proofs.NotedChildren.{all_noted}
use Rattle.table_certificate.proofs.known_scores.settled_score.Goals as goal

pub returns-in-None : goal.returns-in-None
returns-in-None c =
    let p = c.args.lines.now in
    let visit : Visit = record { cell = c.args.cell; first = 0; turns = 0 ∷ 0 ∷ 0 ∷ []; at = None } in
    record {
      demanded = subst (λ (q : PosedProblem). IsDemanded q c.args.cell) c.requires.same (c.in_ok-best.ensures.demanded.0 refl);
      best = subst (λ (q : PosedProblem). IsBestScore q c.args.cell c.in_ok-best.best) c.requires.same c.in_ok-best.ensures.told;
      children = all_noted p (IsNoted c.args.said_best.now) visit refl
          (subst (λ (q : PosedProblem). IsNoneSought q (IsNoted c.args.said_best.now) visit) c.problem-problem.ensures c.in-None.ensures.next);
    }
