use Rattle.table_certificate.proofs.demanded.ClosedDemandedScores.demanded_score.Goals as goal

pub returns-clause-told : goal.returns-clause-told
returns-clause-told c = c.best_score.ensures c.args.self.now.plan.problem c.args.cell c.in_ok-answer.ensures.told
