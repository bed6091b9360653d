use Rattle.std.proofs.Common.{length, ap, sym, subst}
use Rattle.adp_model.specs.Bounds.{IsNodeBound}
use Rattle.adp_model.specs.PosedProblem.{PosedProblem}
use Rattle.verdicts.specs.Posed.{posed_word}
use Rattle.verdicts.specs.Command.{Command}
use Rattle.adp_main.proofs.FirstLimit.{lists_kept, lists_passed, own_limits}
use Rattle.adp_main.proofs.limits.judge_lists.Goals as goal

pub admitted-problem-requires-clause-limits : goal.admitted-problem-requires-clause-limits
admitted-problem-requires-clause-limits c =
    own_limits c.args.command.now.second
    (posed_word c.args.job.now.checked.grammar c.args.job.now.checked.algebra c.args.word.now) c.requires.admissible

pub nodes_of-nodes-requires-clause-limits : goal.nodes_of-nodes-requires-clause-limits
nodes_of-nodes-requires-clause-limits c =
    own_limits c.args.command.now.second
    (posed_word c.args.job.now.checked.grammar c.args.job.now.checked.algebra c.args.word.now) c.requires.admissible

pub admit_lists-requires-clause-node_bound : goal.admit_lists-requires-clause-node_bound
admit_lists-requires-clause-node_bound c =
    subst (λ (p : PosedProblem). IsNodeBound p.grammar (length p.word) c.nodes_of-nodes.result)
    (sym c.admitted-problem.ensures) c.nodes_of-nodes.ensures.bound

pub returns-clause-kept : goal.returns-clause-kept
returns-clause-kept c =
    lists_kept c.admit_lists.result c.admitted-problem.result
    (posed_word c.args.job.now.checked.grammar c.args.job.now.checked.algebra c.args.word.now) _ c.args.command.now.best
    c.admitted-problem.ensures (ap (λ (it : Command). it.best) c.command.view_is) c.admit_lists.ensures

pub returns-clause-fault : goal.returns-clause-fault
returns-clause-fault c =
    lists_passed c.admit_lists.result c.admitted-problem.result
    (posed_word c.args.job.now.checked.grammar c.args.job.now.checked.algebra c.args.word.now) _ c.args.command.now.best
    c.admitted-problem.ensures (ap (λ (it : Command). it.best) c.command.view_is) c.admit_lists.ensures
