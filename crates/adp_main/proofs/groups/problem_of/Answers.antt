use Rattle.verdicts.specs.Posed.{posed_word}
use Rattle.adp_main.proofs.FirstLimit.{own_limits}
use Rattle.adp_main.proofs.groups.problem_of.Goals as goal

pub admitted-requires-clause-limits : goal.admitted-requires-clause-limits
admitted-requires-clause-limits c =
    own_limits c.args.command.now.second
    (posed_word c.args.job.now.checked.grammar c.args.job.now.checked.algebra c.args.word.now) c.requires.admissible
