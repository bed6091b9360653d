use Rattle.verdicts.specs.Posed.{posed_word}
use Rattle.adp_main.proofs.FirstLimit.{own_limits}
use Rattle.adp_main.proofs.preparing.shared_by_words.Goals as goal

pub admitted-problem-requires-clause-limits : goal.admitted-problem-requires-clause-limits
admitted-problem-requires-clause-limits c =
    own_limits c.args.command.now.second
    (posed_word c.args.job.now.checked.grammar c.args.job.now.checked.algebra c.index-words-0.result)
    c.is_admitted.ensures.admissible
