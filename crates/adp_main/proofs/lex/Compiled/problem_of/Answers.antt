use Rattle.verdicts.specs.Posed.{posed_word}
use Rattle.adp_main.proofs.CompiledWords.{known_bound}
use Rattle.adp_main.proofs.lex.Compiled.problem_of.Goals as goal

pub admit_known-requires-clause-limits : goal.admit_known-requires-clause-limits
admit_known-requires-clause-limits c = (c.requires.serves.each c.args.word.now c.requires.long).limits

pub admit_known-requires-clause-bound : goal.admit_known-requires-clause-bound
admit_known-requires-clause-bound c =
    let job = c.args.job.now in
    known_bound c.args.command.now.second (posed_word job.checked.grammar job.checked.algebra c.args.word.now)
    c.args.self.now (c.requires.serves.each c.args.word.now c.requires.long) c.compiled_bound-bound.result
    c.compiled_bound-bound.ensures
