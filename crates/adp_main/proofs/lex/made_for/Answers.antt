use Rattle.adp_main.proofs.CompiledWords.{made_serves}
use Rattle.adp_main.proofs.lex.made_for.Goals as goal

pub returns-in-None-clause-kept : goal.returns-in-None-clause-kept
returns-in-None-clause-kept c =
    made_serves c.args.command.now.second c.args.job.now.checked c.args.word.now c.compiled_for.result
    c.compiled_for.ensures.made c.compiled_for.ensures.whole c.compiled_for.ensures.length

pub returns-else-serves-clause-kept : goal.returns-else-serves-clause-kept
returns-else-serves-clause-kept c =
    made_serves c.args.command.now.second c.args.job.now.checked c.args.word.now c.compiled_for-in-Some.result
    c.compiled_for-in-Some.ensures.made c.compiled_for-in-Some.ensures.whole c.compiled_for-in-Some.ensures.length
