use Rattle.std.proofs.Common.{length}
use Rattle.std.proofs.lemmas.Result.{err_from_is_err_and}
use Rattle.verdicts.specs.Posed.{posed_word}
use Rattle.adp_main.proofs.FirstLimit.{list_refusal, own_refusal}
use Rattle.adp_main.proofs.limits.judge_fully.Goals as goal

pub returns-in_err-judge_once-clause-fault : goal.returns-in_err-judge_once-clause-fault
returns-in_err-judge_once-clause-fault c =
    let p = err_from_is_err_and c.from_residual.result c.from_residual.ensures.1 in
    let job = c.args.job.now in
    rw (p.1, p.2) (own_refusal c.args.command.now job.checked.grammar job.checked.algebra (length c.args.word.now)
    c.in_err-judge_once.field-0.0 c.in_err-judge_once.ensures.fault)

pub returns-in-Err-clause-fault : goal.returns-in-Err-clause-fault
returns-in-Err-clause-fault c =
    let job = c.args.job.now in
    list_refusal c.args.command.now (posed_word job.checked.grammar job.checked.algebra c.args.word.now)
    c.in_ok-judge_once.ensures.kept c.in-Err.fault c.in-Err.ensures.fault
