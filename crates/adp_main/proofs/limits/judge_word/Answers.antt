use Rattle.std.proofs.Common.{subst}
use Rattle.adp_main.specs.Seconds.{IsSecondOf}
use Rattle.adp_main.proofs.SecondAlgebras.{found_with, with_second}
use Rattle.adp_main.proofs.limits.judge_word.Goals as goal

pub returns-in_ok-judge_pair-in-Some-second-clause-kept : goal.returns-in_ok-judge_pair-in-Some-second-clause-kept
returns-in_ok-judge_pair-in-Some-second-clause-kept c =
    let first = c.args.job.now.checked in
    let name = c.args.command.now.second in
    with_second first c.args.word.now name c.in-Some.second (subst (IsSecondOf name first) c.in-Some.is c.requires.second)
    c.passes.ensures c.in_ok-judge_pair-in-Some-second.ensures.kept

pub returns-in_ok-judge_pair-in-Some-second-clause-bound : goal.returns-in_ok-judge_pair-in-Some-second-clause-bound
returns-in_ok-judge_pair-in-Some-second-clause-bound c =
    let first = c.args.job.now.checked in
    let name = c.args.command.now.second in
    found_with first c.args.word.now c.second_algebra_is_unique.ensures name c.in-Some.second c.passes.ensures
    (subst (IsSecondOf name first) c.in-Some.is c.requires.second) _ c.in_ok-judge_pair-in-Some-second.ensures.bound
