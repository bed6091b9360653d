use Rattle.std.proofs.Common.{subst}
use Rattle.adp_main.specs.Seconds.{IsSecondOf}
use Rattle.adp_main.proofs.SecondAlgebras.{pair_of_word}
use Rattle.adp_main.proofs.lex.compiled_for.Goals as goal

pub compile_pair-requires-clause-admissible : goal.compile_pair-requires-clause-admissible
compile_pair-requires-clause-admissible c =
    let first = c.args.job.now.checked in
    let name = c.args.command.now.second in
    (pair_of_word first c.args.word.now c.second_algebra_is_unique.ensures name c.in-Some.second c.passes.ensures
    (subst (IsSecondOf name first) c.in-Some.is c.requires.second) c.requires.admissible).2
