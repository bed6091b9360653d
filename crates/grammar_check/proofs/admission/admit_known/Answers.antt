use Rattle.std.proofs.Common.{length, arith}
use Rattle.grammar_check.proofs.admission.admit_known.Goals as goal

pub unreachable-requires : goal.unreachable-requires
unreachable-requires c =
    c.limits_are_kept_or_passed.ensures.kept _ _ _ _ _ c.passes.ensures.found _ c.in-Err.field-0 c.requires.limits c.in-Err.ensures

pub posed-requires-clause-low : goal.posed-requires-clause-low
posed-requires-clause-low c =
    let checked = c.args.checked.now in
    let kept = c.requires.limits.scores in
    let same = c.words_have_one_bound.ensures.one_score checked.grammar checked.algebra _ _ _ c.passes.ensures.found
    (length c.args.word.now) kept.0 c.args.score_bound kept.1 c.requires.bound in
    omega (arith, same, kept.2)
