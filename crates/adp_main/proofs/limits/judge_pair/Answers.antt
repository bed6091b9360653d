use Rattle.std.proofs.Common.{length, subst}
use Rattle.adp_model.specs.PosedProblem.{PosedProblem}
use Rattle.adp_model.specs.Bounds.{IsScoreBound}
use Rattle.adp_model.specs.ProblemFields.{KeepsLimits}
use Rattle.adp_main.proofs.SecondAlgebras.{all_kept, compiled_passed, pair_bound, second_passed, uncompiled}
use Rattle.adp_main.proofs.limits.judge_pair.Goals as goal

pub returns-in-Err-clause-fault : goal.returns-in-Err-clause-fault
returns-in-Err-clause-fault c =
    second_passed c.args.first.now c.args.second.now c.requires.pair (length c.args.word.now) c.requires.first
    c.in-Err.fault c.in-Err.ensures

pub returns-in-Err-compile_by-clause-fault : goal.returns-in-Err-compile_by-clause-fault
returns-in-Err-compile_by-clause-fault c =
    let first = c.args.first.now in
    let second = c.args.second.now in
    let bound = c.bound_of-bound.result in
    let other = subst (λ (p : PosedProblem). KeepsLimits p.grammar p.algebra (length p.word)) c.in-Ok.ensures
    c.bound_of-bound.ensures.kept in
    let bounded = subst (λ (p : PosedProblem). IsScoreBound p.grammar p.algebra (length p.word) bound) c.in-Ok.ensures
    c.bound_of-bound.ensures.bound in
    rw c.compile_refusal.ensures
    (uncompiled first second c.requires.pair (length c.args.word.now) c.requires.first bound other bounded
    c.in-Err-compile_by.error c.in-Err-compile_by.ensures)

pub returns-clause-fault : goal.returns-clause-fault
returns-clause-fault c =
    let first = c.args.first.now in
    let second = c.args.second.now in
    let bound = c.bound_of-bound.result in
    let other = subst (λ (p : PosedProblem). KeepsLimits p.grammar p.algebra (length p.word)) c.in-Ok.ensures
    c.bound_of-bound.ensures.kept in
    let bounded = subst (λ (p : PosedProblem). IsScoreBound p.grammar p.algebra (length p.word) bound) c.in-Ok.ensures
    c.bound_of-bound.ensures.bound in
    compiled_passed first second c.requires.pair (length c.args.word.now) c.requires.first bound other bounded
    c.in-Ok-compile_by.compiled c.in-Ok-compile_by.ensures.0 c.in-Ok-compile_by.ensures.1 c.in-Err-admit_word.fault
    c.in-Err-admit_word.ensures

pub returns-in-Ok-admit_word-clause-bound : goal.returns-in-Ok-admit_word-clause-bound
returns-in-Ok-admit_word-clause-bound c =
    let first = c.args.first.now in
    let second = c.args.second.now in
    let bound = c.bound_of-bound.result in
    let other = subst (λ (p : PosedProblem). KeepsLimits p.grammar p.algebra (length p.word)) c.in-Ok.ensures
    c.bound_of-bound.ensures.kept in
    let bounded = subst (λ (p : PosedProblem). IsScoreBound p.grammar p.algebra (length p.word) bound) c.in-Ok.ensures
    c.bound_of-bound.ensures.bound in
    pair_bound first second c.requires.pair (length c.args.word.now) c.requires.first bound other bounded
    c.in-Ok-compile_by.compiled c.in-Ok-compile_by.ensures.0 c.in-Ok-compile_by.ensures.1
    (c.words_have_one_bound.ensures.one_score second.grammar second.algebra _ _ _ c.passes.ensures.found
    (length c.args.word.now)) c.bound_of.result
    (subst (λ (p : PosedProblem). IsScoreBound p.grammar p.algebra (length p.word) c.bound_of.result)
    c.in-Ok-admit_word.ensures c.bound_of.ensures.bound)

pub returns-in-Ok-admit_word-clause-kept : goal.returns-in-Ok-admit_word-clause-kept
returns-in-Ok-admit_word-clause-kept c =
    let first = c.args.first.now in
    let second = c.args.second.now in
    let bound = c.bound_of-bound.result in
    let other = subst (λ (p : PosedProblem). KeepsLimits p.grammar p.algebra (length p.word)) c.in-Ok.ensures
    c.bound_of-bound.ensures.kept in
    let bounded = subst (λ (p : PosedProblem). IsScoreBound p.grammar p.algebra (length p.word) bound) c.in-Ok.ensures
    c.bound_of-bound.ensures.bound in
    all_kept first second c.requires.pair (length c.args.word.now) c.requires.first bound other bounded
    c.in-Ok-compile_by.compiled c.in-Ok-compile_by.ensures.0 c.in-Ok-compile_by.ensures.1
    (subst (λ (p : PosedProblem). KeepsLimits p.grammar p.algebra (length p.word)) c.in-Ok-admit_word.ensures
    c.bound_of.ensures.kept)
