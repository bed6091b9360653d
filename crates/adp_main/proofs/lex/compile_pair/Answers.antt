use Rattle.std.proofs.Common.{length, Err, refl, sym, ap, subst}
use Rattle.adp_model.specs.declared.grammar.Grammar.{Grammar}
use Rattle.adp_model.specs.PosedProblem.{PosedProblem}
use Rattle.adp_model.specs.Bounds.{IsScoreBound}
use Rattle.adp_model.specs.ProblemFields.{KeepsLimits}
use Rattle.grammar_check.specs.CheckedGrammar.{CheckedGrammar}
use Rattle.lex_product.specs.PairAnswers.{MatchCompiledBy}
use Rattle.adp_main.proofs.CompiledWords.{but_for_algebra, made_for, no_fault}
use Rattle.adp_main.proofs.lex.compile_pair.Goals as goal

pub admitted-problem-requires-clause-limits : goal.admitted-problem-requires-clause-limits
admitted-problem-requires-clause-limits c =
    let second = c.args.second.now in
    subst (λ (g : Grammar). KeepsLimits g second.algebra (length c.args.word.now))
    (sym (ap (λ (it : CheckedGrammar). it.grammar) c.requires.pair.other)) c.requires.admissible.limits.of_second

pub unreachable-requires : goal.unreachable-requires
unreachable-requires c =
    let first = c.args.first.now in
    let second = c.args.second.now in
    let bound = c.bound_of-bound.result in
    let bounded = subst (λ (p : PosedProblem). IsScoreBound p.grammar p.algebra (length p.word) bound)
    c.admitted-problem.ensures c.bound_of-bound.ensures.bound in
    let one = c.words_have_one_bound.ensures.one_score second.grammar second.algebra _ _ _ c.passes.ensures.found
    (length c.args.word.now) in
    no_fault first second c.requires.pair c.args.word.now bound c.requires.admissible bounded one
    c.in-Err-Fault.field-0-0
    (subst (λ error. MatchCompiledBy first second bound (Err error)) c.in-Err-Fault.field-0-is c.in-Err-Fault.ensures)

pub returns-in-Ok-clause-made : goal.returns-in-Ok-clause-made
returns-in-Ok-clause-made c =
    let first = c.args.first.now in
    let second = c.args.second.now in
    let bound = c.bound_of-bound.result in
    let bounded = subst (λ (p : PosedProblem). IsScoreBound p.grammar p.algebra (length p.word) bound)
    c.admitted-problem.ensures c.bound_of-bound.ensures.bound in
    let one = c.words_have_one_bound.ensures.one_score second.grammar second.algebra _ _ _ c.passes.ensures.found
    (length c.args.word.now) in
    λ name named. made_for first second c.requires.pair c.args.word.now bound c.requires.admissible bounded one
    c.pair_limits_are_kept_or_passed.ensures.compilable name named c.in-Ok.checked c.in-Ok.ensures.1 _ refl _
    c.have_same_goal-same.ensures _

pub returns-in-Ok-clause-whole : goal.returns-in-Ok-clause-whole
returns-in-Ok-clause-whole c =
    but_for_algebra c.args.first.now c.args.second.now c.bound_of-bound.result c.in-Ok.checked c.in-Ok.ensures.1
