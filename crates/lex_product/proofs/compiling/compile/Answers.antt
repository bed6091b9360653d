use Rattle.std.proofs.Common.{◌≡◌, ◌≤◌, ◌-◌, ◌^◌, ℕ, min, Result, Ok, Err, ap, sym, subst, arith}
use Rattle.std.specs.Result.{IsErrAnd}
use Rattle.adp_model.specs.declared.grammar.Grammar.{Grammar}
use Rattle.adp_model.specs.Bounds.{IsScoreBound}
use Rattle.grammar_check.specs.CheckedGrammar.{CheckedGrammar}
use Rattle.lex_product.specs.declared.error.CompileError.{CompileError}
use Rattle.lex_product.specs.declared.error.CompileError.TheVariants.{Fault, Memory}
use Rattle.lex_product.specs.PairAnswers.{MatchCompiledBy}
use Rattle.lex_product.proofs.compiling.compile.Goals as goal

no_memory : (first second : CheckedGrammar) (bound : ℕ) (result : Result CheckedGrammar CompileError) → IsErrAnd result (λ e. e ≡ Memory) → MatchCompiledBy first second bound result
no_memory first second bound (Ok compiled) h = absurd h
no_memory first second bound (Err (Fault fault)) h = absurd (cc)
no_memory first second bound (Err Memory) h = tt

pub returns-in_err-bound : goal.returns-in_err-bound
returns-in_err-bound c =
    let bound = c.requires.low.0 in (
      bound,
      subst (λ (g : Grammar). IsScoreBound g c.args.second.now.algebra c.args.n bound) (ap (λ (k : CheckedGrammar). k.grammar) c.requires.pair.other) c.requires.low.1,
      no_memory c.args.first.now c.args.second.now bound c.from_residual.result c.from_residual.ensures.1,
    )

-- the bound that was told is the bound
told_is : (told bound other : ℕ) → told ≡ min other (2 ^ 63) → other ≡ bound → bound ≤ 2 ^ 62 - 1 → told ≡ bound
told_is told bound other is same low = omega arith

pub compile_by-requires-clause-low : goal.compile_by-requires-clause-low
compile_by-requires-clause-low c =
    let second = c.args.second.now in
    let bound = c.requires.low.0 in
    let one = c.words_have_one_bound.ensures.one_score second.grammar second.algebra _ _ _ c.passes.ensures.found c.args.n c.in_ok-bound.ensures.0 bound c.in_ok-bound.ensures.1 c.requires.low.1 in
    let told = told_is c.in_ok-bound.bound bound c.in_ok-bound.ensures.0 c.in_ok-bound.ensures.2 one c.requires.low.2 in
    omega (arith, told, c.requires.low.2)

pub returns : goal.returns
returns c =
    let second = c.args.second.now in
    let bound = c.requires.low.0 in
    let one = c.words_have_one_bound.ensures.one_score second.grammar second.algebra _ _ _ c.passes.ensures.found c.args.n c.in_ok-bound.ensures.0 bound c.in_ok-bound.ensures.1 c.requires.low.1 in
    let told = told_is c.in_ok-bound.bound bound c.in_ok-bound.ensures.0 c.in_ok-bound.ensures.2 one c.requires.low.2 in (
      c.in_ok-bound.bound,
      subst (λ (g : Grammar). IsScoreBound g second.algebra c.args.n c.in_ok-bound.bound) (ap (λ (k : CheckedGrammar). k.grammar) c.requires.pair.other)
          (subst (IsScoreBound second.grammar second.algebra c.args.n) (sym told) c.requires.low.1),
      c.compile_by.ensures,
    )
