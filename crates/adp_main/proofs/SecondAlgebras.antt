-- Jobs with and without a second algebra: what a word keeps under one algebra or under a pair.
use Rattle.std.proofs.Common.{◌≡◌, ℕ, Option, None, Some, IsSome, Result, Ok, Err, OnOk, IfErr, List, length, IsTrue, refl, sym, ap, subst}
use Rattle.std.proofs.lemmas.Option.{none-some}
use Rattle.adp_model.specs.declared.grammar.Grammar.{Grammar}
use Rattle.adp_model.specs.declared.fault.LimitFault.{LimitFault}
use Rattle.adp_model.specs.Bounds.{IsScoreBound}
use Rattle.adp_model.specs.GrammarFaults.{IsNamed}
use Rattle.adp_model.specs.LimitFaults.{IsLimitFault}
use Rattle.adp_model.specs.ProblemFields.{IsAdmissible, KeepsLimits}
use Rattle.adp_model.specs.PosedProblem.{PosedProblem}
use Rattle.adp_model.specs.WellFormed.{is_well_formed}
use Rattle.grammar_check.specs.CheckedGrammar.{CheckedGrammar, PassesChecks}
use Rattle.grammar_check.specs.declared.error.AdmitError.{AdmitError}
use Rattle.grammar_check.specs.declared.error.AdmitError.TheVariants as admit_errors
use Rattle.lex_product.specs.CompiledGrammar.{compiled_grammar, multiplier_of}
use Rattle.lex_product.specs.PairAnswers.{compiled_pair, HasLowNumbers, IsPair, MatchCompiledBy}
use Rattle.lex_product.specs.declared.error.CompileError.{CompileError}
use Rattle.lex_product.specs.declared.error.CompileError.TheVariants as compile_errors
use Rattle.lex_product.specs.PairFaults.{IsNumberFault}
use Rattle.lex_product.specs.PairLimits.{IsPairAdmissible, IsPairLimitFault, KeepsPairLimits, OfFirst, OfSecond, OfNumbers, OfCompiled}
use Rattle.verdicts.specs.SecondAlgebra.{IsAdmissibleWith, IsLimitWith, IsSecond}
use Rattle.adp_main.specs.KeptLengths.{IsFound, IsPairBound}
use Rattle.verdicts.specs.Posed.{posed_word}
use Rattle.adp_main.specs.Reporting.{IsLengthRefusal, IsPairLimitRefusal, compile_refusal}
use Rattle.adp_main.specs.Seconds.{AreSecondRows, IsSecondOf}

-- what there is is not nothing
nothing_is : {A : Type 0} (it : A) → Some it ≡ None → ⊥
nothing_is it is = none-some it (sym is)

-- what a call gave, of which more is known
pub kept_if : {A E : Type 0} (result : Result A E) (P Q : Type 0) → (P → Q) → OnOk result P → OnOk result Q
kept_if (Ok x) P Q more holds = more holds
kept_if (Err e) P Q more holds = tt

pub refused_if : {A E : Type 0} (result : Result A E) (P Q : E → Type 0) → ((e : E) → P e → Q e) → IfErr result P
    → IfErr result Q
refused_if (Ok x) P Q more holds = tt
refused_if (Err e) P Q more holds = more e holds

-- the second checked grammar is the first one, under its own algebra
pub same_grammar : (first second : CheckedGrammar) → IsPair first second → second.grammar ≡ first.grammar
same_grammar first second pair = ap (λ (it : CheckedGrammar). it.grammar) pair.other

module _ (first : CheckedGrammar) (word : List ℕ) where
  abbrev asked : PosedProblem
  asked = posed_word first.grammar first.algebra word

  -- without a second algebra
  pub alone : (name : Option (List ℕ)) → IsSecondOf name first None → IsAdmissible asked → IsAdmissibleWith name asked
  alone None is admissible = admissible
  alone (Some name) is admissible = absurd is

  -- a pair that keeps the limits is admissible
  paired : (name : List ℕ) (second : CheckedGrammar) → IsNamed first.grammar name second.algebra → IsPair first second
      → PassesChecks first → KeepsPairLimits first.grammar first.algebra second.algebra (length word)
      → IsPairAdmissible asked second.algebra
  paired name second named pair passes kept = record {
    least = first.sizes.least;
    greatest = first.sizes.greatest;
    ranks = first.ranks;
    checked = record { checked = passes.found; known = named.in_range; adding = pair.adding };
    limits = kept;
  }

  -- with one
  pub with_second : (name : Option (List ℕ)) (second : CheckedGrammar) → IsSecondOf name first (Some second)
      → PassesChecks first → KeepsPairLimits first.grammar first.algebra second.algebra (length word)
      → IsAdmissibleWith name asked
  with_second None second is passes kept = absurd (nothing_is second is)
  with_second (Some name) second both passes kept =
      (second.algebra, both.0, paired name second both.0 both.1 passes kept)

  -- a fault under the first algebra
  pub first_fault : (name : Option (List ℕ)) (second : Option CheckedGrammar) → IsSecondOf name first second
      → (fault : LimitFault) → IsLimitFault first.grammar first.algebra (length word) fault
      → IsLimitWith name first.grammar first.algebra (length word) fault
  first_fault None second is fault found = found
  first_fault (Some name) None is fault found = absurd is
  first_fault (Some name) (Some second) (named, pair) fault found = (second.algebra, named, OfFirst found)

  -- a fault under the pair
  pub pair_refusal_with : (name : Option (List ℕ)) (second : CheckedGrammar) → IsSecondOf name first (Some second)
      → (error : AdmitError) → IsPairLimitRefusal first.grammar first.algebra second.algebra (length word) error
      → IsLengthRefusal name first.grammar first.algebra (length word) error
  pair_refusal_with None second is error found = absurd (nothing_is second is)
  pair_refusal_with (Some name) second (named, pair) (admit_errors.Fault fault) found = (second.algebra, named, found)
  pair_refusal_with (Some name) second (named, pair) admit_errors.Memory found = tt

  -- the pair that an admitted word has
  pub pair_of_word : ((name : Option (List ℕ)) (grammar : Grammar) → IsTrue (is_well_formed grammar) → (a b : ℕ)
      → IsSecond name grammar a → IsSecond name grammar b → a ≡ b)
      → (name : Option (List ℕ)) (second : CheckedGrammar) → PassesChecks first → IsSecondOf name first (Some second)
      → IsAdmissibleWith name asked
      → IsSecond name first.grammar second.algebra × IsPair first second × IsPairAdmissible asked second.algebra
  pair_of_word one None second passes is admissible = absurd (nothing_is second is)
  pair_of_word one (Some name) second passes (named, pair) (number, named', admissible) = (
    named,
    pair,
    subst (IsPairAdmissible asked)
        (one (Some name) first.grammar passes.found.well_formed number second.algebra named' named) admissible,
  )

  -- what is found of its length
  pub found_with : ((name : Option (List ℕ)) (grammar : Grammar) → IsTrue (is_well_formed grammar) → (a b : ℕ)
      → IsSecond name grammar a → IsSecond name grammar b → a ≡ b)
      → (name : Option (List ℕ)) (second : CheckedGrammar) → PassesChecks first → IsSecondOf name first (Some second)
      → (number : ℕ) → IsPairBound first.grammar first.algebra second.algebra (length word) number
      → IsFound name first.grammar first.algebra (length word) (Some number)
  found_with one None second passes is number bound = absurd (nothing_is second is)
  found_with one (Some name) second passes (named, pair) number bound = λ other named'.
      subst (λ n. IsPairBound first.grammar first.algebra n (length word) number)
      (one (Some name) first.grammar passes.found.well_formed second.algebra other named named') bound

  pub found_alone : (name : Option (List ℕ)) → IsSecondOf name first None
      → IsFound name first.grammar first.algebra (length word) None
  found_alone None is = refl
  found_alone (Some name) is = is

-- there is a second algebra where one is asked for
pub second_there : (name : Option (List ℕ)) (first : CheckedGrammar) → IsSome name → IsSecondOf name first None → ⊥
second_there None first some is = cc
second_there (Some name) first some is = is

-- there are rows for it
pub rows_there : (second : CheckedGrammar) (longest : ℕ) → AreSecondRows (Some second) longest None → ⊥
rows_there second longest is = is

-- ---- the limits of a pair, one after another

module _ (first second : CheckedGrammar) (pair : IsPair first second) (len : ℕ)
    (own : KeepsLimits first.grammar first.algebra len) where
  abbrev Faulty : LimitFault → Type 0
  Faulty fault = IsPairLimitFault first.grammar first.algebra second.algebra len fault

  pub second_passed : (fault : LimitFault) → IsLimitFault second.grammar second.algebra len fault → Faulty fault
  second_passed fault found =
      OfSecond own (subst (λ (g : Grammar). IsLimitFault g second.algebra len fault) (same_grammar first second pair) found)

  module _ (bound : ℕ) (other : KeepsLimits second.grammar second.algebra len)
      (bounded : IsScoreBound second.grammar second.algebra len bound) where
    there : KeepsLimits first.grammar second.algebra len
    there = subst (λ (g : Grammar). KeepsLimits g second.algebra len) (same_grammar first second pair) other

    bounded_there : IsScoreBound first.grammar second.algebra len bound
    bounded_there = subst (λ (g : Grammar). IsScoreBound g second.algebra len bound) (same_grammar first second pair) bounded

    pub numbers_passed : (fault : LimitFault) → IsNumberFault first.grammar first.algebra second.algebra bound fault
        → Faulty fault
    numbers_passed fault found = OfNumbers bound own there bounded_there found

    pub uncompiled : (error : CompileError) → MatchCompiledBy first second bound (Err error)
        → IsPairLimitRefusal first.grammar first.algebra second.algebra len (compile_refusal error)
    uncompiled (compile_errors.Fault fault) found = numbers_passed fault found
    uncompiled compile_errors.Memory found = tt

    module _ (compiled : CheckedGrammar) (low : HasLowNumbers first second bound)
        (is : compiled ≡ compiled_pair first second bound) where
      pub compiled_passed : (fault : LimitFault) → IsLimitFault compiled.grammar compiled.algebra len fault → Faulty fault
      compiled_passed fault found =
          OfCompiled bound own there bounded_there low
          (subst (λ (it : CheckedGrammar). IsLimitFault it.grammar it.algebra len fault) is found)

      pub all_kept : KeepsLimits compiled.grammar compiled.algebra len
          → KeepsPairLimits first.grammar first.algebra second.algebra len
      all_kept kept = record {
        of_first = own;
        of_second = there;
        bound = bound;
        bounded = bounded_there;
        numbers = low;
        of_compiled = subst (λ (it : CheckedGrammar). KeepsLimits it.grammar it.algebra len) is kept;
      }

      -- its bound is that of the pair
      pub pair_bound : ((a b : ℕ) → IsScoreBound second.grammar second.algebra len a
          → IsScoreBound second.grammar second.algebra len b → a ≡ b)
          → (number : ℕ) → IsScoreBound compiled.grammar compiled.algebra len number
          → IsPairBound first.grammar first.algebra second.algebra len number
      pair_bound one number numbered other bounded' =
          let same = one bound other bounded
          (subst (λ (g : Grammar). IsScoreBound g second.algebra len other) (sym (same_grammar first second pair)) bounded') in
          subst (λ n. IsScoreBound (compiled_grammar first.grammar first.algebra second.algebra (multiplier_of n))
          first.algebra len number) same
          (subst (λ (it : CheckedGrammar). IsScoreBound it.grammar it.algebra len number) is numbered)
