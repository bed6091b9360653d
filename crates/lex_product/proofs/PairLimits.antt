-- The limits of a word by two algebras in order are kept, or passed in one way.
use Rattle.std.proofs.Common.{◌≡◌, ℕ, Option, List, sym, ap, subst, ◌∙◌, arith}
use Rattle.adp_model.specs.declared.fault.LimitFault.{LimitFault}
use Rattle.adp_model.specs.declared.grammar.Grammar.{Grammar}
use Rattle.adp_model.specs.PosedProblem.{PosedProblem}
use Rattle.adp_model.specs.Checks.{IsChecked}
use Rattle.adp_model.specs.Bounds.{IsScoreBound}
use Rattle.adp_model.specs.LimitFaults.{IsLimitFault, told}
use Rattle.adp_model.specs.ProblemFields.{IsAdmissible, KeepsLimits}
use Rattle.lex_product.specs.CompiledGrammar.{compiled_grammar, compiled_problem, greatest_compiled, multiplier_of}
use Rattle.lex_product.specs.PairFaults.{IsNumberFault}
use Rattle.lex_product.specs.Compilable.{IsCompilable}
use Rattle.lex_product.specs.PairLimits.{AreLowNumbers, IsCheckedPair, IsPairAdmissible, IsPairLimitFault, OfFirst, OfSecond, OfNumbers, OfCompiled, KeepsPairLimits}

-- what is known of limits under one algebra
pub record LimitLaws : Type 0 where
  pub second : (grammar : Grammar) (first second : ℕ) (least : List ℕ) (greatest : List (Option ℕ)) (ranks : List ℕ)
      → IsCheckedPair grammar first second least greatest ranks → IsChecked grammar second least greatest ranks
  pub compiled : (grammar : Grammar) (first second : ℕ) (least : List ℕ) (greatest : List (Option ℕ)) (ranks : List ℕ)
      → IsCheckedPair grammar first second least greatest ranks → (bound : ℕ)
      → AreLowNumbers grammar first second bound
      → IsChecked (compiled_grammar grammar first second (multiplier_of bound)) first least greatest ranks
  pub kept : (grammar : Grammar) (algebra : ℕ) (least : List ℕ) (greatest : List (Option ℕ)) (ranks : List ℕ)
      → IsChecked grammar algebra least greatest ranks → (len : ℕ) (fault : LimitFault)
      → KeepsLimits grammar algebra len → IsLimitFault grammar algebra len fault → ⊥
  pub one : (grammar : Grammar) (algebra : ℕ) (least : List ℕ) (greatest : List (Option ℕ)) (ranks : List ℕ)
      → IsChecked grammar algebra least greatest ranks → (len : ℕ) (a b : LimitFault)
      → IsLimitFault grammar algebra len a → IsLimitFault grammar algebra len b → a ≡ b
  pub one_score : (grammar : Grammar) (algebra : ℕ) (least : List ℕ) (greatest : List (Option ℕ)) (ranks : List ℕ)
      → IsChecked grammar algebra least greatest ranks → (len a b : ℕ) → IsScoreBound grammar algebra len a
      → IsScoreBound grammar algebra len b → a ≡ b

module _ (laws : LimitLaws) (grammar : Grammar) (first second : ℕ) (least : List ℕ) (greatest : List (Option ℕ))
    (ranks : List ℕ) (pair : IsCheckedPair grammar first second least greatest ranks) (len : ℕ) where
  under_second : IsChecked grammar second least greatest ranks
  under_second = laws.second grammar first second least greatest ranks pair

  -- the second algebra has one bound
  one_bound : (a b : ℕ) → IsScoreBound grammar second len a → IsScoreBound grammar second len b → a ≡ b
  one_bound a b h k = laws.one_score grammar second least greatest ranks under_second len a b h k

  first_kept : (fault : LimitFault) → KeepsLimits grammar first len → IsLimitFault grammar first len fault → ⊥
  first_kept fault h k = laws.kept grammar first least greatest ranks pair.checked len fault h k

  second_kept : (fault : LimitFault) → KeepsLimits grammar second len → IsLimitFault grammar second len fault → ⊥
  second_kept fault h k = laws.kept grammar second least greatest ranks under_second len fault h k

  -- low numbers have no fault, whichever way the bound was found
  low_or_fault : (a b : ℕ) (fault : LimitFault) → IsScoreBound grammar second len a → IsScoreBound grammar second len b
      → AreLowNumbers grammar first second a → IsNumberFault grammar first second b fault → ⊥
  low_or_fault a b fault h k low is =
      let same = one_bound a b h k in
      let low' = subst (AreLowNumbers grammar first second) same low in
      omega (arith, low', is.great)

  compiled_kept : (a b : ℕ) (fault : LimitFault) → IsScoreBound grammar second len a
      → IsScoreBound grammar second len b → AreLowNumbers grammar first second a
      → KeepsLimits (compiled_grammar grammar first second (multiplier_of a)) first len
      → IsLimitFault (compiled_grammar grammar first second (multiplier_of b)) first len fault → ⊥
  compiled_kept a b fault h k low kept is =
      laws.kept (compiled_grammar grammar first second (multiplier_of a)) first least greatest ranks
      (laws.compiled grammar first second least greatest ranks pair a low) len fault kept
      (subst (λ n. IsLimitFault (compiled_grammar grammar first second (multiplier_of n)) first len fault)
      (sym (one_bound a b h k)) is)

  pub pair_kept : (fault : LimitFault) → KeepsPairLimits grammar first second len
      → IsPairLimitFault grammar first second len fault → ⊥
  pair_kept fault kept (OfFirst is) = first_kept fault kept.of_first is
  pair_kept fault kept (OfSecond under is) = second_kept fault kept.of_second is
  pair_kept fault kept (OfNumbers bound under under' bounded is) =
      low_or_fault kept.bound bound fault kept.bounded bounded kept.numbers is
  pair_kept fault kept (OfCompiled bound under under' bounded low is) =
      compiled_kept kept.bound bound fault kept.bounded bounded kept.numbers kept.of_compiled is

  pub pair_one : (a b : LimitFault) → IsPairLimitFault grammar first second len a
      → IsPairLimitFault grammar first second len b → a ≡ b
  pair_one a b (OfFirst is) (OfFirst is') = laws.one grammar first least greatest ranks pair.checked len a b is is'
  pair_one a b (OfFirst is) (OfSecond under is') = absurd (first_kept a under is)
  pair_one a b (OfFirst is) (OfNumbers bound under under' bounded is') = absurd (first_kept a under is)
  pair_one a b (OfFirst is) (OfCompiled bound under under' bounded low is') = absurd (first_kept a under is)
  pair_one a b (OfSecond kept is) (OfFirst is') = absurd (first_kept b kept is')
  pair_one a b (OfSecond kept is) (OfSecond under is') =
      laws.one grammar second least greatest ranks under_second len a b is is'
  pair_one a b (OfSecond kept is) (OfNumbers bound under under' bounded is') = absurd (second_kept a under' is)
  pair_one a b (OfSecond kept is) (OfCompiled bound under under' bounded low is') = absurd (second_kept a under' is)
  pair_one a b (OfNumbers n kept kept' is_bound is) (OfFirst is') = absurd (first_kept b kept is')
  pair_one a b (OfNumbers n kept kept' is_bound is) (OfSecond under is') = absurd (second_kept b kept' is')
  pair_one a b (OfNumbers n kept kept' is_bound is) (OfNumbers m under under' bounded is') =
      is.is ∙ ap (λ x. record { kind = 7; number = told (greatest_compiled grammar first second (multiplier_of x)) })
      (one_bound n m is_bound bounded) ∙ sym is'.is
  pair_one a b (OfNumbers n kept kept' is_bound is) (OfCompiled m under under' bounded low is') =
      absurd (low_or_fault m n a bounded is_bound low is)
  pair_one a b (OfCompiled n kept kept' is_bound low is) (OfFirst is') = absurd (first_kept b kept is')
  pair_one a b (OfCompiled n kept kept' is_bound low is) (OfSecond under is') = absurd (second_kept b kept' is')
  pair_one a b (OfCompiled n kept kept' is_bound low is) (OfNumbers m under under' bounded is') =
      absurd (low_or_fault n m b is_bound bounded low is')
  pair_one a b (OfCompiled n kept kept' is_bound low is) (OfCompiled m under under' bounded low' is') =
      laws.one (compiled_grammar grammar first second (multiplier_of n)) first least greatest ranks
      (laws.compiled grammar first second least greatest ranks pair n low) len a b is
      (subst (λ x. IsLimitFault (compiled_grammar grammar first second (multiplier_of x)) first len b)
      (sym (one_bound n m is_bound bounded)) is')

module _ (laws : LimitLaws) (p : PosedProblem) (second : ℕ) (pair : IsPairAdmissible p second) where
  pub compilable : IsCompilable p second pair.limits.bound
  compilable = record {
    least = pair.least;
    greatest = pair.greatest;
    ranks = pair.ranks;
    checked = pair.checked.checked;
    second_checked = laws.second p.grammar p.algebra second pair.least pair.greatest pair.ranks pair.checked;
    adding = pair.checked.adding;
    short = pair.limits.of_first.letters;
    bounded = pair.limits.bounded;
  }

  pub admissible : IsAdmissible (compiled_problem p second (multiplier_of pair.limits.bound))
  admissible = record {
    least = pair.least;
    greatest = pair.greatest;
    ranks = pair.ranks;
    checked = laws.compiled p.grammar p.algebra second pair.least pair.greatest pair.ranks pair.checked pair.limits.bound
        pair.limits.numbers;
    limits = pair.limits.of_compiled;
  }
