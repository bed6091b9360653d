-- What is compiled for a word is the problem under the compiled algebra, and a score there is both scores joined.
use Rattle.std.proofs.Common.{◌≡◌, ℕ, ◌≤◌, Bool, Option, Result, Ok, Err, IfOk, List, length, ◌↔◌, sym, ap, subst, ◌∙◌, arith}
use Rattle.adp_model.specs.declared.cell.Cell.{Cell}
use Rattle.adp_model.specs.declared.grammar.Grammar.{Grammar}
use Rattle.adp_model.specs.declared.fault.LimitFault.{LimitFault}
use Rattle.adp_model.specs.PosedProblem.{PosedProblem}
use Rattle.adp_model.specs.Bounds.{IsScoreBound}
use Rattle.adp_model.specs.Derivation.{Derives}
use Rattle.adp_model.specs.Scores.{score_of}
use Rattle.adp_model.specs.Tree.{Tree}
use Rattle.adp_model.specs.ProblemFields.{KeepsLimits}
use Rattle.grammar_check.specs.CheckedGrammar.{CheckedGrammar}
use Rattle.lex_product.specs.CompiledTerms.{IsJoinedFrom}
use Rattle.lex_product.specs.CompiledGrammar.{compiled_algebra, compiled_grammar, compiled_problem, has_same_goal, multiplier_of}
use Rattle.lex_product.specs.Compilable.{IsCompilable}
use Rattle.lex_product.specs.PairAnswers.{compiled_pair, HasLowNumbers, IsButForAlgebra, IsPair}
use Rattle.lex_product.specs.PairFaults.{IsNumberFault}
use Rattle.lex_product.specs.PairLimits.{AreLowNumbers, IsPairAdmissible}
use Rattle.lex_product.specs.PairOrder.{scores_of}
use Rattle.verdicts.specs.SecondAlgebra.{IsSecond}
use Rattle.adp_main.specs.CompiledWords.{IsCompiledFor, ServesItsLength, compiled_word}
use Rattle.adp_main.specs.KeptLengths.{IsCompiledBound}
use Rattle.verdicts.specs.Posed.{posed_word}
use Rattle.adp_main.specs.declared.lex.Compiled.{Compiled}

module _ (name : Option (List ℕ)) (p : PosedProblem) (compiled : Compiled) (for : IsCompiledFor name p compiled) where
  pub is_compiled : compiled_word compiled p.word ≡ compiled_problem p for.second (multiplier_of for.bound)
  is_compiled = λ i. record { grammar = for.grammar i; algebra = for.algebra i; word = p.word }

  pub joined_scores : ((p : PosedProblem) (second multiplier : ℕ) (cell : Cell) (tree : Tree)
      → Derives p cell tree ↔ Derives (compiled_problem p second multiplier) cell tree)
      → ((p : PosedProblem) (second bound : ℕ) → IsCompilable p second bound → (cell : Cell) (tree : Tree)
      → Derives p cell tree → IsJoinedFrom (multiplier_of bound) (has_same_goal p.grammar p.algebra second)
      (score_of (compiled_problem p second (multiplier_of bound)) tree) (scores_of p second tree))
      → (problem : PosedProblem) → problem ≡ compiled_word compiled p.word → (cell : Cell) (tree : Tree)
      → Derives problem cell tree
      → IsJoinedFrom compiled.multiplier compiled.same (score_of problem tree) (scores_of p for.second tree)
  joined_scores trees joined problem same cell tree derived =
      let whole = same ∙ is_compiled in
      let here = (trees p for.second (multiplier_of for.bound) cell tree).1
      (subst (λ (q : PosedProblem). Derives q cell tree) whole derived) in
      subst (λ (it : ℕ × Bool × PosedProblem). IsJoinedFrom it.0 it.1 (score_of it.2 tree) (scores_of p for.second tree))
      (λ i. (sym for.multiplier i, sym for.same i, sym whole i))
      (joined p for.second for.bound for.compilable cell tree here)

-- ---- what is made for a word of a job

module _ (first second : CheckedGrammar) (pair : IsPair first second) (word : List ℕ) (bound : ℕ)
    (admissible : IsPairAdmissible (posed_word first.grammar first.algebra word) second.algebra)
    (bounded : IsScoreBound second.grammar second.algebra (length word) bound)
    (one : (a b : ℕ) → IsScoreBound second.grammar second.algebra (length word) a
    → IsScoreBound second.grammar second.algebra (length word) b → a ≡ b) where
  grammar_is : second.grammar ≡ first.grammar
  grammar_is = ap (λ (it : CheckedGrammar). it.grammar) pair.other

  -- the bound that was found is the one that keeps the limits
  pub bound_is : admissible.limits.bound ≡ bound
  bound_is =
      one admissible.limits.bound bound
      (subst (λ (g : Grammar). IsScoreBound g second.algebra (length word) admissible.limits.bound) (sym grammar_is)
      admissible.limits.bounded) bounded

  pub low_numbers : HasLowNumbers first second bound
  low_numbers = subst (AreLowNumbers first.grammar first.algebra second.algebra) bound_is admissible.limits.numbers

  -- its numbers are low, so that it has no fault
  pub no_fault : (fault : LimitFault) → IsNumberFault first.grammar first.algebra second.algebra bound fault → ⊥
  no_fault fault is = let low = low_numbers in omega (arith, low, is.great)

  pub made_for : ((p : PosedProblem) (second : ℕ) (pair : IsPairAdmissible p second)
      → IsCompilable p second pair.limits.bound)
      → (name : Option (List ℕ)) → IsSecond name first.grammar second.algebra
      → (checked : CheckedGrammar) → checked ≡ compiled_pair first second bound → (multiplier : ℕ)
      → multiplier ≡ multiplier_of bound → (same : Bool)
      → same ≡ has_same_goal first.grammar first.algebra second.algebra → (len : ℕ)
      → IsCompiledFor name (posed_word first.grammar first.algebra word)
      (record { checked = checked; multiplier = multiplier; same = same; length = len })
  made_for compilable name named checked is multiplier multiplier_is same same_is len =
      let asked = posed_word first.grammar first.algebra word in record {
        second = second.algebra;
        bound = bound;
        named = named;
        compilable = subst (IsCompilable asked second.algebra) bound_is (compilable asked second.algebra admissible);
        grammar = ap (λ (it : CheckedGrammar). it.grammar) is;
        algebra = ap (λ (it : CheckedGrammar). it.algebra) is;
        multiplier = multiplier_is;
        same = same_is;
        limits = subst (λ (it : CheckedGrammar). KeepsLimits it.grammar it.algebra (length word)) (sym is)
            (subst (λ n. KeepsLimits (compiled_grammar first.grammar first.algebra second.algebra (multiplier_of n))
            first.algebra (length word)) bound_is admissible.limits.of_compiled);
      }

-- ---- what is made for a word serves each word of its length

pub compiled_by_length : (name : Option (List ℕ)) (grammar : Grammar) (algebra : ℕ) (word other : List ℕ)
    (compiled : Compiled) → length other ≡ length word → IsCompiledFor name (posed_word grammar algebra word) compiled
    → IsCompiledFor name (posed_word grammar algebra other) compiled
compiled_by_length name grammar algebra word other compiled same for = record {
  second = for.second;
  bound = for.bound;
  named = for.named;
  compilable = record {
    least = for.compilable.least;
    greatest = for.compilable.greatest;
    ranks = for.compilable.ranks;
    checked = for.compilable.checked;
    second_checked = for.compilable.second_checked;
    adding = for.compilable.adding;
    short = subst (λ n. n ≤ 4000) (sym same) for.compilable.short;
    bounded = subst (λ n. IsScoreBound grammar for.second n for.bound) (sym same) for.compilable.bounded;
  };
  grammar = for.grammar;
  algebra = for.algebra;
  multiplier = for.multiplier;
  same = for.same;
  limits = subst (KeepsLimits compiled.checked.grammar compiled.checked.algebra) (sym same) for.limits;
}

-- the bound that is kept for its length is that of the word under the compiled algebra
pub known_bound : (name : Option (List ℕ)) (p : PosedProblem) (compiled : Compiled) → IsCompiledFor name p compiled
    → (number : ℕ) → IsCompiledBound name p.grammar p.algebra (length p.word) number
    → IsScoreBound compiled.checked.grammar compiled.checked.algebra (length p.word) number
known_bound name p compiled for number bound =
    subst (λ (it : Grammar × ℕ). IsScoreBound it.0 it.1 (length p.word) number)
    (λ i. (sym for.grammar i, sym for.algebra i)) (bound for.second for.named for.bound for.compilable.bounded)

-- what was made for a word serves each of its length
pub made_serves : (name : Option (List ℕ)) (first : CheckedGrammar) (word : List ℕ) {E : Type 0}
    (result : Result Compiled E) → IfOk result (IsCompiledFor name (posed_word first.grammar first.algebra word))
    → IfOk result (λ made. IsButForAlgebra first made.checked) → IfOk result (λ made. made.length ≡ length word)
    → IfOk result (ServesItsLength name first)
made_serves name first word (Ok made) for whole long = record {
  each = λ other same.
      compiled_by_length name first.grammar first.algebra word other made (same ∙ long) for;
  made = whole;
}
made_serves name first word (Err error) for whole long = tt

pub but_for_algebra : (first second : CheckedGrammar) (bound : ℕ) (checked : CheckedGrammar)
    → checked ≡ compiled_pair first second bound → IsButForAlgebra first checked
but_for_algebra first second bound checked is = (
  compiled_algebra first.grammar first.algebra second.algebra (multiplier_of bound),
  is,
)
