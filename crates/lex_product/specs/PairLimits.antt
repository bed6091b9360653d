-- The limits of a word by two algebras in order: those under each of them, that of the compiled numbers, and those under
-- the compiled algebra.
use Rattle.std.specs.Prelude.{ℕ, ◌<◌, ◌≤◌, Option, List, length}
use Rattle.adp_model.specs.declared.fault.LimitFault.{LimitFault}
use Rattle.adp_model.specs.declared.grammar.Grammar.{Grammar}
use Rattle.adp_model.specs.PosedProblem.{PosedProblem}
use Rattle.adp_model.specs.Checks.{IsChecked}
use Rattle.adp_model.specs.Bounds.{IsScoreBound}
use Rattle.adp_model.specs.LimitFaults.{IsLimitFault}
use Rattle.adp_model.specs.ProblemFields.{KeepsLimits, greatest_score}
use Rattle.lex_product.specs.CompiledGrammar.{compiled_grammar, greatest_compiled, multiplier_of}
use Rattle.lex_product.specs.PairFaults.{AllAddScores, IsNumberFault}

-- the compiled numbers are no greater than a score may be, where the second algebra has this score bound
abbrev pub AreLowNumbers : Grammar → ℕ → ℕ → ℕ → Type 0
AreLowNumbers grammar first second bound =
    greatest_compiled grammar first second (multiplier_of bound) ≤ greatest_score

-- a length keeps all of them
pub record KeepsPairLimits (grammar : Grammar) (first second len : ℕ) : Type 0 where
  pub of_first : KeepsLimits grammar first len
  pub of_second : KeepsLimits grammar second len
  pub bound : ℕ
  pub bounded : IsScoreBound grammar second len bound
  pub numbers : AreLowNumbers grammar first second bound
  pub of_compiled : KeepsLimits (compiled_grammar grammar first second (multiplier_of bound)) first len

-- the fault of words of this length: the first limit that is passed
pub data IsPairLimitFault (grammar : Grammar) (first second len : ℕ) (fault : LimitFault) : Type 0 where
  OfFirst : IsLimitFault grammar first len fault → IsPairLimitFault grammar first second len fault
  OfSecond : KeepsLimits grammar first len → IsLimitFault grammar second len fault
      → IsPairLimitFault grammar first second len fault
  OfNumbers : (bound : ℕ) → KeepsLimits grammar first len → KeepsLimits grammar second len
      → IsScoreBound grammar second len bound → IsNumberFault grammar first second bound fault
      → IsPairLimitFault grammar first second len fault
  OfCompiled : (bound : ℕ) → KeepsLimits grammar first len → KeepsLimits grammar second len
      → IsScoreBound grammar second len bound → AreLowNumbers grammar first second bound
      → IsLimitFault (compiled_grammar grammar first second (multiplier_of bound)) first len fault
      → IsPairLimitFault grammar first second len fault

-- the grammar passes the checks under the first algebra, has the second one, and all terms of both add scores as they
-- are
pub record IsCheckedPair (grammar : Grammar) (first second : ℕ) (least : List ℕ) (greatest : List (Option ℕ))
    (ranks : List ℕ) : Type 0 where
  pub checked : IsChecked grammar first least greatest ranks
  pub known : second < length grammar.algebras
  pub adding : AllAddScores grammar first second

-- the grammar passes the checks, and the word keeps the limits
pub record IsPairAdmissible (p : PosedProblem) (second : ℕ) : Type 0 where
  pub least : List ℕ
  pub greatest : List (Option ℕ)
  pub ranks : List ℕ
  pub checked : IsCheckedPair p.grammar p.algebra second least greatest ranks
  pub limits : KeepsPairLimits p.grammar p.algebra second (length p.word)
