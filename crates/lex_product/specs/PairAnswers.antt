-- What checking and compiling a pair of algebras answer.
use Rattle.std.specs.Prelude.{◌≡◌, ℕ, Result, Ok, Err, List, slice_set}
use Rattle.adp_model.specs.declared.grammar.Algebra.{Algebra}
use Rattle.adp_model.specs.GrammarFaults.{IsNamed}
use Rattle.adp_model.specs.Bounds.{IsScoreBound}
use Rattle.grammar_check.specs.CheckedGrammar.{CheckedGrammar}
use Rattle.lex_product.specs.declared.error.PairError.{PairError}
use Rattle.lex_product.specs.declared.error.PairError.TheVariants as pair
use Rattle.lex_product.specs.declared.error.CompileError.{CompileError}
use Rattle.lex_product.specs.declared.error.CompileError.TheVariants as compiling
use Rattle.lex_product.specs.CompiledGrammar.{multiplier_of, compiled_grammar}
use Rattle.lex_product.specs.PairFaults.{AllAddScores, IsPairFault, IsNumberFault}
use Rattle.lex_product.specs.PairLimits.{AreLowNumbers}

-- the second is the first with another algebra, and the terms of both add scores as they are
pub record IsPair (first second : CheckedGrammar) : Type 0 where
  pub other : second ≡ record first { algebra = second.algebra }
  pub adding : AllAddScores first.grammar first.algebra second.algebra

-- the first grammar with the algebra of the name; or the fault; or want of memory
abbrev pub MatchPair : CheckedGrammar → List ℕ → Result CheckedGrammar PairError → Type 0
MatchPair first name (Ok second) = IsNamed first.grammar name second.algebra × IsPair first second
MatchPair first name (Err (pair.Fault fault)) = IsPairFault first.grammar first.algebra name fault
MatchPair first name (Err pair.Memory) = Unit {0}

-- the first grammar with the compiled algebra of both in its algebra's place, where the second has this score bound
abbrev pub compiled_pair : CheckedGrammar → CheckedGrammar → ℕ → CheckedGrammar
compiled_pair first second bound = record first {
  grammar = compiled_grammar first.grammar first.algebra second.algebra (multiplier_of bound);
}

-- the checked grammar with another algebra in its own algebra's place
abbrev pub with_algebra : CheckedGrammar → Algebra → CheckedGrammar
with_algebra checked algebra = record checked {
  grammar = record checked.grammar { algebras = slice_set checked.grammar.algebras checked.algebra algebra };
}

-- it is the first but for that algebra
abbrev pub IsButForAlgebra : CheckedGrammar → CheckedGrammar → Type 0
IsButForAlgebra first other = (algebra : Algebra) × (other ≡ with_algebra first algebra)

-- the compiled numbers are no greater than a score may be
abbrev pub HasLowNumbers : CheckedGrammar → CheckedGrammar → ℕ → Type 0
HasLowNumbers first second bound =
    AreLowNumbers first.grammar first.algebra second.algebra bound

-- the grammar that is compiled where the second algebra has this score bound; or the fault; or want of memory
abbrev pub MatchCompiledBy : CheckedGrammar → CheckedGrammar → ℕ → Result CheckedGrammar CompileError → Type 0
MatchCompiledBy first second bound (Ok compiled) =
    HasLowNumbers first second bound × (compiled ≡ compiled_pair first second bound)
MatchCompiledBy first second bound (Err (compiling.Fault fault)) =
    IsNumberFault first.grammar first.algebra second.algebra bound fault
MatchCompiledBy first second bound (Err compiling.Memory) = Unit {0}

-- the same for words of this length
abbrev pub MatchCompiled : CheckedGrammar → CheckedGrammar → ℕ → Result CheckedGrammar CompileError → Type 0
MatchCompiled first second len result =
    (bound : ℕ) × IsScoreBound first.grammar second.algebra len bound × MatchCompiledBy first second bound result
