-- Lengths of words that were judged, and what is kept of each: the score bound under the compiled algebra, where a second
-- algebra is asked for.
use Rattle.std.specs.Prelude.{◌≡◌, ℕ, ◌<◌, Option, None, Some, List, [], length, slice_index_or}
use Rattle.adp_model.specs.declared.grammar.Grammar.{Grammar}
use Rattle.adp_model.specs.Bounds.{IsScoreBound}
use Rattle.lex_product.specs.CompiledGrammar.{compiled_grammar, multiplier_of}
use Rattle.verdicts.specs.SecondAlgebra.{IsAdmissibleWith, IsSecond}
use Rattle.verdicts.specs.Posed.{posed_word}

-- the score bound of words of this length under the compiled algebra of the two
abbrev pub IsPairBound : Grammar → ℕ → ℕ → ℕ → ℕ → Type 0
IsPairBound grammar first second len number =
    (bound : ℕ) → IsScoreBound grammar second len bound
    → IsScoreBound (compiled_grammar grammar first second (multiplier_of bound)) first len number

-- the same with the second algebra of this name
abbrev pub IsCompiledBound : Option (List ℕ) → Grammar → ℕ → ℕ → ℕ → Type 0
IsCompiledBound name grammar algebra len number =
    (second : ℕ) → IsSecond name grammar second → IsPairBound grammar algebra second len number

-- what is found of a length that keeps the limits: that bound, where a second algebra is asked for
abbrev pub IsFound : Option (List ℕ) → Grammar → ℕ → ℕ → Option ℕ → Type 0
IsFound None grammar algebra len found = found ≡ None
IsFound (Some name) grammar algebra len None = ⊥
IsFound (Some name) grammar algebra len (Some number) = IsCompiledBound (Some name) grammar algebra len number

-- it is kept for this length
abbrev pub HasKept : Option (List ℕ) → Grammar → ℕ → List (Option ℕ) → ℕ → Type 0
HasKept second grammar algebra kept len = IsFound second grammar algebra len (slice_index_or kept len None)

-- it is kept for the length of each of the words
abbrev pub HaveKept : Option (List ℕ) → Grammar → ℕ → List (Option ℕ) → List (List ℕ) → Type 0
HaveKept second grammar algebra kept words =
    (place : ℕ) → place < length words → HasKept second grammar algebra kept (length (slice_index_or words place []))

-- a word for whose length a bound is kept keeps the limits, and that is its bound
abbrev pub IsKeptBound : Option (List ℕ) → Grammar → ℕ → List ℕ → Option ℕ → Type 0
IsKeptBound second grammar algebra word None = Unit {0}
IsKeptBound second grammar algebra word (Some number) =
    IsAdmissibleWith second (posed_word grammar algebra word)
    × IsFound second grammar algebra (length word) (Some number)

-- so it is for every word
abbrev pub AreKeptLengths : Option (List ℕ) → Grammar → ℕ → List (Option ℕ) → Type 0
AreKeptLengths second grammar algebra kept =
    (word : List ℕ) → IsKeptBound second grammar algebra word (slice_index_or kept (length word) None)
