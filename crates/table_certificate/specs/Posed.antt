-- What is asked about the words of a job.
use Rattle.std.specs.Prelude.{ℕ, List, map}
use Rattle.adp_model.specs.declared.grammar.Grammar.{Grammar}
use Rattle.adp_model.specs.PosedProblem.{PosedProblem}

-- a word of a job under an algebra
abbrev pub posed_word : Grammar → ℕ → List ℕ → PosedProblem
posed_word grammar algebra word = record { grammar = grammar; algebra = algebra; word = word }

abbrev pub posed_words : Grammar → ℕ → List (List ℕ) → List PosedProblem
posed_words grammar algebra words = map (posed_word grammar algebra) words
