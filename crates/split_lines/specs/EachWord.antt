-- What holds whatever the word is.
use Rattle.std.specs.Prelude.{ℕ, ◌≤◌, List, length}
use Rattle.adp_model.specs.declared.grammar.Grammar.{Grammar}
use Rattle.adp_model.specs.PosedProblem.{PosedProblem}
use Rattle.adp_model.specs.ProblemFields.{most_letters}

-- a word under a grammar and one of its algebras
abbrev pub with_word : Grammar → ℕ → List ℕ → PosedProblem
with_word grammar algebra word = record { grammar = grammar; algebra = algebra; word = word }

-- it holds for each word that is no longer than words may be
abbrev pub AtEachWord : Grammar → ℕ → (PosedProblem → Type 0) → Type 0
AtEachWord grammar algebra It =
    (word : List ℕ) → length word ≤ most_letters → It (with_word grammar algebra word)
