-- What admission answers: the problem of a checked grammar and a word, or the fault.
use Rattle.std.specs.Prelude.{◌≡◌, ℕ, ◌≤◌, Result, Ok, Err, List, length}
use Rattle.adp_model.specs.declared.grammar.Grammar.{Grammar}
use Rattle.adp_model.specs.PosedProblem.{PosedProblem}
use Rattle.adp_model.specs.Cells.{IsCellBound}
use Rattle.adp_model.specs.LimitFaults.{IsLimitFault}
use Rattle.adp_model.specs.ProblemFields.{most_letters, most_cells}
use Rattle.grammar_check.specs.declared.error.AdmitError.{AdmitError}
use Rattle.grammar_check.specs.declared.error.AdmitError.TheVariants.{Fault, Memory}
use Rattle.grammar_check.specs.CheckedGrammar.{CheckedGrammar}

-- the length keeps its limit, and this is its cell bound, which keeps its own
pub record KeepsCells (grammar : Grammar) (len cells : ℕ) : Type 0 where
  pub letters : len ≤ most_letters
  pub bound : IsCellBound grammar len cells
  pub few : cells ≤ most_cells

-- the problem of the checked grammar, its algebra and the word
abbrev pub IsProblemOf : CheckedGrammar → List ℕ → PosedProblem → Type 0
IsProblemOf checked word problem =
    problem ≡ record { grammar = checked.grammar; algebra = checked.algebra; word = word }

-- the problem, or the word's limit fault, or want of memory
abbrev pub MatchAdmission : CheckedGrammar → List ℕ → Result PosedProblem AdmitError → Type 0
MatchAdmission checked word (Ok problem) = IsProblemOf checked word problem
MatchAdmission checked word (Err (Fault fault)) = IsLimitFault checked.grammar checked.algebra (length word) fault
MatchAdmission checked word (Err Memory) = Unit {0}
