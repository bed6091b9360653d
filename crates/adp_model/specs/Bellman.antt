-- Bellman's principle: the answer of a cell from the answers of its arguments' cells.
use Rattle.std.specs.Prelude.{ℕ, ℤ, List, [], ◌∷◌}
use Rattle.adp_model.specs.declared.grammar.Arg.{Arg}
use Rattle.adp_model.specs.declared.grammar.Arg.TheVariants.{Rule}
use Rattle.adp_model.specs.declared.cell.Answer.{Answer}
use Rattle.adp_model.specs.declared.cell.Answer.TheVariants.{Best}
use Rattle.adp_model.specs.declared.cell.Cell.{Cell}
use Rattle.adp_model.specs.declared.cell.Choice.{Choice}
use Rattle.adp_model.specs.PosedProblem.{PosedProblem, IsSpan}
use Rattle.adp_model.specs.Parts.{arguments_of}
use Rattle.adp_model.specs.Tree.{Node, Trees, Nil, Cons, end_of}
use Rattle.adp_model.specs.Preference.{IsPreferred}
use Rattle.adp_model.specs.Answers.{IsAnswer}
use Rattle.adp_model.specs.FirstSplit.{IsFirstSplit}

-- the score of the cell's preferred tree
abbrev pub HasBestScore : PosedProblem → Cell → ℤ → Type 0
HasBestScore p cell score = (choice : Choice) × IsAnswer p cell (Best score choice)

-- of all splits, scored at the best scores of their arguments' cells, the first
abbrev pub IsBestSplit : PosedProblem → Cell → Answer → Type 0
IsBestSplit p = IsFirstSplit p (HasBestScore p) (λ choice. Unit {0})

-- each child of a rule argument is the preferred tree of its cell
abbrev pub ArePreferred : PosedProblem → List Arg → ℕ → Trees → Type 0
ArePreferred p [] from children = Unit {0}
ArePreferred p (argument ∷ arguments) from Nil = Unit {0}
ArePreferred p (Rule rule ∷ arguments) from (Cons first others) =
    IsPreferred p (record { rule = rule; from = from; to = end_of first }) first
    × ArePreferred p arguments (end_of first) others
ArePreferred p (token ∷ arguments) from (Cons first others) = ArePreferred p arguments (end_of first) others

-- each cell of the word has an answer, it is the first of the cell's splits at the best scores of their arguments'
-- cells, and the rule children of a preferred tree are the preferred trees of their cells
pub record Bellman (p : PosedProblem) : Type 0 where
  pub answered : (cell : Cell) → IsSpan p.word cell.from cell.to → (answer : Answer) × IsAnswer p cell answer
  pub first : (cell : Cell) (answer : Answer) → IsSpan p.word cell.from cell.to → IsBestSplit p cell answer
      → IsAnswer p cell answer
  pub only : (cell : Cell) (answer : Answer) → IsSpan p.word cell.from cell.to → IsAnswer p cell answer
      → IsBestSplit p cell answer
  pub children : (cell : Cell) (rule alternative from to : ℕ) (children : Trees)
      → IsPreferred p cell (Node rule alternative from to children)
      → ArePreferred p (arguments_of p.grammar cell.rule alternative) cell.from children
