-- Bellman's principle for lists: the entries of a cell by its viable splits and the lists of its arguments' cells.
use Rattle.std.specs.Prelude.{◌≡◌, ℕ, ℤ, List, [], ◌∷◌}
use Rattle.adp_model.specs.declared.grammar.Arg.{Arg}
use Rattle.adp_model.specs.declared.grammar.Arg.TheVariants.{Rule}
use Rattle.adp_model.specs.declared.cell.Cell.{Cell}
use Rattle.adp_model.specs.PosedProblem.{PosedProblem}
use Rattle.adp_model.specs.Parts.{algebra_of, term_of}
use Rattle.adp_model.specs.Tokens.{letters_between, token_value}
use Rattle.adp_model.specs.Terms.{term_value}
use Rattle.adp_model.specs.Tree.{Tree}
use Rattle.adp_model.specs.Scores.{score_of}
use Rattle.adp_model.specs.Splits.{Placed, placed, IsViable}
use Rattle.first_trees.specs.FirstTrees.{AreFirstOf, HasPlace}
use Rattle.first_trees.specs.Entries.{Entry, EntryPrecedes}

-- the score of the tree that stands at this place among the first `k` of the cell
abbrev pub HasScoreAt : PosedProblem → ℕ → Cell → ℕ → ℤ → Type 0
HasScoreAt p k cell rank score = (tree : Tree) × HasPlace p k cell tree rank × (score ≡ score_of p tree)

-- the first value is the argument's on its span: of a rule the score at the first rank, of a token what its letters are
-- worth. The others have the other ranks
abbrev pub HasRankedValue : PosedProblem → ℕ → Placed → (List ℕ → List ℤ → Type 0) → List ℕ → List ℤ → Type 0
HasRankedValue p k placed Others ranks values = has placed.argument ranks values
  where
    has : Arg → List ℕ → List ℤ → Type 0
    has (Rule rule) [] values = ⊥
    has (Rule rule) (rank ∷ ranks) [] = ⊥
    has (Rule rule) (rank ∷ ranks) (value ∷ values) =
        HasScoreAt p k (record { rule = rule; from = placed.from; to = placed.to }) rank value × Others ranks values
    has token ranks [] = ⊥
    has token ranks (value ∷ values) =
        (value ≡ token_value p.grammar token (letters_between p.word placed.from placed.to)) × Others ranks values

-- a value for each argument, and a rank for each that is a rule
abbrev pub AreRankedValues : PosedProblem → ℕ → List Placed → List ℕ → List ℤ → Type 0
AreRankedValues p k [] [] [] = Unit {0}
AreRankedValues p k [] [] (value ∷ values) = ⊥
AreRankedValues p k [] (rank ∷ ranks) values = ⊥
AreRankedValues p k (placed ∷ others) ranks values =
    HasRankedValue p k placed (AreRankedValues p k others) ranks values

-- a viable split with a rank for each rule argument in the list of its cell, scored at the scores that stand there
pub record IsRankedSplit (p : PosedProblem) (k : ℕ) (cell : Cell) (entry : Entry) : Type 0 where
  pub viable : IsViable p cell entry.choice.alt entry.choice.cuts
  pub values : List ℤ
  pub are_values : AreRankedValues p k (placed p cell entry.choice.alt entry.choice.cuts) entry.ranks values
  pub scored : entry.score ≡ term_value (term_of p cell.rule entry.choice.alt) values

-- the first `k` of them
abbrev pub AreFirstSplits : PosedProblem → ℕ → Cell → List Entry → Type 0
AreFirstSplits p k cell = AreFirstOf (EntryPrecedes (algebra_of p).goal) (IsRankedSplit p k cell) k
