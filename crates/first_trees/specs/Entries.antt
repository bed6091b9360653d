-- Entries: what a list needs to keep of a tree whose children are listed, each in the list of its own cell.
use Rattle.std.specs.Prelude.{◌≡◌, ℕ, suc, ◌*◌, ℤ, ◌⊎◌, List, [], ◌∷◌}
use Rattle.std.specs.List.{AllZip}
use Rattle.adp_model.specs.declared.grammar.Arg.{Arg}
use Rattle.adp_model.specs.declared.grammar.Arg.TheVariants.{Rule}
use Rattle.adp_model.specs.declared.grammar.Goal.{Goal}
use Rattle.adp_model.specs.declared.cell.Cell.{Cell}
use Rattle.adp_model.specs.declared.cell.Choice.{Choice}
use Rattle.adp_model.specs.PosedProblem.{PosedProblem}
use Rattle.adp_model.specs.Parts.{arguments_of}
use Rattle.adp_model.specs.Tree.{Tree, Leaf, Node, Trees, Nil, Cons, end_of}
use Rattle.adp_model.specs.Scores.{score_of}
use Rattle.adp_model.specs.Preference.{LexicographicallyLess}
use Rattle.adp_model.specs.Answers.{choice_of}
use Rattle.adp_model.specs.FirstSplit.{SplitPrecedes}
use Rattle.first_trees.specs.FirstTrees.{AreFirst, HasPlace}

-- a tree's score, the alternative and the cuts at its root, and for each rule argument its child's rank
pub record Entry : Type 0 where
  pub score : ℤ
  pub choice : Choice
  pub ranks : List ℕ

-- for each rule argument, from left to right, the place of its child among the first `k` of the child's cell
abbrev pub AreRanks : PosedProblem → ℕ → List Arg → ℕ → Trees → List ℕ → Type 0
AreRanks p k [] from children [] = Unit {0}
AreRanks p k [] from children (rank ∷ ranks) = ⊥
AreRanks p k (argument ∷ arguments) from Nil ranks = ⊥
AreRanks p k (Rule rule ∷ arguments) from (Cons first others) [] = ⊥
AreRanks p k (Rule rule ∷ arguments) from (Cons first others) (rank ∷ ranks) =
    HasPlace p k (record { rule = rule; from = from; to = end_of first }) first rank
    × AreRanks p k arguments (end_of first) others ranks
AreRanks p k (token ∷ arguments) from (Cons first others) ranks = AreRanks p k arguments (end_of first) others ranks

-- the entry of a tree, all of whose rule children are among the first `k` of their cells
abbrev pub IsEntry : PosedProblem → ℕ → Tree → Entry → Type 0
IsEntry p k (Leaf from to) entry = ⊥
IsEntry p k (Node rule alternative from to children) entry =
    (entry.score ≡ score_of p (Node rule alternative from to children))
    × (entry.choice ≡ choice_of (Node rule alternative from to children))
    × AreRanks p k (arguments_of p.grammar rule alternative) from children entry.ranks

-- the entries of the cell's first `k` trees, in their order
abbrev pub AreEntries : PosedProblem → ℕ → Cell → List Entry → Type 0
AreEntries p k cell entries = (trees : List Tree) × AreFirst p cell k trees × AllZip (IsEntry p k) trees entries

-- by score, then by alternative, then by cuts, then by the first child whose rank differs
abbrev pub EntryPrecedes : Goal → Entry → Entry → Type 0
EntryPrecedes goal first second =
    SplitPrecedes goal first.score first.choice second.score second.choice
    ⊎ ((first.score ≡ second.score) × (first.choice ≡ second.choice)
    × LexicographicallyLess first.ranks second.ranks)

-- how many choices of children have no rank above these: the product of all ranks plus one
abbrev pub choices_up_to : List ℕ → ℕ
choices_up_to [] = 1
choices_up_to (rank ∷ ranks) = suc rank * choices_up_to ranks
