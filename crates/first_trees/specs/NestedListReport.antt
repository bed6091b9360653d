-- The report of a word's first nested trees, under a nested grammar: its number, the score and the text of each, and how
-- many there are.
use Rattle.std.specs.Prelude.{◌≡◌, ℕ, List, [], ◌∷◌, ◌++◌, length, codes}
use Rattle.std.specs.Fmt.{decimal}
use Rattle.adp_model.specs.declared.cell.Cell.{Cell}
use Rattle.adp_model.specs.PosedProblem.{PosedProblem, axiom_cell}
use Rattle.adp_model.specs.Report.{line}
use Rattle.nested_trees.specs.Patterns.{Patterns, NestedProblem, HidesRules}
use Rattle.nested_trees.specs.NestedTree.{NestedTree}
use Rattle.nested_trees.specs.NestedDerivation.{DerivesNested}
use Rattle.nested_trees.specs.NestedPreference.{IsNestedBefore}
use Rattle.nested_trees.specs.NestedReport.{nested_tree_lines}
use Rattle.first_trees.specs.FirstTrees.{AreFirstOf}

-- the first `k` nested trees that are derived for the cell, in the order of preference
abbrev pub AreFirstNested : NestedProblem → Cell → ℕ → List NestedTree → Type 0
AreFirstNested q cell = AreFirstOf (IsNestedBefore q cell) (DerivesNested q cell)

-- the lines of each tree in turn
abbrev pub nested_lines_of : NestedProblem → List NestedTree → List ℕ
nested_lines_of q [] = []
nested_lines_of q (tree ∷ trees) = nested_tree_lines q tree ++ nested_lines_of q trees

-- the report of the word with this number, counted from 1, with its first `k` nested candidates, under the nested grammar
-- of which so many rules are hidden
abbrev pub IsNestedListReport : ℕ → PosedProblem → ℕ → ℕ → List ℕ → Type 0
IsNestedListReport number p hidden k report =
    (patterns : ℕ → ℕ → Patterns) × HidesRules (record { plain = p; patterns = patterns }) hidden
    × (trees : List NestedTree) × AreFirstNested (record { plain = p; patterns = patterns }) (axiom_cell p) k trees
    × (report ≡ line (codes "word " ++ decimal number)
    ++ nested_lines_of (record { plain = p; patterns = patterns }) trees
    ++ line (codes "listed " ++ decimal (length trees)))
