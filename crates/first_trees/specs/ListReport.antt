-- The report of a word's first trees: its number, the score and the text of each, and how many there are.
use Rattle.std.specs.Prelude.{◌≡◌, ℕ, ◌⊎◌, List, [], ◌∷◌, ◌++◌, length, codes}
use Rattle.std.specs.Fmt.{decimal}
use Rattle.adp_model.specs.PosedProblem.{PosedProblem, axiom_cell}
use Rattle.adp_model.specs.Tree.{Tree}
use Rattle.adp_model.specs.Preference.{IsPreferred}
use Rattle.adp_model.specs.Answers.{HasNoTree}
use Rattle.adp_model.specs.Report.{line, tree_lines}
use Rattle.first_trees.specs.FirstTrees.{AreFirst}

-- the lines of each tree in turn
abbrev pub lines_of : PosedProblem → List Tree → List ℕ
lines_of p [] = []
lines_of p (tree ∷ trees) = tree_lines p tree ++ lines_of p trees

-- the report of the word with this number, counted from 1, with its first `k` candidates
abbrev pub IsListReport : ℕ → PosedProblem → ℕ → List ℕ → Type 0
IsListReport number p k report =
    (trees : List Tree) × AreFirst p (axiom_cell p) k trees
    × (report ≡ line (codes "word " ++ decimal number) ++ lines_of p trees
    ++ line (codes "listed " ++ decimal (length trees)))

-- the same with the preferred candidate alone, or with none where there is none
abbrev pub IsPreferredReport : ℕ → PosedProblem → List ℕ → Type 0
IsPreferredReport number p report =
    ((tree : Tree) × IsPreferred p (axiom_cell p) tree
    × (report ≡ line (codes "word " ++ decimal number) ++ tree_lines p tree ++ line (codes "listed " ++ decimal 1)))
    ⊎ (HasNoTree p (axiom_cell p)
    × (report ≡ line (codes "word " ++ decimal number) ++ line (codes "listed " ++ decimal 0)))

-- the report of the word's answer, and that of one first candidate: the lines of score and tree are the same, those of the
-- preferred candidate; or there is none, and the one says so and the other has no such lines
abbrev pub TellOneCandidate : ℕ → PosedProblem → List ℕ → List ℕ → Type 0
TellOneCandidate number p report listed =
    (cells : ℕ) × (((tree : Tree) × IsPreferred p (axiom_cell p) tree
    × (report ≡ line (codes "word " ++ decimal number) ++ tree_lines p tree ++ line (codes "cells " ++ decimal cells))
    × (listed ≡ line (codes "word " ++ decimal number) ++ tree_lines p tree ++ line (codes "listed " ++ decimal 1)))
    ⊎ (HasNoTree p (axiom_cell p)
    × (report ≡ line (codes "word " ++ decimal number) ++ line (codes "none") ++ line (codes "cells " ++ decimal cells))
    × (listed ≡ line (codes "word " ++ decimal number) ++ line (codes "listed " ++ decimal 0))))
