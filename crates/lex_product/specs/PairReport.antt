-- The report of a word by two algebras in order: its number, both scores of the preferred tree and the tree, or `none`,
-- and the number of demanded cells.
use Rattle.std.specs.Prelude.{◌≡◌, ℕ, ◌⊎◌, List, ◌++◌, codes}
use Rattle.std.specs.Fmt.{decimal, signed_decimal}
use Rattle.adp_model.specs.PosedProblem.{PosedProblem, axiom_cell}
use Rattle.adp_model.specs.Tree.{Tree}
use Rattle.adp_model.specs.Scores.{score_of}
use Rattle.adp_model.specs.Answers.{HasNoTree}
use Rattle.adp_model.specs.Demand.{IsDemandedCount}
use Rattle.adp_model.specs.TreeText.{tree_text}
use Rattle.adp_model.specs.Report.{line}
use Rattle.lex_product.specs.PairOrder.{under, IsPairPreferred}

-- the lines of a candidate: its score under the first algebra, its score under the second, and its text
abbrev pub pair_lines : PosedProblem → ℕ → Tree → List ℕ
pair_lines p second tree =
    line (codes "score " ++ signed_decimal (score_of p tree) ++ codes " "
    ++ signed_decimal (score_of (under second p) tree))
    ++ line (codes "tree " ++ tree_text p tree)

-- the lines of the preferred tree, or the line of a word without a candidate
abbrev pub IsPairAnswerText : PosedProblem → ℕ → List ℕ → Type 0
IsPairAnswerText p second text =
    ((tree : Tree) × IsPairPreferred p second (axiom_cell p) tree × (text ≡ pair_lines p second tree))
    ⊎ (HasNoTree p (axiom_cell p) × (text ≡ line (codes "none")))

-- the report of the word with this number, counted from 1
abbrev pub IsPairReport : ℕ → PosedProblem → ℕ → List ℕ → Type 0
IsPairReport number p second report =
    (answer : List ℕ) × (count : ℕ) × IsPairAnswerText p second answer × IsDemandedCount p count
    × (report ≡ line (codes "word " ++ decimal number) ++ answer ++ line (codes "cells " ++ decimal count))
