-- The report of a word under a nested grammar: its number, the best score and the first nested tree of that score, or
-- `none`, and the number of the plain grammar's demanded cells.
use Rattle.std.specs.Prelude.{◌≡◌, ℕ, ◌⊎◌, List, ◌++◌, codes, sum}
use Rattle.std.specs.Fmt.{decimal, signed_decimal}
use Rattle.adp_model.specs.declared.grammar.Arg.TheVariants.{Rule}
use Rattle.adp_model.specs.PosedProblem.{PosedProblem, axiom_cell}
use Rattle.adp_model.specs.Demand.{IsDemandedCount}
use Rattle.adp_model.specs.Report.{line, wins_line}
use Rattle.nested_trees.specs.Patterns.{Plain, Patterns, NestedProblem, HidesRules}
use Rattle.nested_trees.specs.NestedTree.{NestedTree}
use Rattle.nested_trees.specs.NestedScores.{nested_score}
use Rattle.nested_trees.specs.NestedPreference.{IsNestedPreferred, HasNoNestedTree}
use Rattle.nested_trees.specs.NestedText.{nested_text}

-- the lines of a nested candidate, which meets the pattern that names the axiom
abbrev pub nested_tree_lines : NestedProblem → NestedTree → List ℕ
nested_tree_lines q tree =
    line (codes "score " ++ signed_decimal (nested_score q (Plain (Rule q.plain.grammar.axiom)) tree))
    ++ line (codes "tree " ++ nested_text q.plain tree)

-- the lines of the preferred nested tree, or the line of a word without a nested candidate
abbrev pub IsNestedAnswerText : NestedProblem → List ℕ → Type 0
IsNestedAnswerText q text =
    ((tree : NestedTree) × IsNestedPreferred q (axiom_cell q.plain) tree × (text ≡ nested_tree_lines q tree))
    ⊎ (HasNoNestedTree q (axiom_cell q.plain) × (text ≡ line (codes "none")))

-- the report of the word with this number, counted from 1, under the nested grammar of which so many rules are hidden
abbrev pub IsNestedReport : ℕ → PosedProblem → ℕ → List ℕ → Type 0
IsNestedReport number p hidden report =
    (patterns : ℕ → ℕ → Patterns) × HidesRules (record { plain = p; patterns = patterns }) hidden
    × (answer : List ℕ) × (count : ℕ) × IsNestedAnswerText (record { plain = p; patterns = patterns }) answer
    × IsDemandedCount p count
    × (report ≡ line (codes "word " ++ decimal number) ++ answer ++ line (codes "cells " ++ decimal count))

-- the report with the wins of the evaluators, who put each demanded cell into the table once
abbrev pub IsNestedWinsReport : ℕ → PosedProblem → ℕ → List ℕ → List ℕ → Type 0
IsNestedWinsReport number p hidden wins report =
    (plain : List ℕ) × IsNestedReport number p hidden plain × IsDemandedCount p (sum wins)
    × (report ≡ plain ++ wins_line wins)
