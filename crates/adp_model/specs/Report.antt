-- The report of a word: its number, the best score and the first tree of that score, or `none`, and the number
-- of demanded cells.
use Rattle.std.specs.Prelude.{◌≡◌, ℕ, List, [], ◌∷◌, ◌++◌, codes, sum}
use Rattle.std.specs.Fmt.{decimal, signed_decimal}
use Rattle.adp_model.specs.Ascii.{line_feed}
use Rattle.adp_model.specs.declared.cell.Answer.{Answer}
use Rattle.adp_model.specs.declared.cell.Answer.TheVariants.{NoCandidate, Best}
use Rattle.adp_model.specs.PosedProblem.{PosedProblem, axiom_cell}
use Rattle.adp_model.specs.Tree.{Tree}
use Rattle.adp_model.specs.Scores.{score_of}
use Rattle.adp_model.specs.Answers.{IsAnswer}
use Rattle.adp_model.specs.Demand.{IsDemandedCount}
use Rattle.adp_model.specs.TreeText.{tree_text}

-- a line with its end
abbrev pub line : List ℕ → List ℕ
line content = content ++ line_feed ∷ []

-- the lines of a candidate
abbrev pub tree_lines : PosedProblem → Tree → List ℕ
tree_lines p tree =
    line (codes "score " ++ signed_decimal (score_of p tree)) ++ line (codes "tree " ++ tree_text p tree)

-- the lines that tell the word's answer: those of its preferred tree, or the line of a word without a candidate
abbrev pub answer_lines : (p : PosedProblem) (answer : Answer) → IsAnswer p (axiom_cell p) answer → List ℕ
answer_lines p NoCandidate none = line (codes "none")
answer_lines p (Best score choice) best = tree_lines p best.0

-- the text tells what the word's answer is
abbrev pub IsAnswerText : PosedProblem → List ℕ → Type 0
IsAnswerText p text =
    (answer : Answer) × (is : IsAnswer p (axiom_cell p) answer) × (text ≡ answer_lines p answer is)

-- the report of the word with this number, counted from 1
abbrev pub IsReport : ℕ → PosedProblem → List ℕ → Type 0
IsReport number p report =
    (answer : List ℕ) × (count : ℕ) × IsAnswerText p answer × IsDemandedCount p count
    × (report ≡ line (codes "word " ++ decimal number) ++ answer ++ line (codes "cells " ++ decimal count))

-- numbers with a space before each
abbrev pub spaced : List ℕ → List ℕ
spaced [] = []
spaced (number ∷ numbers) = codes " " ++ decimal number ++ spaced numbers

-- the line of the wins: how many answers each evaluator put into the table
abbrev pub wins_line : List ℕ → List ℕ
wins_line wins = line (codes "wins" ++ spaced wins)

-- the report with the wins of the evaluators, who put each demanded cell into the table once
abbrev pub IsWinsReport : ℕ → PosedProblem → List ℕ → List ℕ → Type 0
IsWinsReport number p wins report =
    (plain : List ℕ) × IsReport number p plain × IsDemandedCount p (sum wins) × (report ≡ plain ++ wins_line wins)
