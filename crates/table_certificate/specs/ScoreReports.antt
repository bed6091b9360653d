-- What is told of a word by a certificate that was accepted: its best score over all candidates, or that it has none.
use Rattle.std.specs.Prelude.{◌≡◌, ℕ, ℤ, Option, Some, None, List, ◌++◌, codes}
use Rattle.std.specs.Fmt.{decimal, signed_decimal}
use Rattle.adp_model.specs.PosedProblem.{PosedProblem, axiom_cell}
use Rattle.adp_model.specs.Report.{line}
use Rattle.table_certificate.specs.BestScores.{IsBestScore}

-- `word 1`, and `score 18` or `none`
abbrev pub score_lines : ℕ → Option ℤ → List ℕ
score_lines number None = line (codes "word " ++ decimal number) ++ line (codes "none")
score_lines number (Some score) = line (codes "word " ++ decimal number) ++ line (codes "score " ++ signed_decimal score)

-- the report of the word with this number, counted from 1
abbrev pub IsScoreReport : ℕ → PosedProblem → List ℕ → Type 0
IsScoreReport number p report =
    (score : Option ℤ) × IsBestScore p (axiom_cell p) score × (report ≡ score_lines number score)
