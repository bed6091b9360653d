-- What is written as a certificate: of each word its demanded cells in order, each with its best score.
use Rattle.std.specs.Prelude.{◌≡◌, ℕ, suc, ◌+◌, ℤ, Option, Some, None, List, [], ◌∷◌, ◌++◌, codes, length}
use Rattle.std.specs.Fmt.{decimal, signed_decimal}
use Rattle.adp_model.specs.declared.cell.Cell.{Cell}
use Rattle.adp_model.specs.declared.grammar.Grammar.{Grammar}
use Rattle.adp_model.specs.PosedProblem.{PosedProblem}
use Rattle.adp_model.specs.Parts.{rule_at}
use Rattle.adp_model.specs.Report.{line}
use Rattle.adp_model.specs.Demand.{AreDemanded}
use Rattle.table_certificate.specs.CertificateLines.{LineForm, WordLine, CellLine}
use Rattle.table_certificate.specs.BestScores.{IsBestScore}

-- a score, or `none`
abbrev pub score_text : Option ℤ → List ℕ
score_text None = codes "none"
score_text (Some score) = signed_decimal score

-- `s 0 2 1`
abbrev pub cell_text : Grammar → Cell → Option ℤ → List ℕ
cell_text grammar cell score =
    (rule_at grammar cell.rule).name ++ codes " " ++ decimal cell.from ++ codes " " ++ decimal cell.to ++ codes " "
    ++ score_text score

-- `word 1 cells 4`
abbrev pub word_text : ℕ → ℕ → List ℕ
word_text number cells = codes "word " ++ decimal number ++ codes " cells " ++ decimal cells

-- a line for each of these cells, with its best score
abbrev pub AreCellLines : PosedProblem → List Cell → List ℕ → Type 0
AreCellLines p [] text = text ≡ []
AreCellLines p (cell ∷ cells) text =
    (score : Option ℤ) × (others : List ℕ) × IsBestScore p cell score × AreCellLines p cells others
    × (text ≡ line (cell_text p.grammar cell score) ++ others)

-- the block of the word with this number: its head, and the lines of its demanded cells
abbrev pub IsCertificate : ℕ → PosedProblem → List ℕ → Type 0
IsCertificate number p text =
    (cells : List Cell) × (lines : List ℕ) × AreDemanded p cells × AreCellLines p cells lines
    × (text ≡ line (word_text number (length cells)) ++ lines)

-- the blocks of words, numbered from this number on
abbrev pub AreCertificates : ℕ → List PosedProblem → List ℕ → Type 0
AreCertificates number [] text = text ≡ []
AreCertificates number (p ∷ problems) text =
    (block : List ℕ) × (others : List ℕ) × IsCertificate number p block × AreCertificates (number + 1) problems others
    × (text ≡ block ++ others)

-- the certificate of all words
abbrev pub IsWritten : List PosedProblem → List ℕ → Type 0
IsWritten problems text =
    (blocks : List ℕ) × AreCertificates 1 problems blocks × (text ≡ line (codes "cert") ++ blocks)

-- a job behind the certificate of its words: the certificate, the line `job`, and the job's bytes
abbrev pub IsCertifiedJob : List PosedProblem → List ℕ → List ℕ → Type 0
IsCertifiedJob problems job bytes =
    (text : List ℕ) × IsWritten problems text × (bytes ≡ text ++ line (codes "job") ++ job)

-- ---- the same by forms

-- a line for each cell, with its score
abbrev pub cell_forms : List Cell → List (Option ℤ) → List LineForm
cell_forms [] scores = []
cell_forms (cell ∷ cells) [] = []
cell_forms (cell ∷ cells) (score ∷ scores) = CellLine cell score ∷ cell_forms cells scores

-- a best score for each cell
abbrev pub AreBest : PosedProblem → List Cell → List (Option ℤ) → Type 0
AreBest p [] scores = scores ≡ []
AreBest p (cell ∷ cells) [] = ⊥
AreBest p (cell ∷ cells) (score ∷ scores) = IsBestScore p cell score × AreBest p cells scores

-- the head and the lines of a block
abbrev pub block_forms : ℕ → List Cell → List (Option ℤ) → List LineForm
block_forms number cells scores = WordLine number (length cells) ∷ cell_forms cells scores

-- the blocks of problems, numbered from this number on: each has all demanded cells in order, with their best scores
abbrev pub AreBlockForms : ℕ → List PosedProblem → List LineForm → Type 0
AreBlockForms number [] forms = forms ≡ []
AreBlockForms number (p ∷ problems) forms =
    (cells : List Cell) × (scores : List (Option ℤ)) × (others : List LineForm) × AreDemanded p cells
    × AreBest p cells scores × AreBlockForms (suc number) problems others
    × (forms ≡ block_forms number cells scores ++ others)
