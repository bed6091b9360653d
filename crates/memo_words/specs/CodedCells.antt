-- The codes of cells and of answers, as the rule of the table takes them.
use Rattle.std.specs.Prelude.{◌≡◌, ℕ, ◌-◌, ◌/◌, ◌%◌, Some, None}
use Rattle.adp_model.specs.declared.cell.Answer.{Answer}
use Rattle.adp_model.specs.declared.cell.Answer.TheVariants.{NoCandidate, Best}
use Rattle.adp_model.specs.declared.cell.Cell.{Cell}
use Rattle.memo_words.specs.declared.part.Part.{Part}
use Rattle.memo_words.specs.declared.part.Part.TheVariants.{Score, Choice}
use Rattle.memo_words.specs.Codes.{HasCellCode, cell_code, score_code, choice_code}

-- the code is that of the cell
pub record IsCodeOf (cell : Cell) (code : ℕ) : Type 0 where
  pub coded : HasCellCode cell
  pub same : code ≡ cell_code cell

-- the cell of a code
unfoldable pub cell_of : ℕ → Cell
cell_of code =
    record { rule = (code - 1) / 16777216; from = (code - 1) / 4096 % 4096; to = (code - 1) % 4096 }

-- the codes of an answer
unfoldable pub answer_word : Part → Answer → ℕ
answer_word Score NoCandidate = score_code None
answer_word Score (Best score choice) = score_code (Some score)
answer_word Choice NoCandidate = choice_code None
answer_word Choice (Best score choice) = choice_code (Some choice)
