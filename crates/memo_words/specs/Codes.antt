-- The words that stand for cells, for scores and for choices.
use Rattle.std.specs.Prelude.{◌≡◌, ℕ, ◌+◌, ◌*◌, ◌^◌, ◌<◌, ◌≤◌, ℤ, pos, ◌+ℤ◌, nat_abs, length, slice_index, All, Option, Some, None}
use Rattle.adp_model.specs.declared.cell.Cell.{Cell}
use Rattle.adp_model.specs.declared.cell.Choice.{Choice}

-- a rule and positions that fit a key word
pub record HasCellCode (cell : Cell) : Type 0 where
  pub rule : cell.rule < 128
  pub from : cell.from ≤ 4000
  pub to : cell.to ≤ 4000

-- never 0
abbrev pub cell_code : Cell → ℕ
cell_code cell = 1 + cell.to + 4096 * cell.from + 16777216 * cell.rule

-- a score that fits a score word, or that there is no candidate
abbrev pub HasScoreCode : Option ℤ → Type 0
HasScoreCode None = Unit {0}
HasScoreCode (Some score) = nat_abs score < 2 ^ 62

-- never 0
abbrev pub score_code : Option ℤ → ℕ
score_code None = 1
score_code (Some score) = nat_abs (score +ℤ pos (2 ^ 62 + 1))

-- three cuts
abbrev pub AreFittingCuts : Choice → Type 0
AreFittingCuts choice = (length choice.cuts ≡ 3) × All (λ cut. cut ≤ 4000) choice.cuts

-- an alternative and cuts that fit a choice word, or that there is no candidate
abbrev pub HasChoiceCode : Option Choice → Type 0
HasChoiceCode None = Unit {0}
HasChoiceCode (Some choice) = (choice.alt < 64) × AreFittingCuts choice

-- never 0
abbrev pub choice_code : Option Choice → ℕ
choice_code None = 1
choice_code (Some choice) = 2 + choice.alt + 2 ^ 8 * slice_index choice.cuts 0 + 2 ^ 20 * slice_index choice.cuts 1
    + 2 ^ 32 * slice_index choice.cuts 2
