use Rattle.std.proofs.Common.{◌≡◌, ◌<◌, ℕ, ℤ}
use Rattle.adp_model.specs.Parts.{algebra_of}
use Rattle.adp_model.specs.Bellman.{HasBestScore}
use Rattle.score_numbers.specs.Turned.{turned}
use Rattle.cell_answers.specs.Totals.{HasTurnedScore}
use Rattle.cell_answers.proofs.filling.first_giving.Given as goal

-- none of the alternatives before this one gives the best score
abbrev pub invariant-loop-number : goal.invariant-loop-number
invariant-loop-number l = record {
  same : l.tails ≡ l.lines;
  none : (other : ℕ) (best : ℤ) → other < l.number → HasBestScore l.lines l.cell best
      → HasTurnedScore l.lines l.cell other (turned (algebra_of l.lines).goal best) → ⊥;
}
