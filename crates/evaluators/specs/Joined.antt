-- What is left of workers, the first of which has done its work, once their passes are one.
use Rattle.std.specs.Prelude.{◌≡◌, ℕ, ◌⊎◌, List, sum, map, vec_len}
use Rattle.adp_model.specs.declared.cell.Cell.{Cell}
use Rattle.adp_model.specs.PosedProblem.{axiom_cell}
use Rattle.adp_model.specs.Demand.{IsDemanded}
use Rattle.memo_words.specs.declared.words.Words.{Words}
use Rattle.memo_words.specs.Passes.{IsPassOf, view_of, marks_of, plan_of, problem_of}
use Rattle.memo_table.specs.Meanings.{knows}
use Rattle.history_table.specs.declared.history.Mark.{Mark}
use Rattle.memo_words.specs.Layout.{slots_of}
use Rattle.evaluators.specs.declared.crew.Leavings.{Leavings}
use Rattle.evaluators.specs.Steps.{AreStepsOfEach, together}
use Rattle.evaluators.specs.Runs.{AreMachinesFrom, HasFirstEnded, wins_of}

-- the pass stands for so many workers and has won what they won, it knows the axiom's cell or no cell is demanded, the
-- machines are those of the workers by their numbers, and the pass has the steps of all of them
pub record IsJoined (words : Words) (seed count : ℕ) (left : Leavings) : Type 0 where
  pub own : IsPassOf words left.pass
  pub weight : (view_of left.pass).weight ≡ count
  pub spare : (view_of left.pass).spare ≡ 0
  pub wins : (view_of left.pass).wins ≡ sum left.wins.items
  pub wins_are : left.wins.items ≡ map wins_of left.machines.items
  pub lists : List (List Mark)
  pub steps : AreStepsOfEach (slots_of (plan_of words)) left.machines.items lists
  pub marks : marks_of left.pass ≡ together lists
  pub machines : AreMachinesFrom (problem_of words) seed 0 left.machines.items
  pub number : vec_len left.machines ≡ count
  pub first : HasFirstEnded left.machines.items
  pub whole : knows left.pass (axiom_cell (problem_of words)) ⊎ ((cell : Cell) → IsDemanded (problem_of words) cell → ⊥)
