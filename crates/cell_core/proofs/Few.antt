-- How the frames that were opened and the wins compare with what the pass knows.
use Rattle.std.proofs.Common.{ℕ, ◌+◌, ◌≤◌, List, ◌∷◌, arith}
use Rattle.std.specs.List.{count_by}
use Rattle.adp_model.specs.declared.cell.Cell.{Cell}
use Rattle.memo_model.specs.declared.visit.Frame.{Frame}
use Rattle.adp_model.specs.PosedProblem.{PosedProblem}
use Rattle.adp_model.specs.Demand.{IsDemanded, AreDemanded}
use Rattle.memo_model.specs.Memos.{Meaning, StayKnown}
use Rattle.memo_model.specs.Machines.{is_known, KnowsSoMany, AreFewOpened}
use Rattle.cell_core.proofs.Counts.{count_le, count_less}
use Rattle.cell_core.proofs.Knowing.{stay_so, known_so, not_known_so}

module _ {Pass Probe : Type 0} (memo : Meaning Pass Probe) (p : PosedProblem) (pass pass' : Pass) (stay : StayKnown (memo.known pass) (memo.known pass')) where
  -- no fewer are known
  counted_more : (cells : List Cell) → count_by (is_known memo pass) cells ≤ count_by (is_known memo pass') cells
  counted_more cells = count_le (is_known memo pass) (is_known memo pass') cells (stay_so memo pass pass' stay)

  -- one more is known
  counted_one : (cells : List Cell) → AreDemanded p cells → (cell : Cell) → IsDemanded p cell → (memo.known pass cell → ⊥)
      → memo.known pass' cell → count_by (is_known memo pass) cells + 1 ≤ count_by (is_known memo pass') cells
  counted_one cells all cell demanded unknown has =
      count_less (is_known memo pass) (is_known memo pass') cells (stay_so memo pass pass' stay) cell
      (all.all cell demanded) (not_known_so memo pass cell unknown) (known_so memo pass' cell has)

  pub so_many : (number : ℕ) → KnowsSoMany memo p number pass → KnowsSoMany memo p number pass'
  so_many number few cells all = let f = few cells all in let l = counted_more cells in omega arith

  pub one_more : (number : ℕ) (cell : Cell) → IsDemanded p cell → (memo.known pass cell → ⊥) → memo.known pass' cell
      → KnowsSoMany memo p number pass → KnowsSoMany memo p (number + 1) pass'
  one_more number cell demanded unknown has few cells all =
      let f = few cells all in let l = counted_one cells all cell demanded unknown has in omega arith

  pub few_stay : (opened : ℕ) (frames : List (Frame Probe)) → AreFewOpened memo p opened frames pass
      → AreFewOpened memo p opened frames pass'
  few_stay opened frames few cells all = let f = few cells all in let l = counted_more cells in omega arith

  pub few_with_one_more : (opened : ℕ) (top : Frame Probe) (below : List (Frame Probe))
      → AreFewOpened memo p opened below pass → AreFewOpened memo p (opened + 1) (top ∷ below) pass'
  few_with_one_more opened top below few cells all = let f = few cells all in let l = counted_more cells in omega arith

  pub few_without : (opened : ℕ) (top : Frame Probe) (below : List (Frame Probe)) → IsDemanded p top.visit.cell
      → (memo.known pass top.visit.cell → ⊥) → memo.known pass' top.visit.cell
      → AreFewOpened memo p opened (top ∷ below) pass → AreFewOpened memo p opened below pass'
  few_without opened top below demanded unknown has few cells all =
      let f = few cells all in
      let l = counted_one cells all top.visit.cell demanded unknown has in
      omega arith
