-- What a step does to a machine's frames, and to its wins.
use Rattle.std.specs.Prelude.{◌≡◌, ℕ, ◌+◌, ◌-◌, ◌<◌, ◌≤◌, ◌⊎◌, List, [], ◌∷◌, map, length}
use Rattle.std.specs.List.{Contains}
use Rattle.adp_model.specs.declared.cell.Cell.{Cell}
use Rattle.memo_model.specs.declared.visit.Frame.{Frame}
use Rattle.adp_model.specs.PosedProblem.{PosedProblem}
use Rattle.adp_model.specs.Parts.{alternatives_of}
use Rattle.memo_model.specs.Memos.{Meaning, HasLoaded, HasExchanged}
use Rattle.rand_pcg.specs.Lcg.{Lcg}
use Rattle.random_orders.specs.Draws.{drawn_turns}

-- what of a frame stays from its opening on: its cell and its four turns
pub record Opening : Type 0 where
  pub cell : Cell
  pub first : ℕ
  pub turns : List ℕ

abbrev pub opening_of : {Probe : Type 0} → Frame Probe → Opening
opening_of frame = record { cell = frame.visit.cell; first = frame.visit.first; turns = frame.visit.turns }

-- the frames of a machine by their openings, from the top down, how many it opened, and its orders
pub record Standing : Type 0 where
  pub openings : List Opening
  pub opened : ℕ
  pub orders : Lcg

abbrev pub standing : {Probe : Type 0} → List (Frame Probe) → ℕ → Lcg → Standing
standing frames opened orders = record { openings = map opening_of frames; opened = opened; orders = orders }

-- the numbers below which the four turns of an opened cell are drawn, in this order: that of the rule's alternatives,
-- and for each boundary one more than the cell's length
abbrev pub turn_bounds : PosedProblem → Cell → List ℕ
turn_bounds p cell =
    let positions = cell.to - cell.from + 1 in
    length (alternatives_of p.grammar cell.rule) ∷ positions ∷ positions ∷ positions ∷ []

module _ {Pass Probe : Type 0} (memo : Meaning Pass Probe) where
  -- a frame was added: the step found nothing published for its cell, which isn't known and in no frame, and drew its
  -- four turns
  pub record IsFrameAdded (p : PosedProblem) (pass pass' : Pass) (before after : Standing) : Type 0 where
    pub opening : Opening
    pub added : after.openings ≡ opening ∷ before.openings
    pub unpublished : HasLoaded memo pass' opening.cell 0
    pub not_known : memo.known pass' opening.cell → ⊥
    pub in_no_frame : (other : Opening) → Contains before.openings other → other.cell ≡ opening.cell → ⊥
    pub turns : (opening.first ∷ opening.turns, after.orders) ≡ drawn_turns (turn_bounds p opening.cell) before.orders
    pub opened : after.opened ≡ before.opened + 1

  -- the step was the last one of a publication: it exchanged the cell's record word, and the wins of the pass rose by
  -- one where it found 0 there, and not where it found another value
  pub record EndsPublication (pass pass' : Pass) (cell : Cell) : Type 0 where
    pub found : ℕ
    pub on_word : HasExchanged memo pass' cell found
    pub won : found ≡ 0 → memo.wins pass' ≡ memo.wins pass + 1
    pub lost : 0 < found → memo.wins pass' ≡ memo.wins pass

  -- the top frame has left: its cell is published and known
  pub record IsFrameGone (pass pass' : Pass) (before after : Standing) : Type 0 where
    pub opening : Opening
    pub gone : before.openings ≡ opening ∷ after.openings
    pub published : EndsPublication pass pass' opening.cell
    pub known : memo.known pass' opening.cell
    pub opened : after.opened ≡ before.opened
    pub orders : after.orders ≡ before.orders

  -- all is as it was, or one of these two
  abbrev pub ChangesFrames : PosedProblem → Pass → Pass → Standing → Standing → Type 0
  ChangesFrames p pass pass' before after =
      (after ≡ before) ⊎ (IsFrameAdded p pass pass' before after ⊎ IsFrameGone pass pass' before after)

  -- the wins of the pass and those of the machine rise by the same number, 0 or 1
  abbrev pub GainsWins : Pass → Pass → ℕ → ℕ → Type 0
  GainsWins pass pass' wins wins' =
      (won : ℕ) × (won ≤ 1) × (memo.wins pass' ≡ memo.wins pass + won) × (wins' ≡ wins + won)
