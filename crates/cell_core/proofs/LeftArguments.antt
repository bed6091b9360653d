-- How the arguments that are left change from step to step.
use Rattle.std.proofs.Common.{◌≡◌, ℕ, ◌<◌, Bool, true, false, not, ◌&&◌, nat_eq, List, [], ◌∷◌, refl, sym, subst, ap, ◌∙◌, arith}
use Rattle.std.specs.Prelude.{if◌then◌else◌}
use Rattle.std.specs.List.{AllByRecursion}
use Rattle.std.proofs.lemmas.Bool.{false≢true, and_parts, and_from, eqb-true, eq-eqb, not-true, not_from_true, not_from_false, false_from_ne_true}
use Rattle.adp_model.specs.declared.cell.Cell.{Cell}
use Rattle.adp_model.specs.PosedProblem.{PosedProblem}
use Rattle.memo_model.specs.declared.visit.Frame.{Frame}
use Rattle.adp_model.specs.SplitArguments.{SplitArgument}
use Rattle.memo_model.specs.Visits.{is_behind}
use Rattle.memo_model.specs.StepBound.{is_cell, is_left}

-- ---- cells

pub cell_from : (a b : Cell) → is_cell a b ≡ true → a ≡ b
cell_from a b e =
    let h = and_parts (nat_eq a.rule b.rule) (nat_eq a.from b.from && nat_eq a.to b.to) e in
    let k = and_parts (nat_eq a.from b.from) (nat_eq a.to b.to) h.1 in
    let r : a.rule ≡ b.rule = eqb-true a.rule b.rule h.0 in
    let f : a.from ≡ b.from = eqb-true a.from b.from k.0 in
    let t : a.to ≡ b.to = eqb-true a.to b.to k.1 in
    λ i. record { rule = r i; from = f i; to = t i }

pub cell_same : (a b : Cell) → a ≡ b → is_cell a b ≡ true
cell_same a b e =
    and_from (nat_eq a.rule b.rule) (nat_eq a.from b.from && nat_eq a.to b.to)
    (eq-eqb a.rule b.rule (ap (λ (c : Cell). c.rule) e))
    (and_from (nat_eq a.from b.from) (nat_eq a.to b.to) (eq-eqb a.from b.from (ap (λ (c : Cell). c.from) e))
    (eq-eqb a.to b.to (ap (λ (c : Cell). c.to) e)))

-- ---- arguments that are left

-- what passes the first test passes the second
abbrev pub Stay : (Cell → Bool) → (Cell → Bool) → Type 0
Stay knows knows' = (cell : Cell) → knows cell ≡ true → knows' cell ≡ true

either : (b x y y' : Bool) → (b ≡ false → y' ≡ true → y ≡ true) → (if b then x else y') ≡ true
    → (if b then x else y) ≡ true
either true x y y' h e = e
either false x y y' h e = h refl e

module _ {Probe : Type 0} (p : PosedProblem) where
  -- more is known
  pub left_known : (knows knows' : Cell → Bool) → Stay knows knows' → (frames : List (Frame Probe))
      (argument : SplitArgument) → is_left p knows' frames argument ≡ true → is_left p knows frames argument ≡ true
  left_known knows knows' stay [] argument e =
      let unknown : knows' argument.cell ≡ false = not-true (knows' argument.cell) e in
      not_from_false (knows argument.cell)
      (false_from_ne_true (knows argument.cell) (λ h. false≢true (sym unknown ∙ stay argument.cell h)))
  left_known knows knows' stay (frame ∷ below) argument e =
      either (is_cell argument.cell frame.visit.cell) (is_behind p frame.visit argument) (is_left p knows below argument)
      (is_left p knows' below argument) (λ other. left_known knows knows' stay below argument) e

  -- the top frame's position has moved on
  pub left_moved : (knows : Cell → Bool) (top top' : Frame Probe) (below : List (Frame Probe))
      → top'.visit.cell ≡ top.visit.cell
      → ((argument : SplitArgument) → argument.cell ≡ top.visit.cell → is_behind p top'.visit argument ≡ true
      → is_behind p top.visit argument ≡ true)
      → (argument : SplitArgument) → is_left p knows (top' ∷ below) argument ≡ true
      → is_left p knows (top ∷ below) argument ≡ true
  left_moved knows top top' below same on argument e =
      go (is_cell argument.cell top.visit.cell) refl
      (subst
      (λ c. (if is_cell argument.cell c then is_behind p top'.visit argument else is_left p knows below argument) ≡ true)
      same e)
    where
      go : (b : Bool) → is_cell argument.cell top.visit.cell ≡ b
          → (if b then is_behind p top'.visit argument else is_left p knows below argument) ≡ true
          → (if b then is_behind p top.visit argument else is_left p knows below argument) ≡ true
      go true here e = on argument (cell_from argument.cell top.visit.cell here) e
      go false other e = e

  module _ (height : Cell → ℕ) where
    -- all frames lie above the cell
    abbrev pub Above : Cell → List (Frame Probe) → Type 0
    Above cell frames = AllByRecursion (λ (frame : Frame Probe). height cell < height frame.visit.cell) frames

    -- none of the frames has the cell
    pub none_here : (knows : Cell → Bool) (cell : Cell) (frames : List (Frame Probe)) → Above cell frames
        → (argument : SplitArgument) → argument.cell ≡ cell
        → is_left p knows frames argument ≡ not (knows argument.cell)
    none_here knows cell [] above argument e = refl
    none_here knows cell (frame ∷ below) above argument e =
        go (is_cell argument.cell frame.visit.cell) refl (none_here knows cell below above.1 argument e)
      where
        go : (b : Bool) → is_cell argument.cell frame.visit.cell ≡ b
            → is_left p knows below argument ≡ not (knows argument.cell)
            → (if b then is_behind p frame.visit argument else is_left p knows below argument)
            ≡ not (knows argument.cell)
        go true here later =
            let same : cell ≡ frame.visit.cell = sym e ∙ cell_from argument.cell frame.visit.cell here in
            let l : height cell < height frame.visit.cell = above.0 in
            let s : height cell ≡ height frame.visit.cell = ap height same in
            absurd (omega arith)
        go false other later = later

    -- a cell is opened that is neither in a frame nor known
    pub left_opened : (knows : Cell → Bool) (top : Frame Probe) (below : List (Frame Probe))
        → Above top.visit.cell below → knows top.visit.cell ≡ false → (argument : SplitArgument)
        → is_left p knows (top ∷ below) argument ≡ true → is_left p knows below argument ≡ true
    left_opened knows top below above unknown argument e = go (is_cell argument.cell top.visit.cell) refl e
      where
        go : (b : Bool) → is_cell argument.cell top.visit.cell ≡ b
            → (if b then is_behind p top.visit argument else is_left p knows below argument) ≡ true
            → is_left p knows below argument ≡ true
        go true here e =
            let same : argument.cell ≡ top.visit.cell = cell_from argument.cell top.visit.cell here in
            none_here knows top.visit.cell below above argument same
            ∙ not_from_false (knows argument.cell) (ap knows same ∙ unknown)
        go false other e = e

    -- the top frame's cell has become known
    pub left_closed : (knows knows' : Cell → Bool) → Stay knows knows' → (top : Frame Probe)
        (below : List (Frame Probe)) → Above top.visit.cell below → knows' top.visit.cell ≡ true
        → (argument : SplitArgument) → is_left p knows' below argument ≡ true
        → is_left p knows (top ∷ below) argument ≡ true
    left_closed knows knows' stay top below above has argument e = go (is_cell argument.cell top.visit.cell) refl
      where
        go : (b : Bool) → is_cell argument.cell top.visit.cell ≡ b
            → (if b then is_behind p top.visit argument else is_left p knows below argument) ≡ true
        go true here =
            let same : argument.cell ≡ top.visit.cell = cell_from argument.cell top.visit.cell here in
            let is : knows' argument.cell ≡ true = ap knows' same ∙ has in
            absurd (false≢true (sym (not_from_true (knows' argument.cell) is)
            ∙ sym (none_here knows' top.visit.cell below above argument same) ∙ e))
        go false other = left_known knows knows' stay below argument e
