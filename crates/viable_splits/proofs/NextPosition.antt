-- The cuts that are visited next: a later boundary moves, or this one does.
use Rattle.std.proofs.Common.{◌≡◌, ℕ, ◌+◌, ◌-◌, ◌<◌, ◌≤◌, inl, inr, List, [], ◌∷◌, length, take, drop, refl, sym, ap, subst, ◌∙◌, arith, slice_index, slice_set}
use Rattle.std.proofs.lemmas.List.{drop_more, set-get_or}
use Rattle.adp_model.specs.declared.grammar.Arg.{Arg}
use Rattle.adp_model.specs.declared.cell.Cell.{Cell}
use Rattle.adp_model.specs.PosedProblem.{PosedProblem}
use Rattle.adp_model.specs.Splits.{FitsSpan}
use Rattle.adp_model.specs.Walk.{rank_of, IsVisitedBefore}
use Rattle.viable_splits.specs.declared.cuts.Cuts.{Cuts}
use Rattle.viable_splits.specs.Placing.{on_span, Divide, HasNoneBehind, IsFirstBehind, IsNextFrom, IsLastFrom}
use Rattle.viable_splits.proofs.TurnedRanks.{rank_same}
use Rattle.viable_splits.proofs.Dividing.{divide_first, divide_later, divide_both, divide_forward, moved_boundary, kept_before}
use Rattle.viable_splits.proofs.FirstPosition.{visited_before, visited_by}

-- what is known where cuts stand
pub record Standing (p : PosedProblem) (cell : Cell) (argument : Arg) (later : List Arg) (from number : ℕ) (cuts : Cuts) : Type 0 where
  pub after : cell.from ≤ from
  pub some : 0 < length later
  pub boundary : number < 3
  pub at_three : length cuts.at ≡ 3
  pub turns_three : length cuts.turns ≡ 3
  pub turned : slice_index cuts.turns number ≤ cell.to - cell.from
  pub divides : Divide p (argument ∷ later) from cell.to (drop number cuts.at)

module _ (p : PosedProblem) (cell : Cell) (argument : Arg) (later : List Arg) (from number : ℕ) (cuts : Cuts) (stand : Standing p cell argument later from number cuts) where
  abbrev position : ℕ
  position = slice_index cuts.at number

  abbrev turn : ℕ
  turn = slice_index cuts.turns number

  turns_at : drop number cuts.turns ≡ turn ∷ drop (number + 1) cuts.turns
  turns_at = drop_more cuts.turns number 0 (omega (arith, stand.boundary, stand.turns_three))

  cuts_at : drop number cuts.at ≡ position ∷ drop (number + 1) cuts.at
  cuts_at = drop_more cuts.at number 0 (omega (arith, stand.boundary, stand.at_three))

  divides_here : Divide p (argument ∷ later) from cell.to (position ∷ drop (number + 1) cuts.at)
  divides_here = subst (Divide p (argument ∷ later) from cell.to) cuts_at stand.divides

  fits_here : FitsSpan p (on_span argument from position)
  fits_here = divide_first p argument later from cell.to position (drop (number + 1) cuts.at) stand.some divides_here

  pub later_divide : Divide p later position cell.to (drop (number + 1) cuts.at)
  later_divide = divide_later p argument later from cell.to position (drop (number + 1) cuts.at) stand.some divides_here

  pub position_after : cell.from ≤ position
  position_after = omega (arith, stand.after, fits_here.0.in_order)

  pub position_before : position ≤ cell.to
  position_before = divide_forward p later position cell.to (drop (number + 1) cuts.at) stand.some later_divide

  -- another boundary of the same rank is the same
  same_position : (cut : ℕ) (others : List ℕ) → Divide p (argument ∷ later) from cell.to (cut ∷ others) → rank_of cell turn cut ≡ rank_of cell turn position → cut ≡ position
  same_position cut others h e =
      let fits = divide_first p argument later from cell.to cut others stand.some h in
      let last = divide_forward p later cut cell.to others stand.some (divide_later p argument later from cell.to cut others stand.some h) in
      rank_same cell turn cut position stand.turned (omega (arith, stand.after, fits.0.in_order)) last position_after position_before e

  -- the others from there, where it is the same
  others_divide : (cut : ℕ) (others : List ℕ) → Divide p (argument ∷ later) from cell.to (cut ∷ others) → cut ≡ position → Divide p later position cell.to others
  others_divide cut others h e = subst (λ c. Divide p later c cell.to others) e (divide_later p argument later from cell.to cut others stand.some h)

  module _ (found : Cuts) (there : IsNextFrom p cell later position (number + 1) cuts found) where
    kept_as_moved : take (number + 1) found.at ≡ take (number + 1) (slice_set cuts.at number position)
    kept_as_moved = there.continues.kept ∙ ap (take (number + 1)) (sym (set-get_or cuts.at number 0))

    found_at : drop number found.at ≡ position ∷ drop (number + 1) found.at
    found_at = moved_boundary found.at cuts.at number position (omega (arith, stand.boundary, stand.at_three)) (there.continues.three ∙ sym stand.at_three) kept_as_moved

    none_between : (others : List ℕ) → length others + number ≡ 3 → Divide p (argument ∷ later) from cell.to others → IsVisitedBefore cell (drop number cuts.turns) (drop number cuts.at) others → IsVisitedBefore cell (drop number cuts.turns) others (drop number found.at) → ⊥
    none_between [] l h behind before = omega (arith, stand.boundary)
    none_between (cut ∷ others) l h behind before =
        let low = visited_before cell (drop number cuts.turns) (drop number cuts.at) (cut ∷ others) turn position cut (drop (number + 1) cuts.turns) (drop (number + 1) cuts.at) others turns_at cuts_at refl behind in
        let high = visited_before cell (drop number cuts.turns) (cut ∷ others) (drop number found.at) turn cut position (drop (number + 1) cuts.turns) others (drop (number + 1) found.at) turns_at refl found_at before in
        elim low [
          | inl greater ↦ elim high [ inl lesser ↦ omega arith | inr equal ↦ omega (arith, equal.0) ]
          | inr equal ↦ elim high [
            | inl lesser ↦ omega (arith, equal.0)
            | inr also ↦ there.next others (omega arith) (others_divide cut others h (same_position cut others h also.0)) equal.1 also.1
          ]
        ]

    -- a later boundary moves
    pub next_later : IsNextFrom p cell (argument ∷ later) from number cuts found
    next_later =
        record {
          continues = record {
            turns = there.continues.turns;
            three = there.continues.three;
            kept = kept_before found.at cuts.at number position (omega (arith, stand.boundary, stand.at_three)) kept_as_moved;
            divides = subst (Divide p (argument ∷ later) from cell.to) (sym found_at) (divide_both p argument later from cell.to position (drop (number + 1) found.at) stand.some fits_here there.continues.divides);
          };
          behind = visited_by cell (drop number cuts.turns) (drop number cuts.at) (drop number found.at) turn position position (drop (number + 1) cuts.turns) (drop (number + 1) cuts.at) (drop (number + 1) found.at) turns_at cuts_at found_at (inr (refl, there.behind));
          next = none_between;
        }

  module _ (last : IsLastFrom p cell later position (number + 1) cuts) where
    -- other cuts that come behind have a greater rank at this boundary
    greater_here : (cut : ℕ) (others : List ℕ) → length others + (number + 1) ≡ 3 → Divide p (argument ∷ later) from cell.to (cut ∷ others) → IsVisitedBefore cell (drop number cuts.turns) (drop number cuts.at) (cut ∷ others) → rank_of cell turn position < rank_of cell turn cut
    greater_here cut others l h behind =
        elim (visited_before cell (drop number cuts.turns) (drop number cuts.at) (cut ∷ others) turn position cut (drop (number + 1) cuts.turns) (drop (number + 1) cuts.at) others turns_at cuts_at refl behind) [
          | inl greater ↦ greater
          | inr equal ↦ absurd (last others l (others_divide cut others h (same_position cut others h (sym equal.0))) equal.1)
        ]

    module _ (found : Cuts) (first : IsFirstBehind p cell (argument ∷ later) from number (rank_of cell turn position + 1) cuts found) where
      none_sooner : (others : List ℕ) → length others + number ≡ 3 → Divide p (argument ∷ later) from cell.to others → IsVisitedBefore cell (drop number cuts.turns) (drop number cuts.at) others → IsVisitedBefore cell (drop number cuts.turns) others (drop number found.at) → ⊥
      none_sooner [] l h behind before = omega (arith, stand.boundary)
      none_sooner (cut ∷ others) l h behind before =
          let greater = greater_here cut others (omega arith) h behind in
          first.first (cut ∷ others) l h (omega arith) before

      -- this boundary moves
      pub next_here : IsNextFrom p cell (argument ∷ later) from number cuts found
      next_here =
          let found_at = drop_more found.at number 0 (omega (arith, stand.boundary, first.continues.three)) in
          record {
            continues = first.continues;
            behind = visited_by cell (drop number cuts.turns) (drop number cuts.at) (drop number found.at) turn position (slice_index found.at number) (drop (number + 1) cuts.turns) (drop (number + 1) cuts.at) (drop (number + 1) found.at) turns_at cuts_at found_at (inl (omega (arith, first.behind)));
            next = none_sooner;
          }

    -- no boundary moves
    pub last_here : HasNoneBehind p cell (argument ∷ later) from number (rank_of cell turn position + 1) cuts.turns → IsLastFrom p cell (argument ∷ later) from number cuts
    last_here none [] l h behind = omega (arith, stand.boundary)
    last_here none (cut ∷ others) l h behind =
        let greater = greater_here cut others (omega arith) h behind in
        none (cut ∷ others) l h (omega arith)
