-- The first position of a boundary from which the rest can be divided: first those from the turn on, then those before it.
use Rattle.std.proofs.Common.{◌≡◌, ℕ, ◌+◌, ◌-◌, ◌<◌, ◌≤◌, ◌⊎◌, inl, inr, min, max, List, [], ◌∷◌, length, drop, refl, sym, subst, ◌∙◌, arith, slice_index}
use Rattle.std.proofs.lemmas.List.{drop_more}
use Rattle.std.proofs.lemmas.Bool.{cases_lt}
use Rattle.adp_model.specs.declared.grammar.Arg.{Arg}
use Rattle.adp_model.specs.declared.cell.Cell.{Cell}
use Rattle.adp_model.specs.PosedProblem.{PosedProblem}
use Rattle.adp_model.specs.Splits.{FitsSpan}
use Rattle.adp_model.specs.Walk.{rank_of, IsVisitedBefore}
use Rattle.viable_splits.specs.declared.cuts.Cuts.{Cuts}
use Rattle.viable_splits.specs.Placing.{on_span, rank_at, moved, ArePositions, Divide, HasNoneBehind, IsFirstBehind, IsFirstWithin, HasNoneWithin}
use Rattle.viable_splits.proofs.TurnedRanks.{rank_before, rank_after, rank_same}
use Rattle.viable_splits.proofs.Dividing.{divide_first, divide_later, divide_both, divide_forward, divide_cover, moved_boundary, kept_before}

-- what is known where a boundary is looked for
pub record Looking (p : PosedProblem) (cell : Cell) (argument : Arg) (later : List Arg) (from number start end : ℕ) (cuts : Cuts) : Type 0 where
  pub after : cell.from ≤ from
  pub some : 0 < length later
  pub boundary : number < 3
  pub at_three : length cuts.at ≡ 3
  pub turns_three : length cuts.turns ≡ 3
  pub turned : slice_index cuts.turns number ≤ cell.to - cell.from
  pub few : length later + number ≤ 3
  pub positions : ArePositions p argument later from cell.to (record { start = start; end = end })

-- one boundary of two that are compared, then the others
pub visited_before : (cell : Cell) (turns cuts others : List ℕ) (turn cut other : ℕ) (later_turns later_cuts later_others : List ℕ) → turns ≡ turn ∷ later_turns → cuts ≡ cut ∷ later_cuts → others ≡ other ∷ later_others → IsVisitedBefore cell turns cuts others → (rank_of cell turn cut < rank_of cell turn other) ⊎ ((rank_of cell turn cut ≡ rank_of cell turn other) × IsVisitedBefore cell later_turns later_cuts later_others)
visited_before cell turns cuts others turn cut other later_turns later_cuts later_others turns_are cuts_are others_are before =
    let by_turns = subst (λ t. IsVisitedBefore cell t cuts others) turns_are before in
    let by_cuts = subst (λ c. IsVisitedBefore cell (turn ∷ later_turns) c others) cuts_are by_turns in
    subst (λ o. IsVisitedBefore cell (turn ∷ later_turns) (cut ∷ later_cuts) o) others_are by_cuts

-- and back
pub visited_by : (cell : Cell) (turns cuts others : List ℕ) (turn cut other : ℕ) (later_turns later_cuts later_others : List ℕ) → turns ≡ turn ∷ later_turns → cuts ≡ cut ∷ later_cuts → others ≡ other ∷ later_others → (rank_of cell turn cut < rank_of cell turn other) ⊎ ((rank_of cell turn cut ≡ rank_of cell turn other) × IsVisitedBefore cell later_turns later_cuts later_others) → IsVisitedBefore cell turns cuts others
visited_by cell turns cuts others turn cut other later_turns later_cuts later_others turns_are cuts_are others_are before =
    let by_others = subst (λ o. IsVisitedBefore cell (turn ∷ later_turns) (cut ∷ later_cuts) o) (sym others_are) before in
    let by_cuts = subst (λ c. IsVisitedBefore cell (turn ∷ later_turns) c others) (sym cuts_are) by_others in
    subst (λ t. IsVisitedBefore cell t cuts others) (sym turns_are) by_cuts

module _ (p : PosedProblem) (cell : Cell) (argument : Arg) (later : List Arg) (from number start end : ℕ) (cuts : Cuts) (look : Looking p cell argument later from number start end cuts) where
  -- the turn of the boundary, then the others
  turns_at : drop number cuts.turns ≡ slice_index cuts.turns number ∷ drop (number + 1) cuts.turns
  turns_at = drop_more cuts.turns number 0 (omega (arith, look.boundary, look.turns_three))

  -- cuts that divide begin with a position at which the argument may end
  record Begun (cut : ℕ) (others : List ℕ) : Type 0 where
    fits : FitsSpan p (on_span argument from cut)
    divides : Divide p later cut cell.to others
    low : start ≤ cut
    high : cut < end
    last : cut ≤ cell.to
    first : cell.from ≤ cut

  begun : (cut : ℕ) (others : List ℕ) → length others + (number + 1) ≡ 3 → Divide p (argument ∷ later) from cell.to (cut ∷ others) → Begun cut others
  begun cut others many h =
      let fits = divide_first p argument later from cell.to cut others look.some h in
      let divides = divide_later p argument later from cell.to cut others look.some h in
      let last = divide_forward p later cut cell.to others look.some divides in
      let between = look.positions.none_missed cut fits (divide_cover p later cut cell.to others look.some (omega (arith, look.few)) divides) in
      record {
        fits = fits;
        divides = divides;
        low = between.0;
        high = between.1;
        last = last;
        first = omega (arith, look.after, fits.0.in_order);
      }

  -- nothing divides the rest from positions of lesser rank
  abbrev NoneOfLesserRank : ℕ → ℕ → Type 0
  NoneOfLesserRank least_rank position =
      (cut : ℕ) → start ≤ cut → cut < end → cell.from ≤ cut → cut ≤ cell.to
      → least_rank ≤ rank_at cell cuts.turns number cut
      → rank_at cell cuts.turns number cut < rank_at cell cuts.turns number position
      → HasNoneBehind p cell later cut (number + 1) 0 cuts.turns

  module _ (least_rank position : ℕ) (found : Cuts) (low : start ≤ position) (high : position < end) (ranked : least_rank ≤ rank_at cell cuts.turns number position) (there : IsFirstBehind p cell later position (number + 1) 0 (moved cuts number position) found) (none : NoneOfLesserRank least_rank position) where
    found_at : drop number found.at ≡ position ∷ drop (number + 1) found.at
    found_at = moved_boundary found.at cuts.at number position (omega (arith, look.boundary, look.at_three)) (there.continues.three ∙ sym look.at_three) there.continues.kept

    found_here : slice_index found.at number ≡ position
    found_here =
        let e = drop_more found.at number 0 (omega (arith, look.boundary, there.continues.three)) in
        let f : slice_index found.at number ∷ drop (number + 1) found.at ≡ position ∷ drop (number + 1) found.at = sym e ∙ found_at in
        cc

    position_last : position ≤ cell.to
    position_last = divide_forward p later position cell.to (drop (number + 1) found.at) look.some there.continues.divides

    none_first : (others : List ℕ) → length others + number ≡ 3 → Divide p (argument ∷ later) from cell.to others → least_rank ≤ rank_at cell cuts.turns number (slice_index others 0) → IsVisitedBefore cell (drop number cuts.turns) others (drop number found.at) → ⊥
    none_first [] l h r before = omega (arith, look.boundary)
    none_first (cut ∷ others) l h r before =
        let many : length others + (number + 1) ≡ 3 = omega arith in
        let b = begun cut others many h in
        elim (visited_before cell (drop number cuts.turns) (cut ∷ others) (drop number found.at) (slice_index cuts.turns number) cut position (drop (number + 1) cuts.turns) others (drop (number + 1) found.at) turns_at refl found_at before) [
          | inl lesser ↦ none cut b.low b.high b.first b.last r lesser others many b.divides (omega arith)
          | inr equal ↦
              let same = rank_same cell (slice_index cuts.turns number) cut position look.turned b.first b.last (omega (arith, low, look.positions.behind, look.after)) position_last equal.0 in
              there.first others many (subst (λ c. Divide p later c cell.to others) same b.divides) (omega arith) equal.1
        ]

    first_from_position : IsFirstBehind p cell (argument ∷ later) from number least_rank cuts found
    first_from_position =
        record {
          continues = record {
            turns = there.continues.turns;
            three = there.continues.three;
            kept = kept_before found.at cuts.at number position (omega (arith, look.boundary, look.at_three)) there.continues.kept;
            divides = subst (Divide p (argument ∷ later) from cell.to) (sym found_at) (divide_both p argument later from cell.to position (drop (number + 1) found.at) look.some (look.positions.fit position low high) there.continues.divides);
          };
          behind = subst (λ n. least_rank ≤ rank_at cell cuts.turns number n) (sym found_here) ranked;
          first = none_first;
        }

  -- where the boundary's turn begins
  abbrev pivot : ℕ
  pivot = cell.from + slice_index cuts.turns number

  -- a position from the turn on
  pub first_ahead : (least_rank ahead : ℕ) (found : Cuts) → ahead ≡ max start (pivot + least_rank) → IsFirstWithin p cell later ahead end number cuts found → IsFirstBehind p cell (argument ∷ later) from number least_rank cuts found
  first_ahead least_rank ahead found ahead_is w =
      let turn = slice_index cuts.turns number in
      let within : w.position ≤ cell.to = omega (arith, w.high, look.positions.up_to_last) in
      let rank_position = rank_after cell turn w.position look.turned within (omega (arith, w.low)) in
      first_from_position least_rank w.position found (omega (arith, w.low)) w.high (omega (arith, w.low, rank_position)) w.there
      (λ cut low high first last ranked lesser.
      elim (cases_lt cut pivot) [
        | inl before ↦ absurd (omega (arith, rank_before cell turn cut look.turned first before, rank_position, look.turned))
        | inr after ↦
            let rank_cut = rank_after cell turn cut look.turned last after in
            w.none_before cut (omega arith) (omega (arith, w.low))
      ])

  -- a position before the turn
  pub first_wrapped : (least_rank ahead wrapped before_turn : ℕ) (found : Cuts) → ahead ≡ max start (pivot + least_rank) → wrapped ≡ max start (cell.from + (least_rank - (cell.to + 1 - pivot))) → before_turn ≡ min end pivot → HasNoneWithin p cell later ahead end number cuts.turns → IsFirstWithin p cell later wrapped before_turn number cuts found → IsFirstBehind p cell (argument ∷ later) from number least_rank cuts found
  first_wrapped least_rank ahead wrapped before_turn found ahead_is wrapped_is before_turn_is none w =
      let turn = slice_index cuts.turns number in
      let before : w.position < pivot = omega (arith, w.high) in
      let first : cell.from ≤ w.position = omega (arith, w.low) in
      let rank_position = rank_before cell turn w.position look.turned first before in
      first_from_position least_rank w.position found (omega (arith, w.low)) (omega (arith, w.high)) (omega (arith, w.low, rank_position, look.turned)) w.there
      (λ cut low high first_cut last ranked lesser.
      elim (cases_lt cut pivot) [
        | inl before_cut ↦
            let rank_cut = rank_before cell turn cut look.turned first_cut before_cut in
            w.none_before cut (omega (arith, look.turned)) (omega (arith, look.turned))
        | inr after ↦
            let rank_cut = rank_after cell turn cut look.turned last after in
            none cut (omega arith) high
      ])

  -- no position at all
  pub none_either : (least_rank ahead wrapped before_turn : ℕ) → ahead ≡ max start (pivot + least_rank) → wrapped ≡ max start (cell.from + (least_rank - (cell.to + 1 - pivot))) → before_turn ≡ min end pivot → HasNoneWithin p cell later ahead end number cuts.turns → HasNoneWithin p cell later wrapped before_turn number cuts.turns → HasNoneBehind p cell (argument ∷ later) from number least_rank cuts.turns
  none_either least_rank ahead wrapped before_turn ahead_is wrapped_is before_turn_is none_ahead none_wrapped [] l h r = omega (arith, look.boundary)
  none_either least_rank ahead wrapped before_turn ahead_is wrapped_is before_turn_is none_ahead none_wrapped (cut ∷ others) l h r =
      let many : length others + (number + 1) ≡ 3 = omega arith in
      let b = begun cut others many h in
      let turn = slice_index cuts.turns number in
      elim (cases_lt cut pivot) [
        | inl before ↦
            let rank_cut = rank_before cell turn cut look.turned b.first before in
            none_wrapped cut (omega (arith, look.turned, b.low, b.first)) (omega (arith, b.high)) others many b.divides (omega arith)
        | inr after ↦
            let rank_cut = rank_after cell turn cut look.turned b.last after in
            none_ahead cut (omega (arith, b.low)) b.high others many b.divides (omega arith)
      ]
