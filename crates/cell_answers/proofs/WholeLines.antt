-- The arguments of a line with the tokens behind them, laid from `from` to `to`.
use Rattle.std.proofs.Common.{◌≡◌, ℕ, ◌+◌, ◌-◌, ◌<◌, ◌≤◌, ℤ, ◌+ℤ◌, nat_abs, Option, Some, None, List, [], ◌∷◌, ◌++◌}
use Rattle.std.proofs.Common.{length, get_or, refl, sym, ap, subst, ◌∙◌, inl, inr, arith}
use Rattle.std.specs.Prelude.{IsSome, slice_get}
use Rattle.std.specs.List.{AllByRecursion, AllAdjacentBelow, Contains}
use Rattle.std.proofs.lemmas.Int.{ints}
use Rattle.std.proofs.lemmas.List.{length-append, get_or_default}
use Rattle.std.proofs.lemmas.List.Elements.{Contains-get_or}
use Rattle.std.proofs.lemmas.List.Sorted.{IsNonDecreasingBy-from_all_adjacent}
use Rattle.adp_model.specs.declared.grammar.Arg.{Arg}
use Rattle.adp_model.specs.declared.grammar.Arg.TheVariants.{Rule}
use Rattle.adp_model.specs.declared.cell.Cell.{Cell}
use Rattle.adp_model.specs.PosedProblem.{PosedProblem}
use Rattle.adp_model.specs.ProblemFields.{greatest_score}
use Rattle.adp_model.specs.Splits.{FitsSpan}
use Rattle.adp_model.specs.Bellman.{HasBestScore}
use Rattle.viable_splits.specs.Placing.{on_span, Cover}
use Rattle.split_lines.specs.declared.lines.Boundary.{Boundary}
use Rattle.cell_answers.specs.declared.opened.LineArguments.{LineArguments}
use Rattle.cell_answers.specs.Opened.{parts_with}
use Rattle.split_lines.specs.Laid.{IsFixed, Demands, AreBoundaries}
use Rattle.cell_tables.specs.Tables.{Table}
use Rattle.cell_answers.specs.Entries.{HasEntry, IsEntry}
use Rattle.cell_answers.specs.Rows.{HasEntryAt}
use Rattle.cell_tables.specs.Spans.{Spans, value_at}
use Rattle.cell_answers.specs.Totals.{HasTotal, AreLow, AreWeighted}
use Rattle.score_numbers.specs.Greatest.{IsGreatestOf}
use Rattle.cell_answers.proofs.Totalling.{values_cover}
use Rattle.cell_answers.proofs.FirstEnds.{AreLaid, AreSound, total_low}
use Rattle.cell_answers.proofs.LineTotals.{AreTotals, totals_parted, totals_joined, low_front, low_back, fixed_total_unique}
use Rattle.cell_answers.proofs.FrontPositions.{weighted_front, weighted_back}

-- ---- entries side by side

-- among the values of a rule from the far end `first` on, that of a cell with an entry
pub entry_among : (p : PosedProblem) (spans : Spans ℤ) (rule near first far : ℕ) (entry : ℤ) (scores : List ℤ)
    (cell : Cell) → first ≤ far → slice_get scores (far - first) ≡ value_at spans rule near far
    → value_at spans rule near far ≡ Some entry → IsEntry p cell entry → HasEntryAt p scores first far cell
entry_among p spans rule near first far entry scores cell l read there is_entry =
    record { from_first = l; entry = entry; there = read ∙ there; is_entry = is_entry }

pub some_value_at : (found : Option ℤ) (entry : ℤ) → found ≡ Some entry → IsSome found
some_value_at None entry e = absurd cc
some_value_at (Some found) entry e = refl

-- in positions that rise each lies between the first one and the last one
pub between_ends : (positions : List ℕ) (position : ℕ)
    → AllAdjacentBelow (λ (a b : ℕ). a < b) positions (length positions) → Contains positions position
    → (get_or positions 0 0 ≤ position) × (position ≤ get_or positions (length positions - 1) 0)
between_ends positions position rising stands =
    let sorted = IsNonDecreasingBy-from_all_adjacent (λ (n : ℕ). n) positions (λ k d l. let rise = rising k d l in omega arith) in
    let at : get_or positions stands.0 0 ≡ position = get_or_default positions stands.0 0 position stands.1 ∙ stands.2 in
    let low = sorted 0 stands.0 0 (omega arith) stands.1 in
    let high = sorted stands.0 (length positions - 1) 0 (omega (arith, stands.1)) (omega (arith, stands.1)) in
    (omega arith, omega arith)

pub first_stands : (positions : List ℕ) → 0 < length positions → Contains positions (get_or positions 0 0)
first_stands positions l = Contains-get_or positions 0 0 l

pub last_stands : (positions : List ℕ) → 0 < length positions → Contains positions (get_or positions (length positions - 1) 0)
last_stands positions l = Contains-get_or positions (length positions - 1) 0 (omega arith)

-- ---- the arguments of a line

regroup : {X : Type 0} (xs ys : List X) (x : X) → (xs ++ x ∷ []) ++ ys ≡ xs ++ x ∷ ys
regroup [] ys x = refl
regroup (y ∷ xs) ys x = ap (λ zs. y ∷ zs) (regroup xs ys x)

covers_joined : (p : PosedProblem) (front back : List Arg) (from middle to : ℕ) → Cover p front from middle
    → Cover p back middle to → Cover p (front ++ back) from to
covers_joined p [] back from middle to covers more = subst (λ n. Cover p back n to) (sym covers) more
covers_joined p (argument ∷ front) back from middle to covers more = (covers.0, covers.1, covers_joined p front back covers.0 middle to covers.2 more)

pub demands_back : (p : PosedProblem) (front back : List Arg) (from middle to : ℕ) (cell : Cell)
    → Cover p front from middle → Demands p back middle to cell → Demands p (front ++ back) from to cell
demands_back p [] back from middle to cell covers demands = subst (λ n. Demands p back n to cell) (sym covers) demands
demands_back p (argument ∷ front) back from middle to cell covers demands =
    (covers.0, covers.1, inr (demands_back p front back covers.0 middle to cell covers.2 demands))

-- what is known of the arguments of a line
pub record IsWhole (p : PosedProblem) (table : Table ℤ) (line : LineArguments) (from to : ℕ) (boundary : Boundary) : Type 0 where
  pub laid : AreLaid p table (line.first.now ∷ (line.middle.now ++ line.second.now ∷ line.tail.now))
      (line.first_factor ∷ (line.middle_factors.now ++ line.second_factor ∷ line.tail_factors.now)) from to
  pub each : length line.middle_factors.now ≡ length line.middle.now
  pub middle_fixed : AllByRecursion IsFixed line.middle.now
  pub tail_fixed : AllByRecursion IsFixed line.tail.now
  pub positions : AreBoundaries p (parts_with line line.tail.now) from to boundary.letters boundary.last boundary.positions.now

-- what is known of them up to the second one of open length
pub record IsFront (p : PosedProblem) (line : LineArguments) (from : ℕ) (boundary : Boundary) : Type 0 where
  pub weighted : AreWeighted p (line.first.now ∷ (line.middle.now ++ line.second.now ∷ []))
      (line.first_factor ∷ (line.middle_factors.now ++ line.second_factor ∷ []))
  pub positions : AreBoundaries p (parts_with line []) from boundary.last boundary.letters boundary.last boundary.positions.now
  pub low : AreLow p (line.first.now ∷ (line.middle.now ++ line.second.now ∷ []))
      (line.first_factor ∷ (line.middle_factors.now ++ line.second_factor ∷ [])) from boundary.last

module _ (p : PosedProblem) (table : Table ℤ) (line : LineArguments) (from to : ℕ) (boundary : Boundary) (whole : IsWhole p table line from to boundary) where
  open line use {
    first.{now as first},
    first_factor,
    middle.{now as middle},
    middle_factors.{now as middle_factors},
    second.{now as second},
    second_factor,
    tail.{now as tail},
    tail_factors.{now as tail_factors},
  }
  open boundary use {letters, last, positions.{now as positions}}

  abbrev front : List Arg
  front = first ∷ (middle ++ second ∷ [])

  abbrev front_factors : List ℤ
  front_factors = first_factor ∷ (middle_factors ++ second_factor ∷ [])

  arguments_are : front ++ tail ≡ first ∷ (middle ++ second ∷ tail)
  arguments_are = ap (λ xs. first ∷ xs) (regroup middle tail second)

  factors_are : front_factors ++ tail_factors ≡ first_factor ∷ (middle_factors ++ second_factor ∷ tail_factors)
  factors_are = ap (λ xs. first_factor ∷ xs) (regroup middle_factors tail_factors second_factor)

  front_each : length front_factors ≡ length front
  front_each = omega (arith, whole.each, length-append middle (second ∷ []), length-append middle_factors (second_factor ∷ []))

  all_weighted : AreWeighted p (front ++ tail) (front_factors ++ tail_factors)
  all_weighted =
      subst (λ xs. AreWeighted p xs (front_factors ++ tail_factors)) (sym arguments_are)
      (subst (λ ys. AreWeighted p (first ∷ (middle ++ second ∷ tail)) ys) (sym factors_are) whole.laid.weighted)

  all_low : AreLow p (front ++ tail) (front_factors ++ tail_factors) from to
  all_low =
      subst (λ xs. AreLow p xs (front_factors ++ tail_factors) from to) (sym arguments_are)
      (subst (λ ys. AreLow p (first ∷ (middle ++ second ∷ tail)) ys from to) (sym factors_are) whole.laid.low)

  pub tail_weighted : AreWeighted p tail tail_factors
  tail_weighted = weighted_back p front tail front_factors tail_factors front_each all_weighted

  open_boundary : Cover p tail last to → AreBoundaries p (parts_with line []) from last letters last positions
  open_boundary covers = record {
    exact = λ position. (
      λ stands. let it = (whole.positions.exact position).0 stands in (it.0, it.1, it.2, refl),
      λ it. (whole.positions.exact position).1 (it.0, it.1, it.2, covers),
    );
    one_middle = whole.positions.one_middle;
    one_tail = λ position is. is;
    rising = whole.positions.rising;
  }

  -- where the boundary can stand at all
  module _ (some : ℕ) (stands : Contains positions some) where
    pub tail_covers : Cover p tail last to
    tail_covers = ((whole.positions.exact some).0 stands).3

    pub whole_front : IsFront p line from boundary
    whole_front = record {
      weighted = weighted_front p front tail front_factors tail_factors front_each all_weighted;
      positions = open_boundary tail_covers;
      low = low_front p front tail front_factors tail_factors from last to front_each all_low tail_covers;
    }

    front_covers : Cover p front from last
    front_covers =
        let it = (whole.positions.exact some).0 stands in
        (some, it.0, covers_joined p middle (second ∷ []) some (some + letters) last it.1 (last, it.2, refl))

    pub tail_low : AreLow p tail tail_factors last to
    tail_low = low_back p front tail front_factors tail_factors from last to front_each all_low front_covers

    -- both ends of the boundary lie in the word
    pub position_within : (some + letters ≤ last) × (last ≤ length p.word)
    position_within =
        let it = (whole.positions.exact some).0 stands in
        (it.2.0.in_order, it.2.0.in_word)

    pub first_entry : (rule : ℕ) → first ≡ Rule rule → HasEntry table (record { rule = rule; from = from; to = some })
    first_entry rule is =
        let it = (whole.positions.exact some).0 stands in
        let behind = covers_joined p middle (second ∷ tail) some (some + letters) to it.1 (last, it.2, it.3) in
        whole.laid.scored (record { rule = rule; from = from; to = some }) (some, it.0, inl (record { rule = is; begins = refl; ends = refl }, behind))

    pub second_entry : (rule : ℕ) → second ≡ Rule rule → HasEntry table (record { rule = rule; from = some + letters; to = last })
    second_entry rule is =
        let it = (whole.positions.exact some).0 stands in
        let cell : Cell = record { rule = rule; from = some + letters; to = last } in
        let here : Demands p (second ∷ tail) (some + letters) to cell = (last, it.2, inl (record { rule = is; begins = refl; ends = refl }, it.3)) in
        whole.laid.scored cell (some, it.0, inr (demands_back p middle (second ∷ tail) some (some + letters) to cell it.1 here))

  -- what totals of the whole are
  parted : (total : ℤ) → HasTotal p (HasBestScore p) (first ∷ (middle ++ second ∷ tail))
      (first_factor ∷ (middle_factors ++ second_factor ∷ tail_factors)) from to total
      → AreTotals p (HasBestScore p) front tail front_factors tail_factors from to total
  parted total has =
      totals_parted p (HasBestScore p) front tail front_factors tail_factors from to front_each total
      (subst (λ xs. HasTotal p (HasBestScore p) xs (front_factors ++ tail_factors) from to total) (sym arguments_are)
      (subst (λ ys. HasTotal p (HasBestScore p) (first ∷ (middle ++ second ∷ tail)) ys from to total)
      (sym factors_are) has))

  joined : (a b : ℤ) → HasTotal p (HasBestScore p) front front_factors from last a
      → HasTotal p (HasBestScore p) tail tail_factors last to b
      → HasTotal p (HasBestScore p) (first ∷ (middle ++ second ∷ tail))
      (first_factor ∷ (middle_factors ++ second_factor ∷ tail_factors)) from to (a +ℤ b)
  joined a b has has' =
      subst (λ xs. HasTotal p (HasBestScore p) xs (first_factor ∷ (middle_factors ++ second_factor ∷ tail_factors)) from to (a +ℤ b)) arguments_are
      (subst (λ ys. HasTotal p (HasBestScore p) (front ++ tail) ys from to (a +ℤ b)) factors_are
      (totals_joined p (HasBestScore p) front tail front_factors tail_factors from to front_each last a b has has'))

  front_at_last : (total : ℤ) (it : AreTotals p (HasBestScore p) front tail front_factors tail_factors from to total) → it.middle ≡ last
  front_at_last total it = whole.positions.one_tail it.middle (values_cover p (HasBestScore p) tail it.middle to it.back_has.0 it.back_has.1)

  -- without a position there is no total
  pub none_without_position : positions ≡ [] → (total : ℤ)
      → HasTotal p (HasBestScore p) (first ∷ (middle ++ second ∷ tail))
      (first_factor ∷ (middle_factors ++ second_factor ∷ tail_factors)) from to total → ⊥
  none_without_position empty total ([], have, is) = absurd have
  none_without_position empty total (value ∷ values, have, is) = by (values_cover p (HasBestScore p) (middle ++ second ∷ tail) have.0 to values have.3)
    where
      parts_cover : (xs ys : List Arg) (x : Arg) (a b : ℕ) → Cover p (xs ++ x ∷ ys) a b
          → (m : ℕ) × Cover p xs a m × ((end : ℕ) × FitsSpan p (on_span x m end) × Cover p ys end b)
      parts_cover [] ys x a b covers = (a, refl, covers)
      parts_cover (y ∷ xs) ys x a b covers =
          let rest = parts_cover xs ys x covers.0 b covers.2 in
          (rest.0, (covers.0, covers.1, rest.1), rest.2)

      by : Cover p (middle ++ second ∷ tail) have.0 to → ⊥
      by covers =
          let it = parts_cover middle tail second have.0 to covers in
          let at : it.0 ≡ have.0 + letters = whole.positions.one_middle have.0 it.0 it.1 in
          let end : it.2.0 ≡ last = whole.positions.one_tail it.2.0 it.2.2 in
          let fits = subst (λ n. FitsSpan p (on_span second n last)) at (subst (λ n. FitsSpan p (on_span second it.0 n)) end it.2.1) in
          let there : Contains positions have.0 = (whole.positions.exact have.0).1
          (have.1, subst (λ n. Cover p middle have.0 n) at it.1, fits, subst (λ n. Cover p tail n to) end it.2.2) in
          omega (arith, there.1, ap length empty)

  -- without a total of the front there is none
  pub none_without_front : IsGreatestOf (HasTotal p (HasBestScore p) front front_factors from last) None → (total : ℤ)
      → HasTotal p (HasBestScore p) (first ∷ (middle ++ second ∷ tail))
      (first_factor ∷ (middle_factors ++ second_factor ∷ tail_factors)) from to total → ⊥
  none_without_front none total has =
      let it = parted total has in
      none it.front_total (subst (λ n. HasTotal p (HasBestScore p) front front_factors from n it.front_total) (front_at_last total it) it.front_has)

  -- the greatest total of the front, with the total of the tokens behind it
  pub greatest_whole : (a b : ℤ) → IsGreatestOf (HasTotal p (HasBestScore p) front front_factors from last) (Some a)
      → HasTotal p (HasBestScore p) tail tail_factors last to b
      → IsGreatestOf (HasTotal p (HasBestScore p) (first ∷ (middle ++ second ∷ tail))
      (first_factor ∷ (middle_factors ++ second_factor ∷ tail_factors)) from to) (Some (a +ℤ b))
  greatest_whole a b greatest has = (
    joined a b greatest.0 has,
    λ number it'.
        let it = parted number it' in
        let l = greatest.1 it.front_total
        (subst (λ n. HasTotal p (HasBestScore p) front front_factors from n it.front_total)
        (front_at_last number it) it.front_has) in
        let same : it.back_total ≡ b = fixed_total_unique p (HasBestScore p) tail tail_factors last to to it.back_total
        b whole.tail_fixed (subst (λ n. HasTotal p (HasBestScore p) tail tail_factors n to it.back_total)
        (front_at_last number it) it.back_has) has in
        let e = it.is in
        omega (arith, ints),
  )

  pub whole_low : AreSound p → (a b : ℤ) → HasTotal p (HasBestScore p) front front_factors from last a
      → HasTotal p (HasBestScore p) tail tail_factors last to b → nat_abs (a +ℤ b) ≤ greatest_score
  whole_low sound a b has has' =
      total_low p sound (first ∷ (middle ++ second ∷ tail))
      (first_factor ∷ (middle_factors ++ second_factor ∷ tail_factors)) from to whole.laid.low (a +ℤ b)
      (joined a b has has')
