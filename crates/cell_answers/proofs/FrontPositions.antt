-- The arguments of a line up to its second one of open length, at a position of the boundary.
use Rattle.std.proofs.Common.{◌≡◌, ℕ, ◌+◌, ◌≤◌, ℤ, ◌+ℤ◌, ◌*ℤ◌, nat_abs, Option, Some, List, [], ◌∷◌, ◌++◌, length, get_or, refl, sym, subst, ◌∙◌, arith}
use Rattle.std.specs.List.{AllByRecursion, Contains}
use Rattle.std.proofs.lemmas.List.{get_or_default, length-append}
use Rattle.std.proofs.lemmas.List.Elements.{Contains-append_left, Contains-append_right, Contains-get_or}
use Rattle.adp_model.specs.declared.grammar.Arg.{Arg}
use Rattle.adp_model.specs.PosedProblem.{PosedProblem}
use Rattle.adp_model.specs.Tokens.{letters_between, token_value}
use Rattle.adp_model.specs.WellFormed.{IsKnown}
use Rattle.adp_model.specs.ProblemFields.{greatest_score}
use Rattle.adp_model.specs.Splits.{FitsSpan}
use Rattle.adp_model.specs.FirstSplit.{IsValue}
use Rattle.adp_model.specs.Bellman.{HasBestScore}
use Rattle.viable_splits.specs.Placing.{on_span, Cover}
use Rattle.cell_answers.specs.declared.opened.OpenedLine.{OpenedLine}
use Rattle.cell_answers.specs.Opened.{IsOpened}
use Rattle.cell_answers.specs.Through.{HasLineTotal}
use Rattle.cell_answers.specs.Totals.{HasTotal, AreLow, AreWeighted}
use Rattle.score_numbers.specs.Greatest.{IsGreatestOf}
use Rattle.cell_answers.proofs.Greatest.{greatest_same, HasBefore}
use Rattle.cell_answers.proofs.Totalling.{low_rest, nat_abs-sum}
use Rattle.cell_answers.proofs.FirstEnds.{AreSound, weighted_rest}
use Rattle.cell_answers.proofs.LineTotals.{low_front, through_total, total_through, one_through, greatest_through, through_low}

pub all_front : {X : Type 0} (P : X → Type 0) (xs ys : List X) → AllByRecursion P (xs ++ ys) → AllByRecursion P xs
all_front P [] ys all = tt
all_front P (x ∷ xs) ys all = (all.0, all_front P xs ys all.1)

pub all_back : {X : Type 0} (P : X → Type 0) (xs ys : List X) → AllByRecursion P (xs ++ ys) → AllByRecursion P ys
all_back P [] ys all = all
all_back P (x ∷ xs) ys all = all_back P xs ys all.1

-- of weighted arguments those in front and those behind are weighted
pub weighted_front : (p : PosedProblem) (front back : List Arg) (factors others : List ℤ)
    → length factors ≡ length front → AreWeighted p (front ++ back) (factors ++ others) → AreWeighted p front factors
weighted_front p front back factors others each it = record {
  known = all_front (IsKnown p.grammar) front back it.known;
  few = omega (arith, it.few, length-append front back);
  factors_each = each;
  tokens_low = λ token from to stands. it.tokens_low token from to (Contains-append_left front back token stands);
}

pub weighted_back : (p : PosedProblem) (front back : List Arg) (factors others : List ℤ) → length factors ≡ length front
    → AreWeighted p (front ++ back) (factors ++ others) → AreWeighted p back others
weighted_back p front back factors others each it = record {
  known = all_back (IsKnown p.grammar) front back it.known;
  few = omega (arith, it.few, length-append front back);
  factors_each = omega (arith, each, it.factors_each, length-append front back, length-append factors others);
  tokens_low = λ token from to stands. it.tokens_low token from to (Contains-append_right front back token stands);
}

module _ (p : PosedProblem) (line : OpenedLine) (opened : IsOpened p line) where
  open line use {
    arguments.{
      first.{now as first},
      first_factor,
      middle.{now as middle},
      middle_factors.{now as middle_factors},
      second.{now as second},
      second_factor,
    },
    boundary.{letters, last, positions.{now as positions}},
    from,
  }

  middle_and_second : AreWeighted p (middle ++ second ∷ []) (middle_factors ++ second_factor ∷ [])
  middle_and_second = weighted_rest p first (middle ++ second ∷ []) first_factor (middle_factors ++ second_factor ∷ []) opened.weighted

  pub middle_weighted : AreWeighted p middle middle_factors
  middle_weighted = weighted_front p middle (second ∷ []) middle_factors (second_factor ∷ []) opened.middle_each middle_and_second

  second_weighted : AreWeighted p (second ∷ []) (second_factor ∷ [])
  second_weighted = weighted_back p middle (second ∷ []) middle_factors (second_factor ∷ []) opened.middle_each middle_and_second

  pub second_known : IsKnown p.grammar second
  second_known = second_weighted.known.0

  -- the total through the position of this number
  abbrev pub Through : ℕ → ℤ → Type 0
  Through number = HasLineTotal p line (get_or positions number 0)

  -- behind the last position all totals are found
  pub all_through : (count : ℕ) (greatest : Option ℤ) → length positions ≤ count → count ≤ length positions → IsGreatestOf (HasBefore Through count) greatest
      → IsGreatestOf (HasTotal p (HasBestScore p) (first ∷ (middle ++ second ∷ [])) (first_factor ∷ (middle_factors ++ second_factor ∷ [])) from last) greatest
  all_through count greatest l m before =
      greatest_same (HasBefore Through count) (HasTotal p (HasBestScore p) (first ∷ (middle ++ second ∷ []))
      (first_factor ∷ (middle_factors ++ second_factor ∷ [])) from last) greatest
      (λ total h. through_total p (HasBestScore p) first middle second first_factor middle_factors second_factor from
      letters last positions opened.boundary opened.middle_each (get_or positions h.0 0) total
      (Contains-get_or positions h.0 0 (omega (arith, h.1, m))) h.2)
      (λ total has.
      let it = total_through p (HasBestScore p) first middle second first_factor middle_factors second_factor from
      letters last positions opened.boundary opened.middle_each total has in
      let at : get_or positions it.1.0 0 ≡ it.0 = get_or_default positions it.1.0 0 it.0 it.1.1 ∙ it.1.2 in
      (it.1.0, omega (arith, it.1.1, l), subst (λ position. HasLineTotal p line position total) (sym at) it.2))
      before

  module _ (position : ℕ) (stands : Contains positions position) where
    pub first_fits : FitsSpan p (on_span first from position)
    first_fits = ((opened.boundary.exact position).0 stands).0

    pub middle_covers : Cover p middle position (position + letters)
    middle_covers = ((opened.boundary.exact position).0 stands).1

    pub second_fits : FitsSpan p (on_span second (position + letters) last)
    second_fits = ((opened.boundary.exact position).0 stands).2

    pub first_token_low : nat_abs (token_value p.grammar first (letters_between p.word from position)) ≤ greatest_score
    first_token_low = opened.weighted.tokens_low first from position (0, omega arith, refl) first_fits

    pub second_token_low : nat_abs (token_value p.grammar second (letters_between p.word (position + letters) last)) ≤ greatest_score
    second_token_low = second_weighted.tokens_low second (position + letters) last (0, omega arith, refl) second_fits

    pub middle_low : AreLow p middle middle_factors position (position + letters)
    middle_low =
        low_front p middle (second ∷ []) middle_factors (second_factor ∷ []) position (position + letters) last opened.middle_each
        (low_rest p first (middle ++ second ∷ []) first_factor (middle_factors ++ second_factor ∷ []) from position last opened.low first_fits)
        (last, second_fits, refl)

    module _ (sound : AreSound p) (value between other : ℤ)
        (is_value : IsValue p (HasBestScore p) (on_span first from position) value)
        (has_between : HasTotal p (HasBestScore p) middle middle_factors position (position + letters) between)
        (is_other : IsValue p (HasBestScore p) (on_span second (position + letters) last) other) where
      pub through_parts_low : nat_abs (first_factor *ℤ value) + nat_abs between + nat_abs (second_factor *ℤ other) ≤ greatest_score
      through_parts_low =
          through_low p (HasBestScore p) first middle second first_factor middle_factors second_factor from letters last
          positions opened.boundary opened.middle_each sound.within opened.low position
          (((first_factor *ℤ value) +ℤ between) +ℤ (second_factor *ℤ other)) stands
          (record { value = value; is_value = is_value; between = between; has_between = has_between; other = other; is_other = is_other; is = refl })

      pub greatest_here : IsGreatestOf (HasLineTotal p line position) (Some (((first_factor *ℤ value) +ℤ between) +ℤ (second_factor *ℤ other)))
      greatest_here =
          greatest_through p (HasBestScore p) first middle second first_factor middle_factors second_factor from letters
          last positions opened.boundary opened.middle_each sound.one opened.middle_fixed position value between
          other is_value has_between is_other

      pub one_here : (number : ℤ) → HasLineTotal p line position number → number ≡ (((first_factor *ℤ value) +ℤ between) +ℤ (second_factor *ℤ other))
      one_here =
          one_through p (HasBestScore p) first middle second first_factor middle_factors second_factor from letters last
          positions opened.boundary opened.middle_each sound.one opened.middle_fixed position value between other
          is_value has_between is_other

-- sums of numbers that are low together
pub sums_low : (a b c : ℤ) → nat_abs a + nat_abs b + nat_abs c ≤ greatest_score
    → (nat_abs a ≤ greatest_score) × (nat_abs (a +ℤ b) ≤ greatest_score) × (nat_abs c ≤ greatest_score)
    × (nat_abs ((a +ℤ b) +ℤ c) ≤ greatest_score)
sums_low a b c low =
    let one = nat_abs-sum a b in
    let two = nat_abs-sum (a +ℤ b) c in
    (omega arith, omega arith, omega arith, omega arith)
