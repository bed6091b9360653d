-- The first position of a line's boundary with what the tokens behind the line leave of a total.
use Rattle.std.proofs.Common.{◌≡◌, ℕ, ◌+◌, ℤ, ◌+ℤ◌, ◌-ℤ◌, ◌*ℤ◌, [], ◌∷◌, ◌++◌, refl, ap, subst, arith}
use Rattle.std.specs.List.{Contains}
use Rattle.std.proofs.lemmas.Int.{ints}
use Rattle.adp_model.specs.PosedProblem.{PosedProblem}
use Rattle.adp_model.specs.Terms.{weighted_sum}
use Rattle.adp_model.specs.Splits.{FitsSpan}
use Rattle.adp_model.specs.FirstSplit.{IsValue}
use Rattle.adp_model.specs.Bellman.{HasBestScore}
use Rattle.viable_splits.specs.Placing.{on_span, Cover}
use Rattle.cell_tables.specs.Tables.{Table}
use Rattle.split_lines.specs.declared.lines.Boundary.{Boundary}
use Rattle.cell_answers.specs.declared.opened.LineArguments.{LineArguments}
use Rattle.score_numbers.specs.FirstPositions.{IsFirstAmong}
use Rattle.cell_answers.specs.LaidBy.{IsFirstEnd}
use Rattle.cell_answers.specs.Through.{HasTotalAt, HasTotalThrough}
use Rattle.cell_answers.specs.Totals.{HaveValues, HasTotal}
use Rattle.cell_answers.proofs.LineTotals.{AreTotals, totals_parted, totals_joined, fixed_total_unique}
use Rattle.cell_answers.proofs.Totalling.{total_at, values_cover}
use Rattle.cell_answers.proofs.WholeLines.{IsWhole}

module _ (p : PosedProblem) (table : Table ℤ) (line : LineArguments) (from to : ℕ) (boundary : Boundary) (whole : IsWhole p table line from to boundary) where
  open line use {
    first.{now as first},
    first_factor,
    middle.{now as middle},
    middle_factors.{now as middle_factors},
    second.{now as second},
    second_factor,
    tail.{now as tail},
    tail_factors.{now as tail_factors},
  }
  open boundary use {letters, last, positions.{now as positions}}

  abbrev pub Through : ℤ → ℕ → Type 0
  Through total position = HasTotalThrough p (HasBestScore p) first middle second first_factor middle_factors second_factor from letters last position total

  module _ (total behind : ℤ) (has : HasTotal p (HasBestScore p) tail tail_factors last to behind) where
    abbrev TotalAt : ℕ → Type 0
    TotalAt position =
        HasTotalAt p (HasBestScore p) first (middle ++ second ∷ tail) first_factor (middle_factors ++ second_factor ∷ tail_factors) from position to total

    abbrev IsLeft : ℕ → Type 0
    IsLeft = Through (total -ℤ behind)

    with_tail : (position : ℕ) → Contains positions position → IsLeft position → TotalAt position
    with_tail position stands it =
        let fits = (whole.positions.exact position).0 stands in
        let back : HasTotal p (HasBestScore p) (second ∷ tail) (second_factor ∷ tail_factors) (position + letters) to ((second_factor *ℤ it.other) +ℤ behind) =
        (it.other ∷ has.0, (last, fits.2, it.is_other, has.1), ap (λ (more : ℤ). (second_factor *ℤ it.other) +ℤ more) has.2) in
        let rest = totals_joined p (HasBestScore p) middle (second ∷ tail) middle_factors (second_factor ∷ tail_factors)
        position to whole.each (position + letters) it.between ((second_factor *ℤ it.other) +ℤ behind)
        it.has_between back in
        let e = it.is in
        record {
          fits = fits.0;
          value = it.value;
          is_value = it.is_value;
          others = it.between
              +ℤ ((second_factor *ℤ it.other) +ℤ behind);
          have_others = rest;
          is = omega (arith, ints);
        }

    without_tail : (position : ℕ) → TotalAt position → Contains positions position × IsLeft position
    without_tail position it =
        by (totals_parted p (HasBestScore p) middle (second ∷ tail) middle_factors (second_factor ∷ tail_factors)
        position to whole.each it.others it.have_others)
      where
        by : AreTotals p (HasBestScore p) middle (second ∷ tail) middle_factors (second_factor ∷ tail_factors) position
            to it.others → Contains positions position × IsLeft position
        by parts = left parts parts.back_has
          where
            left : (parts : AreTotals p (HasBestScore p) middle (second ∷ tail) middle_factors (second_factor
                ∷ tail_factors) position to it.others)
                → HasTotal p (HasBestScore p) (second ∷ tail) (second_factor ∷ tail_factors) parts.middle to
                parts.back_total → Contains positions position × IsLeft position
            left parts ([], have, is) = absurd have
            left parts (other ∷ values, have, is) =
                let cover = values_cover p (HasBestScore p) middle position parts.middle parts.front_has.0 parts.front_has.1 in
                let at : parts.middle ≡ position + letters = whole.positions.one_middle position parts.middle cover in
                let tail_cover = values_cover p (HasBestScore p) tail have.0 to values have.3 in
                let end : have.0 ≡ last = whole.positions.one_tail have.0 tail_cover in
                let fits = subst (λ n. FitsSpan p (on_span second n last)) at (subst (λ n. FitsSpan p (on_span second parts.middle n)) end have.1) in
                let is_other = subst (λ n. IsValue p (HasBestScore p) (on_span second n last) other)
                at (subst (λ n. IsValue p (HasBestScore p) (on_span second parts.middle n) other) end have.2) in
                let there = (whole.positions.exact position).1 (
                  it.fits,
                  subst (λ n. Cover p middle position n) at cover,
                  fits,
                  subst (λ n. Cover p tail n to) end
                      tail_cover,
                ) in
                let tail_has : HasTotal p (HasBestScore p) tail tail_factors last to
                (weighted_sum tail_factors values) =
                (values, subst (λ n. HaveValues p (HasBestScore p) tail n to values) end have.3, refl) in
                let same : weighted_sum tail_factors values ≡ behind = fixed_total_unique p (HasBestScore p) tail
                tail_factors last to to (weighted_sum tail_factors values) behind whole.tail_fixed tail_has has in
                let e = it.is in
                let e' = parts.is in
                let e'' = is in (
                  there,
                  record {
                    value = it.value;
                    is_value = it.is_value;
                    between = parts.front_total;
                    has_between = subst (λ n. HasTotal p (HasBestScore p) middle middle_factors position n parts.front_total) at parts.front_has;
                    other = other;
                    is_other = is_other;
                    is = omega (arith, ints);
                  },
                )

    -- the first position with what is left is the first end with the total
    pub first_left : (position : ℕ) → IsFirstAmong positions IsLeft position
        → IsFirstEnd p (first ∷ (middle ++ second ∷ tail))
        (first_factor ∷ (middle_factors ++ second_factor ∷ tail_factors)) from to total position
    first_left position it = record {
      argument = first;
      others = middle ++ second ∷ tail;
      factor = first_factor;
      more = middle_factors ++ second_factor ∷ tail_factors;
      arguments_are = refl;
      factors_are = refl;
      there = with_tail position it.stands it.holds;
      first = λ other at. let left = without_tail other at in it.first other left.0 left.1;
    }

    -- where the arguments have the total, a position has what is left
    pub not_nowhere : HasTotal p (HasBestScore p) (first ∷ (middle ++ second ∷ tail))
        (first_factor ∷ (middle_factors ++ second_factor ∷ tail_factors)) from to total
        → ((position : ℕ) → Contains positions position → IsLeft position → ⊥) → ⊥
    not_nowhere all none =
        let it = total_at p (HasBestScore p) first (middle ++ second ∷ tail) first_factor (middle_factors ++ second_factor ∷ tail_factors) from to total all in
        let left = without_tail it.0 it.1 in
        none it.0 left.0 left.1
