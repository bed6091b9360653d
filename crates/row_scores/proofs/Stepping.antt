-- Totals that stand for the scores of the first arguments stand for those of one more behind a step.
use Rattle.std.proofs.Common.{◌≡◌, ℕ, ◌+◌, ◌<◌, ◌≤◌, ℤ, pos, ◌+ℤ◌, ◌*ℤ◌, ◌≤ℤ◌, nat_abs, Some, List, [], ◌∷◌, length, map, get_or, slice_get, refl, sym, ap, subst, ◌∙◌, inl, inr, arith}
use Rattle.std.proofs.lemmas.Int.{ints, unsigned_abs-mul}
use Rattle.std.proofs.lemmas.Option.{slice_get-get_or}
use Rattle.adp_model.specs.declared.grammar.Arg.{Arg}
use Rattle.adp_model.specs.declared.grammar.Arg.TheVariants.{Rule, Literal, Letter, Run}
use Rattle.adp_model.specs.PosedProblem.{PosedProblem}
use Rattle.adp_model.specs.Parts.{algebra_of}
use Rattle.adp_model.specs.Bellman.{HasBestScore}
use Rattle.adp_model.specs.FirstSplit.{IsValue}
use Rattle.adp_model.specs.Splits.{FitsSpan}
use Rattle.adp_model.specs.Terms.{weighted_sum, weighted_total}
use Rattle.viable_splits.specs.Placing.{Cover, on_span}
use Rattle.cell_answers.specs.Totals.{HaveValues, IsWithinBound}
use Rattle.cell_answers.proofs.Scoring.{turned_twice}
use Rattle.cell_answers.proofs.Totalling.{nat_abs-sum, some_value, value_kept}
use Rattle.score_numbers.specs.Packing.{Width}
use Rattle.score_numbers.specs.Turned.{turned}
use Rattle.score_rows.specs.Numbers.{AreDead, StandsFor, least}
use Rattle.score_rows.specs.Raised.{AreHighest, HasScore, IsAnywhere}
use Rattle.score_rows.proofs.Highest.{rows_same, stands_now}
use Rattle.score_rows.proofs.Positions.{some_position}
use Rattle.row_scores.specs.Ready.{AreReady, AreRows, HasNext, HasWhole, Totals}
use Rattle.row_scores.specs.RowNumbers.{IsNumberOf}
use Rattle.row_scores.specs.Steps.{AreLowStepsFrom, GoesOn, HasStepFrom, HasValue, Rows}

-- where the others may have the letters up to the end they have some values within bounds
pub some_values : (p : PosedProblem) (arguments : List Arg) (from to : ℕ) → Cover p arguments from to
    → (values : List ℤ) × HaveValues p (IsWithinBound p) arguments from to values
some_values p [] from to covers = ([], covers)
some_values p (argument ∷ arguments) from to (cut, fits, covers) =
    let first = some_value p argument from cut in
    let others = some_values p arguments cut to covers in
    (first.0 ∷ others.0, (cut, fits, first.1, others.1))

module _ (p : PosedProblem) (width : Width) (InRow : Rows) (rows : AreRows p width InRow) where
  -- the values of an argument whose cell, where it is a rule, has its number
  abbrev IsScored : Arg → ℕ → ℕ → Type 0
  IsScored (Rule rule) from to =
      (number : ℤ) × InRow rule from to number × IsNumberOf width p (record { rule = rule; from = from; to = to }) number
  IsScored token from to = Unit {0}

  turned_back : (value : ℤ) → turned (algebra_of p).goal (turned (algebra_of p).goal value) ≡ value
  turned_back value = turned_twice (algebra_of p).goal value

  goes_on_fits : (argument : Arg) (from to : ℕ) → GoesOn p InRow argument from to → FitsSpan p (on_span argument from to)
  goes_on_fits (Rule rule) from to (number, there) = rows.fit rule from to number there
  goes_on_fits (Literal text) from to fits = fits
  goes_on_fits (Letter class) from to fits = fits
  goes_on_fits (Run class low high) from to fits = fits

  value_fits : (argument : Arg) (from to : ℕ) (value : ℤ) → HasValue p width InRow argument from to value → GoesOn p InRow argument from to
  value_fits (Rule rule) from to value (number, there, scores, is) = (number, there)
  value_fits (Literal text) from to value (fits, is) = fits
  value_fits (Letter class) from to value (fits, is) = fits
  value_fits (Run class low high) from to value (fits, is) = fits

  -- what is read is the value
  is_value : (argument : Arg) (from to : ℕ) (value : ℤ) → IsScored argument from to → HasValue p width InRow argument from to value
      → IsValue p (HasBestScore p) (on_span argument from to) value
  is_value (Rule rule) from to value (number, there, inl (marked, none)) (read, there', scores, is) =
      absurd (scores (rows.alone rule from to read number there' there ∙ marked))
  is_value (Rule rule) from to value (number, there, inr (low, best)) (read, there', scores, is) =
      subst (HasBestScore p (record { rule = rule; from = from; to = to }))
      (ap (turned (algebra_of p).goal) (rows.alone rule from to number read there there') ∙ sym is) best
  is_value (Literal text) from to value scored (fits, is) = is
  is_value (Letter class) from to value scored (fits, is) = is
  is_value (Run class low high) from to value scored (fits, is) = is

  -- the value is read
  has_value : (argument : Arg) (from to : ℕ) (value : ℤ) → IsScored argument from to → FitsSpan p (on_span argument from to)
      → IsValue p (HasBestScore p) (on_span argument from to) value → HasValue p width InRow argument from to value
  has_value (Rule rule) from to value (number, there, inl (marked, none)) fits is = absurd (rows.apart _ value is none)
  has_value (Rule rule) from to value (number, there, inr (low, best)) fits is =
      let same : turned (algebra_of p).goal number ≡ value = rows.one _ (turned (algebra_of p).goal number) value best is in
      (number, there, (λ e. let l = rows.dead in omega (arith, ints, low, e)), sym same)
  has_value (Literal text) from to value scored fits is = (fits, is)
  has_value (Letter class) from to value scored fits is = (fits, is)
  has_value (Run class low high) from to value scored fits is = (fits, is)

  module _ (First : Totals) (Wanted : ℕ → Type 0) (argument : Arg) (arguments : List Arg) (factor : ℤ) (factors numbers : List ℤ)
      (ready : AreReady p width InRow First Wanted (argument ∷ arguments) (factor ∷ factors) numbers) where
    -- the cell of a rule on the way has its number
    scored_at : (argument' : Arg) → argument ≡ argument' → (position end to : ℕ) (before : ℤ) → First position before
        → FitsSpan p (on_span argument position end)
        → Wanted to → Cover p arguments end to → IsScored argument' position end
    scored_at (Rule rule) same position end to before first fits wanted covers =
        ready.scored position to before (record { rule = rule; from = position; to = end }) first wanted
        (end, fits, inl (record { rule = same; begins = refl; ends = refl }, covers))
    scored_at (Literal text) same position end to before first fits wanted covers = tt
    scored_at (Letter class) same position end to before first fits wanted covers = tt
    scored_at (Run class low high) same position end to before first fits wanted covers = tt

    -- a number that stands for a score, from which the others lead to an end that is wanted
    live_first : (position end to : ℕ) (before : ℤ) → slice_get numbers position ≡ Some before → least width ≤ℤ before
        → FitsSpan p (on_span argument position end) → Wanted to → Cover p arguments end to → First position before
    live_first position end to before there live fits wanted covers =
        elim (ready.stand position to before wanted (end, fits, covers) there) [
          | inl (low, none) ↦ absurd (omega (arith, ints, low, live))
          | inr (high, greatest) ↦ greatest.0
        ]

    low_sum : (position end to : ℕ) (before value : ℤ) → First position before → FitsSpan p (on_span argument position end)
        → IsValue p (IsWithinBound p) (on_span argument position end) value → Wanted to → (values : List ℤ)
        → HaveValues p (IsWithinBound p) arguments end to values
        → nat_abs ((factor *ℤ value) +ℤ before) + weighted_total factors (map nat_abs values) ≤ width.limit
    low_sum position end to before value first fits is wanted values have =
        let all = ready.low position to before (value ∷ values) first wanted (end, fits, is, have) in
        let product = unsigned_abs-mul factor value in
        let sum = nat_abs-sum (factor *ℤ value) before in
        omega arith

    within : (position end : ℕ) (value : ℤ) → IsValue p (HasBestScore p) (on_span argument position end) value
        → IsValue p (IsWithinBound p) (on_span argument position end) value
    within position end value is = value_kept p (HasBestScore p) (IsWithinBound p) rows.within argument position end value is

    pub steps_low : (end to : ℕ) → Wanted to → Cover p arguments end to → AreLowStepsFrom p width InRow argument factor numbers end
    steps_low end to wanted covers position before there live goes_on =
        let fits = goes_on_fits argument position end goes_on in
        let first = live_first position end to before there live fits wanted covers in
        let values = some_values p arguments end to covers in
        let some = some_value p argument position end in
        let alone = ready.low position to before (some.0 ∷ values.0) first wanted (end, fits, some.1, values.1) in (
          omega (arith, alone),
          λ sum (value, has, is).
              let is_it = is_value argument position end value (scored_at argument refl position end to before first fits wanted covers) has in
              let low = low_sum position end to before value first fits (within position end value is_it) wanted values.0 values.1 in
              let same = ap nat_abs is in
              omega (arith, low, same),
        )

    to_next : (end to : ℕ) → Wanted to → Cover p arguments end to → (sum : ℤ) → HasStepFrom p width InRow argument factor numbers end sum
        → HasNext p First argument factor end sum × (least width ≤ℤ sum)
    to_next end to wanted covers sum it =
        let value : ℤ = it.step.0 in
        let has : HasValue p width InRow argument it.position end value = it.step.1 in
        let goes_on = value_fits argument it.position end value has in
        let fits = goes_on_fits argument it.position end goes_on in
        let first = live_first it.position end to it.before it.there it.live fits wanted covers in
        let is = is_value argument it.position end value (scored_at argument refl it.position end to it.before first fits wanted covers) has in
        let low = (steps_low end to wanted covers it.position it.before it.there it.live goes_on).1 sum it.step in
        ((it.position, it.before, value, first, fits, is, it.step.2), omega (arith, ints, low))

    -- a total is at most one that is put together from numbers
    below : (end to : ℕ) → Wanted to → Cover p arguments end to → (total : ℤ) → HasNext p First argument factor end total
        → (sum : ℤ) × HasStepFrom p width InRow argument factor numbers end sum × (total ≤ℤ sum)
    below end to wanted covers total (position, before, value, first, fits, is, total_is) =
        go (ready.stand position to number wanted (end, fits, covers) there)
      where
        number : ℤ
        number = get_or numbers position (pos 0)

        there : slice_get numbers position ≡ Some number
        there = slice_get-get_or numbers position (pos 0) (omega (arith, ready.long, ready.within position before first))

        go : StandsFor width (First position) number → (sum : ℤ) × HasStepFrom p width InRow argument factor numbers end sum × (total ≤ℤ sum)
        go (inl (low, none)) = absurd (none before first)
        go (inr (high, greatest)) =
            let has = has_value argument position end value (scored_at argument refl position end to before first fits wanted covers) fits is in
            let up = greatest.1 before first in (
              (factor *ℤ value) +ℤ number,
              record { position = position; before = number; there = there; live = high; step = (value, has, refl) },
              omega (arith, ints, total_is, up),
            )

    -- the numbers behind the step stand for the totals with one argument more
    pub stands_next : (old new : List ℤ) → AreDead width old
        → AreHighest width (HasStepFrom p width InRow argument factor numbers) (AreLowStepsFrom p width InRow argument factor numbers) old new
        → (end to : ℕ) (number : ℤ) → Wanted to → Cover p arguments end to → slice_get new end ≡ Some number
        → StandsFor width (HasNext p First argument factor end) number
    stands_next old new dead_old raised end to number wanted covers there =
        let before = get_or old end (pos 0) in
        let was : slice_get old end ≡ Some before = slice_get-get_or old end (pos 0) (omega (arith, raised.as_many, some_position new end number there)) in
        let it = raised.each end before was (steps_low end to wanted covers) in
        let same : it.0 ≡ number = (let e = it.1 in cc) in
        subst (StandsFor width (HasNext p First argument factor end)) same
        (stands_now width (HasStepFrom p width InRow argument factor numbers end) (HasNext p First argument factor end) before it.0
        (dead_old end before was) it.2 (to_next end to wanted covers) (below end to wanted covers))

    pub ready_next : (old new : List ℤ) → length old ≡ length p.word + 1 → AreDead width old
        → AreHighest width (HasStepFrom p width InRow argument factor numbers) (AreLowStepsFrom p width InRow argument factor numbers) old new
        → AreReady p width InRow (HasNext p First argument factor) Wanted arguments factors new
    ready_next old new long dead_old raised = record {
      each = omega (arith, ready.each);
      long = raised.as_many ∙ long;
      within = λ end total (position, before, value, first, fits, is, total_is). fits.0.in_word;
      stand = λ end to number wanted covers there. stands_next old new dead_old raised end to number wanted covers there;
      scored = λ end to total child (position, before, value, first, fits, is, total_is) wanted demands.
          ready.scored position to before child first wanted (end, fits, inr demands);
      low = λ end to total values (position, before, value, first, fits, is, total_is) wanted have.
          let low = low_sum position end to before value first fits (within position end value is) wanted values have in
          let same = ap nat_abs total_is in
          omega (arith, low, same);
    }

    -- the totals of the others behind the step are those of all
    pub whole_next : (end : ℕ) (whole : ℤ) → HasWhole p (HasNext p First argument factor) arguments factors end whole
        → HasWhole p First (argument ∷ arguments) (factor ∷ factors) end whole
    whole_next end whole (cut, total, rest, (position, before, value, first, fits, is, total_is), (values, have, rest_is), whole_is) = (
      position,
      before,
      (factor *ℤ value) +ℤ rest,
      first,
      (value ∷ values, (cut, fits, is, have), ap (λ r. (factor *ℤ value) +ℤ r) rest_is),
      (omega (arith, ints, whole_is, total_is)),
    )

    pub next_whole : (end : ℕ) (whole : ℤ) → HasWhole p First (argument ∷ arguments) (factor ∷ factors) end whole
        → HasWhole p (HasNext p First argument factor) arguments factors end whole
    next_whole end whole (position, before, total, first, ([], have, total_is), whole_is) = absurd have
    next_whole end whole (position, before, total, first, (value ∷ values, (cut, fits, is, have), total_is), whole_is) = (
      cut,
      (factor *ℤ value) +ℤ before,
      weighted_sum factors values,
      (position, before, value, first, fits, is, refl),
      (values, have, refl),
      (omega (arith, ints, whole_is, total_is)),
    )

-- behind the last argument the totals are those that are reached
pub whole_last : (p : PosedProblem) (width : Width) (InRow : Rows) (First : Totals) (Wanted : ℕ → Type 0) (numbers : List ℤ) (first past : ℕ)
    → AreReady p width InRow First Wanted [] [] numbers
    → ((end : ℕ) → Wanted end → (first ≤ end) × (end < past)) → (old new : List ℤ) → AreHighest width (HasScore width first past numbers) IsAnywhere old new
    → AreHighest width (HasWhole p First [] []) Wanted old new
whole_last p width InRow First Wanted numbers first past ready within old new raised = record {
  as_many = raised.as_many;
  each = λ end before there wanted.
      let one = raised.each end before there tt in (
        one.0,
        one.1,
        record {
          risen = one.2.risen;
          all = λ whole has. below end wanted one.0 one.2.all whole has;
          one = elim one.2.one [
            | inl same ↦ inl same
            | inr (inl ((after, less, there'), live)) ↦ inr (inl (put end wanted one.0 there' live))
            | inr (inr less) ↦ inr (inr less)
          ];
        },
      );
}
  where
    stands : (end : ℕ) (number : ℤ) → Wanted end → slice_get numbers end ≡ Some number → StandsFor width (First end) number
    stands end number wanted there = ready.stand end end number wanted refl there

    put : (end : ℕ) → Wanted end → (number : ℤ) → slice_get numbers end ≡ Some number → least width ≤ℤ number → HasWhole p First [] [] end number
    put end wanted number there live = elim (stands end number wanted there) [
      | inl (dead, none) ↦ absurd (omega (arith, ints, dead, live))
      | inr (high, greatest) ↦ (end, number, pos 0, greatest.0, ([], refl, refl), omega (arith, ints))
    ]

    below : (end : ℕ) → Wanted end → (after : ℤ) → ((number : ℤ) → HasScore width first past numbers end number → number ≤ℤ after)
        → (whole : ℤ) → HasWhole p First [] [] end whole → whole ≤ℤ after
    below end wanted after all whole (position, before, total, has, ([], here, total_is), whole_is) =
        let number = get_or numbers position (pos 0) in
        let there : slice_get numbers position ≡ Some number =
        slice_get-get_or numbers position (pos 0) (omega (arith, ready.long, ready.within position before has)) in
        elim (ready.stand position end number wanted here there) [
          | inl (dead, none) ↦ absurd (none before has)
          | inr (high, greatest) ↦
              let low = greatest.1 before has in
              let up = all number (((within end wanted).0, (within end wanted).1, subst (λ k. slice_get numbers k ≡ Some number) here there), high) in
              omega (arith, ints, whole_is, total_is, low, up)
        ]
    below end wanted after all whole (position, before, total, has, (value ∷ values, have, total_is), whole_is) = absurd have

-- a step and then the others
pub whole_first : (p : PosedProblem) (width : Width) (InRow : Rows) (First : Totals) (Wanted : ℕ → Type 0)
    (argument : Arg) (arguments : List Arg) (factor : ℤ) (factors numbers : List ℤ)
    → AreRows p width InRow → AreReady p width InRow First Wanted (argument ∷ arguments) (factor ∷ factors) numbers → (old new : List ℤ)
    → AreHighest width (HasWhole p (HasNext p First argument factor) arguments factors) Wanted old new
    → AreHighest width (HasWhole p First (argument ∷ arguments) (factor ∷ factors)) Wanted old new
whole_first p width InRow First Wanted argument arguments factor factors numbers rows ready old new it =
    rows_same width (HasWhole p (HasNext p First argument factor) arguments factors)
    (HasWhole p First (argument ∷ arguments) (factor ∷ factors)) Wanted Wanted old new
    (λ end whole wanted has. whole_next p width InRow rows First Wanted argument arguments factor factors numbers ready end whole has)
    (λ end whole wanted has. next_whole p width InRow rows First Wanted argument arguments factor factors numbers ready end whole has)
    (λ end wanted. wanted) it
