-- Totals of a line whose two open arguments are rules and whose tokens between them add nothing: they are the sums of the
-- numbers that stand for the scores, each times its factor.
use Rattle.std.proofs.Common.{◌≡◌, ℕ, ◌+◌, ◌-◌, ◌<◌, ◌≤◌, ◌^◌, ℤ, pos, ◌*ℤ◌, nat_abs, Option, Some, None, Bor, List, []}
use Rattle.std.proofs.Common.{◌∷◌, ◌++◌, slice_get, refl, sym, ap, subst, inl, inr, ◌∙◌, arith}
use Rattle.std.specs.List.{AllByRecursion, Contains}
use Rattle.std.proofs.Math.IntN.{*ℤ-zero, zero-*ℤ, *ℤ_comm}
use Rattle.std.proofs.lemmas.Int.{ints}
use Rattle.std.proofs.lemmas.Option.{slice_get-map}
use Rattle.adp_model.specs.declared.grammar.Arg.{Arg}
use Rattle.adp_model.specs.declared.grammar.Arg.TheVariants.{Rule, Literal, Letter, Run}
use Rattle.adp_model.specs.declared.grammar.Goal.{Goal}
use Rattle.adp_model.specs.declared.cell.Cell.{Cell}
use Rattle.adp_model.specs.PosedProblem.{PosedProblem}
use Rattle.adp_model.specs.Terms.{weighted_sum}
use Rattle.adp_model.specs.ProblemFields.{greatest_score}
use Rattle.adp_model.specs.Splits.{AtRule}
use Rattle.adp_model.specs.FirstSplit.{IsValue}
use Rattle.adp_model.specs.Bellman.{HasBestScore}
use Rattle.viable_splits.specs.Placing.{on_span, Cover}
use Rattle.cell_answers.specs.declared.opened.OpenedLine.{OpenedLine}
use Rattle.score_numbers.specs.declared.sums.Positions.{Positions}
use Rattle.score_numbers.specs.declared.sums.Scales.{Scales}
use Rattle.cell_answers.specs.Entries.{IsEntry}
use Rattle.score_numbers.specs.Entries.{no_candidate}
use Rattle.split_lines.specs.Laid.{IsFixed}
use Rattle.cell_answers.specs.Rows.{HasEntryAt}
use Rattle.cell_answers.specs.Through.{HasTotalThrough}
use Rattle.cell_answers.specs.Totals.{HaveValues, HasTotal}
use Rattle.score_numbers.specs.Greatest.{IsGreatestOf}
use Rattle.score_numbers.specs.Turned.{turned}
use Rattle.score_numbers.specs.Packing.{Width, IsProper, AreProper, short, medium, long, told, told_list}
use Rattle.score_numbers.specs.Sums.{AreLowSums, HasScaledSum, HasScaledSumAt, HaveNumbers, number_at}
use Rattle.score_numbers.specs.Worthless.{AreWorthless}
use Rattle.cell_answers.specs.declared.argument_values.Numbers.TheVariants.{Short, Medium, Long}
use Rattle.cell_answers.specs.ArgumentEntries.{AreProperNumbers, IsScaled, entries_of, told_numbers}
use Rattle.cell_answers.specs.ScaledLines.{IsScaledLine}
use Rattle.score_numbers.specs.FirstPositions.{IsFirstOf}
use Rattle.cell_answers.specs.Opened.{IsOpened}
use Rattle.cell_answers.proofs.Greatest.{greatest_same}
use Rattle.cell_answers.proofs.FirstEnds.{AreSound}
use Rattle.cell_answers.proofs.KeptScores.{entry_scored, entry_missing}
use Rattle.cell_answers.proofs.Scoring.{turned_low, turned_product}
use Rattle.cell_answers.proofs.Told.{told_mark, told_score, told_from}
use Rattle.cell_answers.proofs.Totalling.{OneScore}
use Rattle.score_numbers.specs.Spaced.{IsSpaced}
use Rattle.cell_answers.proofs.Spaced.{score_apart, some_position}
use Rattle.cell_answers.proofs.FrontPositions.{middle_covers, through_parts_low}
use Rattle.cell_answers.proofs.LineTotals.{fixed_values, through_total, total_through}

-- ---- tokens that add nothing

module _ (p : PosedProblem) (HasScore : Cell → ℤ → Type 0) where
  product_none : (factor value : ℤ) → factor ≡ pos 0 → (factor *ℤ value) ≡ pos 0
  product_none factor value e = ap (λ f. f *ℤ value) e ∙ zero-*ℤ value

  pub worthless_sum : (tokens : List Arg) (factors : List ℤ) (from to : ℕ) (values : List ℤ)
      → AreWorthless tokens factors → HaveValues p HasScore tokens from to values → weighted_sum factors values ≡ pos 0
  worthless_sum [] [] from to values worthless have = refl
  worthless_sum [] (factor ∷ factors) from to [] worthless have = refl
  worthless_sum [] (factor ∷ factors) from to (value ∷ values) worthless have = absurd have
  worthless_sum (token ∷ tokens) [] from to values worthless have = refl
  worthless_sum (token ∷ tokens) (factor ∷ factors) from to [] worthless have = absurd have
  worthless_sum (Rule rule ∷ tokens) (factor ∷ factors) from to (value ∷ values) worthless have =
      let first = product_none factor value worthless.0 in
      let others = worthless_sum tokens factors have.0 to values worthless.1 have.3 in
      omega (arith, ints)
  worthless_sum (Literal text ∷ tokens) (factor ∷ factors) from to (value ∷ values) worthless have =
      let first : (factor *ℤ value) ≡ pos 0 = ap (λ v. factor *ℤ v) have.2 ∙ *ℤ-zero factor in
      let others = worthless_sum tokens factors have.0 to values worthless.1 have.3 in
      omega (arith, ints)
  worthless_sum (Letter class ∷ tokens) (factor ∷ factors) from to (value ∷ values) worthless have =
      let first = product_none factor value worthless.0 in
      let others = worthless_sum tokens factors have.0 to values worthless.1 have.3 in
      omega (arith, ints)
  worthless_sum (Run class low high ∷ tokens) (factor ∷ factors) from to (value ∷ values) worthless have =
      let first = product_none factor value worthless.0 in
      let others = worthless_sum tokens factors have.0 to values worthless.1 have.3 in
      omega (arith, ints)

  -- where they match, their total is nothing
  pub worthless_total : (tokens : List Arg) (factors : List ℤ) (from to : ℕ) → AreWorthless tokens factors
      → AllByRecursion IsFixed tokens → Cover p tokens from to → HasTotal p HasScore tokens factors from to (pos 0)
  worthless_total tokens factors from to worthless fixed covers =
      let values = fixed_values p HasScore tokens from to fixed covers in
      (values.0, values.1, sym (worthless_sum tokens factors from to values.0 worthless values.1))

-- ---- one of the two arguments

scaled_product : (goal : Goal) (factor number : ℤ) → (factor *ℤ turned goal number) ≡ (turned goal factor *ℤ number)
scaled_product goal factor number =
    *ℤ_comm factor (turned goal number)
    ∙ sym (turned_product goal number factor)
    ∙ ap (turned goal) (*ℤ_comm number factor)
    ∙ turned_product goal factor number

pub at_cell : (Holds : Cell → Type 0) (argument : Arg) (rule from to : ℕ) → argument ≡ Rule rule
    → AtRule Holds (on_span argument from to) → Holds (record { rule = rule; from = from; to = to })
at_cell Holds argument rule from to e it = subst (λ a. AtRule Holds (on_span a from to)) e it

pub same_number : (found : Option ℤ) (a b : ℤ) → found ≡ Some a → found ≡ Some b → a ≡ b
same_number found a b e e' = cc

module _ (p : PosedProblem) (one : OneScore (HasBestScore p)) (width : Width) (spaced : IsSpaced width)
    (low : width.limit < 2 ^ 63) (argument : Arg) (factor : ℤ) (goal : Goal) (scale : ℤ)
    (scaled : IsScaled argument factor goal scale) (numbers : List ℤ) (proper : AreProper width numbers)
    (first position from to : ℕ) (has : AtRule (HasEntryAt p (told_list width goal numbers) first position) (on_span argument from to)) where
  pub entry_at : HasEntryAt p (told_list width goal numbers) first position (record { rule = scaled.rule; from = from; to = to })
  entry_at = at_cell (HasEntryAt p (told_list width goal numbers) first position) argument scaled.rule from to scaled.is_rule has

  -- the number of the entry
  pub number_there : (number : ℤ) × (slice_get numbers (position - first) ≡ Some number) × (entry_at.entry ≡ told width goal number)
  number_there =
      told_from (told width goal) (slice_get numbers (position - first)) entry_at.entry
      (sym (slice_get-map (told width goal) numbers (position - first)) ∙ entry_at.there)

  value_is : (value : ℤ) → HasBestScore p (record { rule = scaled.rule; from = from; to = to }) value
      → IsValue p (HasBestScore p) (on_span argument from to) value
  value_is value has = subst (λ a. IsValue p (HasBestScore p) (on_span a from to) value) (sym scaled.is_rule) has

  is_best : (value : ℤ) → IsValue p (HasBestScore p) (on_span argument from to) value
      → HasBestScore p (record { rule = scaled.rule; from = from; to = to }) value
  is_best value is = subst (λ a. IsValue p (HasBestScore p) (on_span a from to) value) scaled.is_rule is

  product_is : (number value : ℤ) → value ≡ turned goal number → (factor *ℤ value) ≡ (scale *ℤ number)
  product_is number value e = ap (λ v. factor *ℤ v) e ∙ scaled_product goal factor number ∙ ap (λ f. f *ℤ number) (sym scaled.scale_is)

  -- a number other than the mark tells the best score
  best_told : (number : ℤ) → slice_get numbers (position - first) ≡ Some number → (number ≡ width.mark → ⊥)
      → HasBestScore p (record { rule = scaled.rule; from = from; to = to }) (turned goal number)
  best_told number there apart =
      let same : number_there.0 ≡ number = same_number (slice_get numbers (position - first)) number_there.0 number number_there.1 there in
      let is : entry_at.entry ≡ turned goal number = number_there.2 ∙ ap (told width goal) same ∙ told_score width goal number apart in
      let entry = subst (IsEntry p (record { rule = scaled.rule; from = from; to = to })) is entry_at.is_entry in
      entry_scored p (record { rule = scaled.rule; from = from; to = to }) (turned goal number) entry (λ e. not_mark e (proper (position - first) number there))
    where
      not_mark : turned goal number ≡ no_candidate → IsProper width number → ⊥
      not_mark e (inl mark) = apart mark
      not_mark e (inr l) = let same = ap nat_abs e in let size = turned_low goal number in absurd (omega arith)

  pub value_told : (number : ℤ) → slice_get numbers (position - first) ≡ Some number → (number ≡ width.mark → ⊥)
      → IsValue p (HasBestScore p) (on_span argument from to) (turned goal number)
  value_told number there apart = value_is (turned goal number) (best_told number there apart)

  pub value_of : (number : ℤ) → slice_get numbers (position - first) ≡ Some number → (number ≡ width.mark → ⊥)
      → (value : ℤ) × IsValue p (HasBestScore p) (on_span argument from to) value
      × ((factor *ℤ value) ≡ (scale *ℤ number))
  value_of number there apart =
      (turned goal number, value_told number there apart, product_is number (turned goal number) refl)

  pub number_told : (value : ℤ) → IsValue p (HasBestScore p) (on_span argument from to) value
      → (number : ℤ) × (slice_get numbers (position - first) ≡ Some number) × (number ≡ width.mark → ⊥)
      × (value ≡ turned goal number)
  number_told value is = go (proper (position - first) number_there.0 number_there.1)
    where
      best : HasBestScore p (record { rule = scaled.rule; from = from; to = to }) value
      best = is_best value is

      go : IsProper width number_there.0 → (number : ℤ) × (slice_get numbers (position - first) ≡ Some number)
          × (number ≡ width.mark → ⊥) × (value ≡ turned goal number)
      go (inl mark) =
          let none = entry_missing p (record { rule = scaled.rule; from = from; to = to }) entry_at.entry
          entry_at.is_entry (number_there.2 ∙ told_mark width goal number_there.0 mark) in
          absurd (none best.1.0 best.1.1.derived)
      go (inr l) =
          let apart = score_apart width spaced number_there.0 l in
          let same : value ≡ turned goal number_there.0 = one (record { rule = scaled.rule; from = from; to = to })
          value (turned goal number_there.0) best (best_told number_there.0 number_there.1 apart) in
          (number_there.0, number_there.1, apart, same)

  pub number_of : (value : ℤ) → IsValue p (HasBestScore p) (on_span argument from to) value
      → (number : ℤ) × (slice_get numbers (position - first) ≡ Some number) × (number ≡ width.mark → ⊥)
      × ((factor *ℤ value) ≡ (scale *ℤ number))
  number_of value is =
      let it = number_told value is in
      (it.0, it.1, it.2, product_is it.0 value it.3)

-- ---- both

-- the numbers stand for the scores of the two arguments
pub record AreNumbersOf (width : Width) (line : OpenedLine) (scales : Scales) (firsts seconds : List ℤ) : Type 0 where
  pub scaled : IsScaledLine line scales
  pub firsts_proper : AreProper width firsts
  pub seconds_proper : AreProper width seconds
  pub firsts_told : entries_of line.row ≡ told_list width line.row.goal firsts
  pub seconds_told : entries_of line.column ≡ told_list width line.column.goal seconds

-- numbers of the same width on both sides
module _ (p : PosedProblem) (line : OpenedLine) (opened : IsOpened p line) (scales : Scales)
    (scaled : IsScaledLine line scales) (firsts seconds : Bor (List ℤ)) where
  numbers_of : (width : Width) → AreProper width firsts.now → AreProper width seconds.now
      → entries_of line.row ≡ told_list width line.row.goal firsts.now
      → entries_of line.column ≡ told_list width line.column.goal seconds.now
      → AreNumbersOf width line scales firsts.now seconds.now
  numbers_of width proper proper_behind told told_behind =
      record { scaled = scaled; firsts_proper = proper; seconds_proper = proper_behind; firsts_told = told; seconds_told = told_behind }

  pub short_numbers : line.row.numbers ≡ Short firsts → line.column.numbers ≡ Short seconds → AreNumbersOf short line scales firsts.now seconds.now
  short_numbers is is_behind =
      numbers_of short (subst AreProperNumbers is opened.row_proper) (subst AreProperNumbers is_behind opened.column_proper)
      (ap (told_numbers line.row.goal) is) (ap (told_numbers line.column.goal) is_behind)

  pub medium_numbers : line.row.numbers ≡ Medium firsts → line.column.numbers ≡ Medium seconds → AreNumbersOf medium line scales firsts.now seconds.now
  medium_numbers is is_behind =
      numbers_of medium (subst AreProperNumbers is opened.row_proper) (subst AreProperNumbers is_behind opened.column_proper)
      (ap (told_numbers line.row.goal) is) (ap (told_numbers line.column.goal) is_behind)

  pub long_numbers : line.row.numbers ≡ Long firsts → line.column.numbers ≡ Long seconds → AreNumbersOf long line scales firsts.now seconds.now
  long_numbers is is_behind =
      numbers_of long (subst AreProperNumbers is opened.row_proper) (subst AreProperNumbers is_behind opened.column_proper)
      (ap (told_numbers line.row.goal) is) (ap (told_numbers line.column.goal) is_behind)

module _ (p : PosedProblem) (one : OneScore (HasBestScore p)) (width : Width) (spaced : IsSpaced width)
    (small : width.limit < 2 ^ 63) (line : OpenedLine) (opened : IsOpened p line) (scales : Scales)
    (firsts seconds : List ℤ) (are : AreNumbersOf width line scales firsts seconds) where
  open line use {
    arguments.{
      first.{now as first},
      first_factor,
      middle.{now as middle},
      middle_factors.{now as middle_factors},
      second.{now as second},
      second_factor,
    },
    boundary.{letters, last},
    from,
    column.{first as begin},
  }

  abbrev at : Positions
  at = record { at = line.boundary.positions; first = line.row.first }

  pub row : (position : ℕ) → Contains at.at.now position
      → AtRule (HasEntryAt p (told_list width line.row.goal firsts) at.first position) (on_span first from position)
  row position stands =
      subst (λ entries. AtRule (HasEntryAt p entries at.first position) (on_span first from position)) are.firsts_told (opened.row position stands)

  pub column : (position : ℕ) → Contains at.at.now position
      → AtRule (HasEntryAt p (told_list width line.column.goal seconds) begin (position + letters))
      (on_span second (position + letters) last)
  column position stands =
      subst (λ entries. AtRule (HasEntryAt p entries begin (position + letters))
      (on_span second (position + letters) last)) are.seconds_told (opened.column position stands)

  pub same_position : (position : ℕ) → position + letters - begin ≡ number_at at position
  same_position position = omega (arith, opened.common)

  pub have_numbers : HaveNumbers at firsts seconds
  have_numbers = record {
    from_first = λ position stands. (entry_at p one width spaced small first first_factor line.row.goal scales.before
        are.scaled.before firsts are.firsts_proper at.first position from position (row position stands)).from_first;
    before = λ position stands.
        let there = number_there p one width spaced small first first_factor line.row.goal scales.before
        are.scaled.before firsts are.firsts_proper at.first position from position (row position stands) in
        some_position firsts (position - at.first) there.0 there.1;
    behind = λ position stands.
        let there = number_there p one width spaced small second second_factor line.column.goal scales.behind
        are.scaled.behind seconds are.seconds_proper begin (position + letters) (position + letters) last
        (column position stands) in
        omega (arith, same_position position, some_position seconds (position + letters - begin) there.0 there.1);
  }

  module _ (position : ℕ) (stands : Contains at.at.now position) (number : ℤ) where
    module _ (sum : HasScaledSum width.mark scales firsts seconds (number_at at position) number) where
      before_value : (value : ℤ) × IsValue p (HasBestScore p) (on_span first from position) value × ((first_factor *ℤ value) ≡ (scales.before *ℤ sum.first))
      before_value =
          value_of p one width spaced small first first_factor line.row.goal scales.before are.scaled.before firsts
          are.firsts_proper at.first position from position (row position stands) sum.first sum.first_there
          sum.first_scores

      behind_value : (value : ℤ) × IsValue p (HasBestScore p) (on_span second (position + letters) last) value
          × ((second_factor *ℤ value) ≡ (scales.behind *ℤ sum.second))
      behind_value =
          value_of p one width spaced small second second_factor line.column.goal scales.behind are.scaled.behind
          seconds are.seconds_proper begin (position + letters) (position + letters) last
          (column position stands) sum.second
          (ap (slice_get seconds) (same_position position) ∙ sum.second_there) sum.second_scores

      nothing_between : HasTotal p (HasBestScore p) middle middle_factors position (position + letters) (pos 0)
      nothing_between =
          worthless_total p (HasBestScore p) middle middle_factors position (position + letters) are.scaled.worthless opened.middle_fixed
          (middle_covers p line opened position stands)

      through : HasTotalThrough p (HasBestScore p) first middle second first_factor middle_factors second_factor from letters last position number
      through =
          let e = sum.is in
          let e' = before_value.2 in
          let e'' = behind_value.2 in
          record {
            value = before_value.0;
            is_value = before_value.1;
            between = pos 0;
            has_between = nothing_between;
            other = behind_value.0;
            is_other = behind_value.1;
            is = omega (arith, ints);
          }

      pub sum_low : AreSound p → nat_abs (scales.before *ℤ sum.first) + nat_abs (scales.behind *ℤ sum.second) ≤ greatest_score
      sum_low sound =
          let low =
          through_parts_low p line opened position stands sound before_value.0 (pos 0) behind_value.0 before_value.1 nothing_between behind_value.1 in
          let e = ap nat_abs before_value.2 in
          let e' = ap nat_abs behind_value.2 in
          omega (arith, low, e, e')

    back : HasTotalThrough p (HasBestScore p) first middle second first_factor middle_factors second_factor from letters
        last position number → HasScaledSum width.mark scales firsts seconds (number_at at position) number
    back it =
        let a = number_of p one width spaced small first first_factor line.row.goal scales.before are.scaled.before
        firsts are.firsts_proper at.first position from position (row position stands) it.value it.is_value in
        let b = number_of p one width spaced small second second_factor line.column.goal scales.behind are.scaled.behind
        seconds are.seconds_proper begin (position + letters) (position + letters) last (column position stands)
        it.other it.is_other in
        let none : it.between ≡ pos 0 = it.has_between.2 ∙ worthless_sum p (HasBestScore p) middle middle_factors
        position (position + letters) it.has_between.0 are.scaled.worthless it.has_between.1 in
        let e = it.is in
        let e' = a.3 in
        let e'' = b.3 in
        record {
          first = a.0;
          second = b.0;
          first_there = a.1;
          second_there = ap (slice_get seconds) (sym (same_position position)) ∙ b.1;
          first_scores = a.2;
          second_scores = b.2;
          is = omega (arith, ints);
        }

  pub are_low : AreSound p → AreLowSums width.mark scales at firsts seconds
  are_low sound position number stands sum = sum_low position stands number sum sound

  pub scaled_greatest : (greatest : Option ℤ) → IsGreatestOf (HasScaledSumAt width.mark scales at firsts seconds) greatest
      → IsGreatestOf (HasTotal p (HasBestScore p) (first ∷ (middle ++ second ∷ [])) (first_factor ∷ (middle_factors ++ second_factor ∷ [])) from last) greatest
  scaled_greatest greatest =
      greatest_same (HasScaledSumAt width.mark scales at firsts seconds)
      (HasTotal p (HasBestScore p) (first ∷ (middle ++ second ∷ []))
      (first_factor ∷ (middle_factors ++ second_factor ∷ [])) from last) greatest
      (λ number h. through_total p (HasBestScore p) first middle second first_factor middle_factors second_factor from
      letters last at.at.now opened.boundary opened.middle_each h.0 number h.1 (through h.0 h.1 number h.2))
      (λ number has.
      let it = total_through p (HasBestScore p) first middle second first_factor middle_factors second_factor from
      letters last at.at.now opened.boundary opened.middle_each number has in
      (it.0, it.1, back it.0 it.1 number it.2))

  -- the first position with a sum is the first one with the total
  pub scaled_first : (total : ℤ) (found : Option ℕ)
      → IsFirstOf at.at.now (λ position. HasScaledSum width.mark scales firsts seconds (number_at at position) total)
      found
      → IsFirstOf at.at.now (λ position. HasTotalThrough p (HasBestScore p) first middle second first_factor
      middle_factors second_factor from letters last position total) found
  scaled_first total None none = λ position stands it. none position stands (back position stands total it)
  scaled_first total (Some position) it = record {
    stands = it.stands;
    holds = through position it.stands total it.holds;
    first = λ other stands holds. it.first other stands (back other stands total holds);
  }
