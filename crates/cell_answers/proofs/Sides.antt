-- Numbers on both sides of a boundary, what they tell of the values of a line's two arguments of open length, and the
-- totals of lines whose tokens between the two add nothing, or are one letter.
use Rattle.std.proofs.Common.{◌≡◌, ℕ, ◌+◌, ◌-◌, ◌<◌, ◌≤◌, ◌^◌, ℤ, pos, ◌+ℤ◌, ◌*ℤ◌, nat_abs, Option, Some, None, Bor}
use Rattle.std.proofs.Common.{List, [], ◌∷◌, ◌++◌, length, slice_get, refl, sym, ap, subst, ◌∙◌, arith}
use Rattle.std.specs.List.{Contains}
use Rattle.std.proofs.lemmas.Int.{ints}
use Rattle.adp_model.specs.declared.grammar.Arg.{Arg}
use Rattle.adp_model.specs.declared.grammar.Arg.TheVariants.{Rule, Letter}
use Rattle.adp_model.specs.PosedProblem.{PosedProblem}
use Rattle.adp_model.specs.Parts.{letters_of}
use Rattle.adp_model.specs.ProblemFields.{greatest_score}
use Rattle.adp_model.specs.Terms.{weighted_sum}
use Rattle.adp_model.specs.Tokens.{letters_between, total_weight}
use Rattle.adp_model.specs.Splits.{AtRule, FitsSpan}
use Rattle.adp_model.specs.FirstSplit.{IsValue}
use Rattle.adp_model.specs.Bellman.{HasBestScore}
use Rattle.viable_splits.specs.Placing.{on_span, Cover}
use Rattle.score_numbers.specs.declared.sums.Scales.{Scales}
use Rattle.score_numbers.specs.declared.weighed_sums.Weights.{Weights}
use Rattle.score_numbers.specs.Entries.{no_candidate}
use Rattle.score_numbers.specs.FirstPositions.{IsFirstOf}
use Rattle.score_numbers.specs.Greatest.{IsGreatestOf}
use Rattle.score_numbers.specs.Packing.{Width, AreProper, short, medium, long, told_list}
use Rattle.score_numbers.specs.Spaced.{IsSpaced}
use Rattle.score_numbers.specs.Sums.{AreLowSums, HasScaledSum, HasScaledSumAt, HaveNumbers}
use Rattle.score_numbers.specs.WeighedSums.{AreLowWeighed, HasWeighedSum, HasWeighedSumAt, weight_at}
use Rattle.score_numbers.specs.Worthless.{AreWorthless}
use Rattle.cell_answers.specs.declared.argument_values.Numbers.TheVariants.{Short, Medium, Long, Whole}
use Rattle.cell_answers.specs.declared.letters_between.WeighedLine.{WeighedLine}
use Rattle.cell_answers.specs.declared.opened.OpenedLine.{OpenedLine}
use Rattle.cell_answers.specs.ArgumentEntries.{AreProperNumbers, entries_of, told_numbers}
use Rattle.cell_answers.specs.LettersBetween.{IsWeighedLine}
use Rattle.cell_answers.specs.Opened.{IsOpened}
use Rattle.cell_answers.specs.PlainLines.{positions_of}
use Rattle.cell_answers.specs.Rows.{HasEntryAt}
use Rattle.cell_answers.specs.ScaledLines.{AreScaledRules}
use Rattle.cell_answers.specs.Through.{HasTotalThrough}
use Rattle.cell_answers.specs.Totals.{HaveValues, HasTotal}
use Rattle.cell_answers.proofs.FirstEnds.{AreSound}
use Rattle.cell_answers.proofs.FrontPositions.{middle_covers, through_parts_low}
use Rattle.cell_answers.proofs.Greatest.{greatest_same}
use Rattle.cell_answers.proofs.KeptScores.{entry_scored, entry_missing}
use Rattle.cell_answers.proofs.LineTotals.{fixed_total_unique, through_total, total_through}
use Rattle.cell_answers.proofs.ScaledTotals.{at_cell, entry_at, number_of, number_there, same_number, value_of, worthless_sum, worthless_total}
use Rattle.cell_answers.proofs.Spaced.{short_spaced, medium_spaced, long_spaced, some_position}
use Rattle.cell_answers.proofs.Totalling.{OneScore}

-- the number here, unless it is the mark, tells the value that the argument has on a span: each times its factor, they
-- are the same
pub record TellsValue (p : PosedProblem) (argument : Arg) (factor scale mark : ℤ) (numbers : List ℤ) (k from to : ℕ) : Type 0 where
  pub within : k < length numbers
  pub value_told : (number : ℤ) → slice_get numbers k ≡ Some number → (number ≡ mark → ⊥)
      → (value : ℤ) × IsValue p (HasBestScore p) (on_span argument from to) value
      × ((factor *ℤ value) ≡ (scale *ℤ number))
  pub number_told : (value : ℤ) → IsValue p (HasBestScore p) (on_span argument from to) value
      → (number : ℤ) × (slice_get numbers k ≡ Some number) × (number ≡ mark → ⊥)
      × ((factor *ℤ value) ≡ (scale *ℤ number))

-- numbers on both sides tell the values of the two arguments of open length
pub record TellLine (p : PosedProblem) (line : OpenedLine) (mark : ℤ) (scales : Scales) (firsts seconds : List ℤ) : Type 0 where
  pub from_first : (position : ℕ) → Contains line.boundary.positions.now position → line.row.first ≤ position
  pub before : (position : ℕ) → Contains line.boundary.positions.now position
      → TellsValue p line.arguments.first.now line.arguments.first_factor scales.before mark firsts (position - line.row.first) line.from position
  pub behind : (position : ℕ) → Contains line.boundary.positions.now position
      → TellsValue p line.arguments.second.now line.arguments.second_factor scales.behind mark seconds
      (position - line.row.first) (position + line.boundary.letters) line.boundary.last

-- ---- numbers of a width

module _ (p : PosedProblem) (one : OneScore (HasBestScore p)) (width : Width) (spaced : IsSpaced width)
    (small : width.limit < 2 ^ 63) (line : OpenedLine) (opened : IsOpened p line) (scales : Scales)
    (scaled : AreScaledRules line scales)
    (firsts seconds : List ℤ) (proper : AreProper width firsts) (proper_behind : AreProper width seconds)
    (told : entries_of line.row ≡ told_list width line.row.goal firsts)
    (told_behind : entries_of line.column ≡ told_list width line.column.goal seconds) where
  open line use {
    arguments.{first.{now as first}, first_factor, second.{now as second}, second_factor},
    boundary.{letters, last, positions.{now as positions}},
    from,
  }

  row : (position : ℕ) → Contains positions position
      → AtRule (HasEntryAt p (told_list width line.row.goal firsts) line.row.first position)
      (on_span first from position)
  row position stands = subst (λ entries. AtRule (HasEntryAt p entries line.row.first position) (on_span first from position)) told (opened.row position stands)

  column : (position : ℕ) → Contains positions position
      → AtRule (HasEntryAt p (told_list width line.column.goal seconds) line.column.first (position + letters))
      (on_span second (position + letters) last)
  column position stands =
      subst (λ entries. AtRule (HasEntryAt p entries line.column.first (position + letters))
      (on_span second (position + letters) last)) told_behind (opened.column position stands)

  same_position : (position : ℕ) → position + letters - line.column.first ≡ position - line.row.first
  same_position position = omega (arith, opened.common)

  numbers_tell : TellLine p line width.mark scales firsts seconds
  numbers_tell = record {
    from_first = λ position stands. (entry_at p one width spaced small first first_factor line.row.goal scales.before
        scaled.before firsts proper line.row.first position from position (row position stands)).from_first;
    before = λ position stands.
        let there = number_there p one width spaced small first first_factor line.row.goal scales.before scaled.before
        firsts proper line.row.first position from position (row position stands) in
        record {
          within = some_position firsts (position - line.row.first) there.0 there.1;
          value_told = value_of p one width spaced small first first_factor line.row.goal scales.before scaled.before
              firsts proper line.row.first position from position (row position stands);
          number_told = number_of p one width spaced small first first_factor line.row.goal scales.before scaled.before
              firsts proper line.row.first position from position (row position stands);
        };
    behind = λ position stands.
        let there = number_there p one width spaced small second second_factor line.column.goal scales.behind
        scaled.behind seconds proper_behind line.column.first (position + letters) (position + letters) last
        (column position stands) in
        subst (λ k. TellsValue p second second_factor scales.behind width.mark seconds k (position + letters) last) (same_position position) (record {
          within = some_position seconds (position + letters - line.column.first) there.0 there.1;
          value_told = value_of p one width spaced small second second_factor line.column.goal scales.behind
              scaled.behind seconds proper_behind line.column.first (position + letters) (position + letters) last
              (column position stands);
          number_told = number_of p one width spaced small second second_factor line.column.goal scales.behind
              scaled.behind seconds proper_behind line.column.first (position + letters) (position + letters) last
              (column position stands);
        });
  }

module _ (p : PosedProblem) (one : OneScore (HasBestScore p)) (line : OpenedLine) (opened : IsOpened p line)
    (scales : Scales) (scaled : AreScaledRules line scales) (firsts seconds : Bor (List ℤ)) where
  pub short_tell : line.row.numbers ≡ Short firsts → line.column.numbers ≡ Short seconds → TellLine p line short.mark scales firsts.now seconds.now
  short_tell is is_behind =
      numbers_tell p one short short_spaced (omega arith) line opened scales scaled firsts.now seconds.now
      (subst AreProperNumbers is opened.row_proper) (subst AreProperNumbers is_behind opened.column_proper)
      (ap (told_numbers line.row.goal) is) (ap (told_numbers line.column.goal) is_behind)

  pub medium_tell : line.row.numbers ≡ Medium firsts → line.column.numbers ≡ Medium seconds → TellLine p line medium.mark scales firsts.now seconds.now
  medium_tell is is_behind =
      numbers_tell p one medium medium_spaced (omega arith) line opened scales scaled firsts.now seconds.now
      (subst AreProperNumbers is opened.row_proper) (subst AreProperNumbers is_behind opened.column_proper)
      (ap (told_numbers line.row.goal) is) (ap (told_numbers line.column.goal) is_behind)

  pub long_tell : line.row.numbers ≡ Long firsts → line.column.numbers ≡ Long seconds → TellLine p line long.mark scales firsts.now seconds.now
  long_tell is is_behind =
      numbers_tell p one long long_spaced (omega arith) line opened scales scaled firsts.now seconds.now
      (subst AreProperNumbers is opened.row_proper) (subst AreProperNumbers is_behind opened.column_proper)
      (ap (told_numbers line.row.goal) is) (ap (told_numbers line.column.goal) is_behind)

-- ---- entries

module _ (p : PosedProblem) (one : OneScore (HasBestScore p)) (argument : Arg) (factor : ℤ) (rule : ℕ)
    (is_rule : argument ≡ Rule rule) (entries : List ℤ) (first position from to : ℕ)
    (has : AtRule (HasEntryAt p entries first position) (on_span argument from to)) where
  there : HasEntryAt p entries first position (record { rule = rule; from = from; to = to })
  there = at_cell (HasEntryAt p entries first position) argument rule from to is_rule has

  as_value : (value : ℤ) → HasBestScore p (record { rule = rule; from = from; to = to }) value → IsValue p (HasBestScore p) (on_span argument from to) value
  as_value value best = subst (λ a. IsValue p (HasBestScore p) (on_span a from to) value) (sym is_rule) best

  as_best : (value : ℤ) → IsValue p (HasBestScore p) (on_span argument from to) value → HasBestScore p (record { rule = rule; from = from; to = to }) value
  as_best value is = subst (λ a. IsValue p (HasBestScore p) (on_span a from to) value) is_rule is

  entry_tells : TellsValue p argument factor factor no_candidate entries (position - first) from to
  entry_tells = record {
    within = some_position entries (position - first) there.entry there.there;
    value_told = λ number is apart.
        let same : there.entry ≡ number = same_number (slice_get entries (position - first)) there.entry number there.there is in (
          number,
          as_value number (subst (HasBestScore p (record { rule = rule; from = from; to = to })) same
              (entry_scored p (record { rule = rule; from = from; to = to }) there.entry there.is_entry
              (λ e. apart (sym same ∙ e)))),
          refl,
        );
    number_told = told;
  }
    where
      told : (value : ℤ) → IsValue p (HasBestScore p) (on_span argument from to) value
          → (number : ℤ) × (slice_get entries (position - first) ≡ Some number) × (number ≡ no_candidate → ⊥)
          × ((factor *ℤ value) ≡ (factor *ℤ number))
      told value is =
          let best = as_best value is in
          let apart : there.entry ≡ no_candidate → ⊥ = λ e.
          let none = entry_missing p (record { rule = rule; from = from; to = to }) there.entry there.is_entry e in
          none best.1.0 best.1.1.derived in
          let same : value ≡ there.entry = one (record { rule = rule; from = from; to = to }) value there.entry best
          (entry_scored p (record { rule = rule; from = from; to = to }) there.entry there.is_entry apart) in
          (there.entry, there.there, apart, ap (λ v. factor *ℤ v) same)

module _ (p : PosedProblem) (one : OneScore (HasBestScore p)) (line : OpenedLine) (opened : IsOpened p line)
    (scales : Scales) (scaled : AreScaledRules line scales) (factors : Scales)
    (before_is : factors.before ≡ line.arguments.first_factor)
    (behind_is : factors.behind ≡ line.arguments.second_factor)
    (firsts seconds : Bor (List ℤ)) where
  open line use {
    arguments.{first.{now as first}, first_factor, second.{now as second}, second_factor},
    boundary.{letters, last, positions.{now as positions}},
    from,
  }

  pub whole_tell : line.row.numbers ≡ Whole firsts → line.column.numbers ≡ Whole seconds → TellLine p line no_candidate factors firsts.now seconds.now
  whole_tell is is_behind = record {
    from_first = λ position stands. (there p one first first_factor scaled.before.rule scaled.before.is_rule firsts.now
        line.row.first position from position (row position stands)).from_first;
    before = λ position stands.
        subst (λ scale. TellsValue p first first_factor scale no_candidate firsts.now (position - line.row.first) from position) (sym before_is)
        (entry_tells p one first first_factor scaled.before.rule scaled.before.is_rule firsts.now line.row.first position from position (row position stands));
    behind = λ position stands.
        subst (λ scale. TellsValue p second second_factor scale no_candidate seconds.now (position - line.row.first) (position + letters) last) (sym behind_is)
        (subst (λ k. TellsValue p second second_factor second_factor no_candidate seconds.now k (position + letters) last) (same position)
        (entry_tells p one second second_factor scaled.behind.rule scaled.behind.is_rule seconds.now line.column.first
        (position + letters) (position + letters) last (column position stands)));
  }
    where
      same : (position : ℕ) → position + letters - line.column.first ≡ position - line.row.first
      same position = omega (arith, opened.common)

      row : (position : ℕ) → Contains positions position → AtRule (HasEntryAt p firsts.now line.row.first position) (on_span first from position)
      row position stands =
          subst (λ entries. AtRule (HasEntryAt p entries line.row.first position) (on_span first from position))
          (ap (told_numbers line.row.goal) is) (opened.row position stands)

      column : (position : ℕ) → Contains positions position
          → AtRule (HasEntryAt p seconds.now line.column.first (position + letters))
          (on_span second (position + letters) last)
      column position stands =
          subst (λ entries. AtRule (HasEntryAt p entries line.column.first (position + letters))
          (on_span second (position + letters) last)) (ap (told_numbers line.column.goal) is_behind)
          (opened.column position stands)

-- ---- the totals of the line

module _ (p : PosedProblem) (line : OpenedLine) (opened : IsOpened p line) (mark : ℤ) (scales : Scales)
    (firsts seconds : List ℤ) (tell : TellLine p line mark scales firsts seconds) where
  open line use {
    arguments.{
      first.{now as first},
      first_factor,
      middle.{now as middle},
      middle_factors.{now as middle_factors},
      second.{now as second},
      second_factor,
    },
    boundary.{letters, last, positions.{now as positions}},
    from,
  }

  abbrev Through : ℕ → ℤ → Type 0
  Through position number = HasTotalThrough p (HasBestScore p) first middle second first_factor middle_factors second_factor from letters last position number

  abbrev IsFront : ℤ → Type 0
  IsFront = HasTotal p (HasBestScore p) (first ∷ (middle ++ second ∷ [])) (first_factor ∷ (middle_factors ++ second_factor ∷ [])) from last

  pub numbers_there : HaveNumbers (positions_of line) firsts seconds
  numbers_there = record {
    from_first = tell.from_first;
    before = λ position stands. (tell.before position stands).within;
    behind = λ position stands. (tell.behind position stands).within;
  }

  -- sums at the positions that are the totals through them
  module _ (Sum : ℕ → ℤ → Type 0) (to : (position : ℕ) → Contains positions position → (number : ℤ)
      → Sum position number → Through position number) (back : (position : ℕ) → Contains positions position
      → (number : ℤ) → Through position number → Sum position number) where
    greatest_front : (greatest : Option ℤ)
        → IsGreatestOf (λ number. (position : ℕ) × Contains positions position × Sum position number) greatest
        → IsGreatestOf IsFront greatest
    greatest_front greatest =
        greatest_same (λ number. (position : ℕ) × Contains positions position × Sum position number) IsFront greatest
        (λ number h. through_total p (HasBestScore p) first middle second first_factor middle_factors second_factor from
        letters last positions opened.boundary opened.middle_each h.0 number h.1 (to h.0 h.1 number h.2))
        (λ number has.
        let it = total_through p (HasBestScore p) first middle second first_factor middle_factors second_factor from
        letters last positions opened.boundary opened.middle_each number has in
        (it.0, it.1, back it.0 it.1 number it.2))

    first_front : (total : ℤ) (found : Option ℕ) → IsFirstOf positions (λ position. Sum position total) found
        → IsFirstOf positions (λ position. Through position total) found
    first_front total None none = λ position stands it. none position stands (back position stands total it)
    first_front total (Some position) it = record {
      stands = it.stands;
      holds = to position it.stands total it.holds;
      first = λ other stands holds. it.first other stands (back other stands total holds);
    }

  -- tokens between that add nothing
  module _ (worthless : AreWorthless middle middle_factors) where
    nothing : (position : ℕ) → Contains positions position → HasTotal p (HasBestScore p) middle middle_factors position (position + letters) (pos 0)
    nothing position stands =
        worthless_total p (HasBestScore p) middle middle_factors position (position + letters) worthless
        opened.middle_fixed (middle_covers p line opened position stands)

    plain_to : (position : ℕ) → Contains positions position → (number : ℤ)
        → HasScaledSum mark scales firsts seconds (position - line.row.first) number → Through position number
    plain_to position stands number sum =
        let a = (tell.before position stands).value_told sum.first sum.first_there sum.first_scores in
        let b = (tell.behind position stands).value_told sum.second sum.second_there sum.second_scores in
        let e = sum.is in
        let e' = a.2 in
        let e'' = b.2 in
        record { value = a.0; is_value = a.1; between = pos 0; has_between = nothing position stands; other = b.0; is_other = b.1; is = omega (arith, ints) }

    plain_back : (position : ℕ) → Contains positions position → (number : ℤ) → Through position number
        → HasScaledSum mark scales firsts seconds (position - line.row.first) number
    plain_back position stands number it =
        let a = (tell.before position stands).number_told it.value it.is_value in
        let b = (tell.behind position stands).number_told it.other it.is_other in
        let none : it.between ≡ pos 0 = it.has_between.2 ∙ worthless_sum p (HasBestScore p) middle middle_factors
        position (position + letters) it.has_between.0 worthless it.has_between.1 in
        let e = it.is in
        let e' = a.3 in
        let e'' = b.3 in
        record { first = a.0; second = b.0; first_there = a.1; second_there = b.1; first_scores = a.2; second_scores = b.2; is = omega (arith, ints) }

    pub plain_low : AreSound p → AreLowSums mark scales (positions_of line) firsts seconds
    plain_low sound position number stands sum =
        let a = (tell.before position stands).value_told sum.first sum.first_there sum.first_scores in
        let b = (tell.behind position stands).value_told sum.second sum.second_there sum.second_scores in
        let low = through_parts_low p line opened position stands sound a.0 (pos 0) b.0 a.1 (nothing position stands) b.1 in
        let e = ap nat_abs a.2 in
        let e' = ap nat_abs b.2 in
        omega (arith, low, e, e')

    pub plain_greatest : (greatest : Option ℤ)
        → IsGreatestOf (HasScaledSumAt mark scales (positions_of line) firsts seconds) greatest
        → IsGreatestOf IsFront greatest
    plain_greatest = greatest_front (λ position. HasScaledSum mark scales firsts seconds (position - line.row.first)) plain_to plain_back

    pub plain_first : (total : ℤ) (found : Option ℕ)
        → IsFirstOf positions (λ position. HasScaledSum mark scales firsts seconds (position - line.row.first) total)
        found → IsFirstOf positions (λ position. Through position total) found
    plain_first = first_front (λ position. HasScaledSum mark scales firsts seconds (position - line.row.first)) plain_to plain_back

  -- one letter between
  module _ (weighed : WeighedLine) (is_weighed : IsWeighedLine p line weighed) where
    abbrev weights : Weights
    weights = weighed.weights

    abbrev class : ℕ
    class = is_weighed.class

    abbrev weight : ℕ → ℤ
    weight position = weights.factor *ℤ weight_at weights (position - line.row.first)

    letter_fits : (position : ℕ) → Contains positions position → FitsSpan p (on_span (Letter class) position (position + letters))
    letter_fits position stands =
        let covers : Cover p (Letter class ∷ []) position (position + letters) =
        subst (λ tokens. Cover p tokens position (position + letters)) is_weighed.token
        (middle_covers p line opened position stands) in
        subst (λ end. FitsSpan p (on_span (Letter class) position end)) covers.2 covers.1

    weight_total : (position : ℕ) → Contains positions position
        → HasTotal p (HasBestScore p) middle middle_factors position (position + letters) (weight position)
    weight_total position stands =
        let worth = total_weight (letters_of p.grammar class) (letters_between p.word position (position + letters)) in
        let same : weight position ≡ weights.factor *ℤ worth = ap (λ w. weights.factor *ℤ w) (is_weighed.are position stands) in
        let have : HaveValues p (HasBestScore p) (Letter class ∷ []) position (position + letters) (worth ∷ []) =
        (position + letters, letter_fits position stands, refl, refl) in
        let is : weight position ≡ weighted_sum (weights.factor ∷ []) (worth ∷ []) = omega (arith, ints) in
        subst (λ tokens. HasTotal p (HasBestScore p) tokens middle_factors position (position + letters) (weight position)) (sym is_weighed.token)
        (subst (λ factors. HasTotal p (HasBestScore p) (Letter class ∷ []) factors position (position + letters)
        (weight position)) (sym is_weighed.factor) (worth ∷ [], have, is))

    weighed_to : (position : ℕ) → Contains positions position → (number : ℤ)
        → HasWeighedSum mark scales weights firsts seconds (position - line.row.first) number → Through position number
    weighed_to position stands number sum =
        let a = (tell.before position stands).value_told sum.first sum.first_there sum.first_scores in
        let b = (tell.behind position stands).value_told sum.second sum.second_there sum.second_scores in
        record {
          value = a.0;
          is_value = a.1;
          between = weight position;
          has_between = weight_total position stands;
          other = b.0;
          is_other = b.1;
          is = sum.is ∙ (λ i. (sym a.2 i +ℤ weight position) +ℤ sym b.2 i);
        }

    weighed_back : (position : ℕ) → Contains positions position → (number : ℤ) → Through position number
        → HasWeighedSum mark scales weights firsts seconds (position - line.row.first) number
    weighed_back position stands number it =
        let a = (tell.before position stands).number_told it.value it.is_value in
        let b = (tell.behind position stands).number_told it.other it.is_other in
        let between : it.between ≡ weight position =
        fixed_total_unique p (HasBestScore p) middle middle_factors position (position + letters) (position + letters)
        it.between (weight position) opened.middle_fixed it.has_between (weight_total position stands) in
        record {
          first = a.0;
          second = b.0;
          first_there = a.1;
          second_there = b.1;
          first_scores = a.2;
          second_scores = b.2;
          is = it.is ∙ (λ i. (a.3 i +ℤ between i) +ℤ b.3 i);
        }

    pub weighed_low : AreSound p → AreLowWeighed mark scales weights (positions_of line) firsts seconds
    weighed_low sound position number stands sum =
        let a = (tell.before position stands).value_told sum.first sum.first_there sum.first_scores in
        let b = (tell.behind position stands).value_told sum.second sum.second_there sum.second_scores in
        subst (λ x. nat_abs x + nat_abs (weight position) + nat_abs (scales.behind *ℤ sum.second) ≤ greatest_score) a.2
        (subst (λ y. nat_abs (first_factor *ℤ a.0) + nat_abs (weight position) + nat_abs y ≤ greatest_score) b.2
        (through_parts_low p line opened position stands sound a.0 (weight position) b.0 a.1 (weight_total position stands) b.1))

    pub weighed_greatest : (greatest : Option ℤ)
        → IsGreatestOf (HasWeighedSumAt mark scales weights (positions_of line) firsts seconds) greatest
        → IsGreatestOf IsFront greatest
    weighed_greatest = greatest_front (λ position. HasWeighedSum mark scales weights firsts seconds (position - line.row.first)) weighed_to weighed_back

    pub weighed_first : (total : ℤ) (found : Option ℕ)
        → IsFirstOf positions (λ position. HasWeighedSum mark scales weights firsts seconds (position - line.row.first)
        total) found → IsFirstOf positions (λ position. Through position total) found
    weighed_first = first_front (λ position. HasWeighedSum mark scales weights firsts seconds (position - line.row.first)) weighed_to weighed_back
