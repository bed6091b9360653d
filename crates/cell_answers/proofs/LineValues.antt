-- Lines of two rules whose tokens make no difference to a term: the values of their arguments at each position of the
-- boundary, and what the term comes to at them.
use Rattle.std.proofs.Common.{◌≡◌, ℕ, zero, suc, ◌+◌, ◌-◌, ◌≤◌, ℤ, pos, nat_abs, Option, Some, None, List, [], ◌∷◌}
use Rattle.std.proofs.Common.{◌++◌, length, map, take, replicate, slice_get, slice_set, refl, sym, ap, subst, ◌∙◌}
use Rattle.std.proofs.Common.{arith, append_assoc, length-take}
use Rattle.std.specs.Prelude.{IfSome}
use Rattle.std.specs.List.{Contains}
use Rattle.std.proofs.lemmas.List.{length-append, length-replicate}
use Rattle.adp_model.specs.declared.grammar.Arg.{Arg}
use Rattle.adp_model.specs.declared.grammar.Arg.TheVariants.{Rule, Literal, Letter, Run}
use Rattle.adp_model.specs.declared.grammar.Term.{Term}
use Rattle.adp_model.specs.declared.grammar.Term.TheVariants as terms
use Rattle.adp_model.specs.declared.cell.Cell.{Cell}
use Rattle.adp_model.specs.PosedProblem.{PosedProblem}
use Rattle.adp_model.specs.Bounds.{IsScoreBound}
use Rattle.adp_model.specs.Parts.{algebra_of}
use Rattle.adp_model.specs.Terms.{weighted_sum, weighted_total, wide_magnitude, wide_value}
use Rattle.adp_model.specs.WideForm.{WideForm}
use Rattle.adp_model.specs.WideTerms.{form_of}
use Rattle.adp_model.specs.Splits.{FitsSpan}
use Rattle.adp_model.specs.FirstSplit.{IsValue}
use Rattle.adp_model.specs.Bellman.{HasBestScore}
use Rattle.viable_splits.specs.Placing.{on_span, Cover}
use Rattle.score_numbers.specs.declared.sums.Scales.{Scales}
use Rattle.score_numbers.specs.declared.term_lines.TermLine.{TermLine}
use Rattle.score_numbers.specs.Greatest.{IsGreatestOf}
use Rattle.score_numbers.specs.Packing.{Width}
use Rattle.score_numbers.specs.Sums.{HaveNumbers, number_at}
use Rattle.score_numbers.specs.TermLines.{AreLowValues, AreTwo, HasTermValue, HasTermValueAt, values_at}
use Rattle.score_numbers.specs.Turned.{turned}
use Rattle.score_numbers.specs.Worthless.{AreWorthless, IsWorthless}
use Rattle.cell_answers.specs.declared.opened.OpenedLine.{OpenedLine}
use Rattle.cell_answers.specs.Opened.{IsOpenedOn}
use Rattle.cell_answers.specs.PlainLines.{AreFitNumbers, AreIdle, AreNumbersOn, IsFoundOn, IsPlain, positions_of}
use Rattle.cell_answers.specs.ScaledLines.{IsScaledLine}
use Rattle.cell_answers.specs.TermScores.{AreTermArguments, HasTermScore}
use Rattle.cell_answers.specs.Totals.{HaveValues, HasTotal, AreLow, AreWeighted, IsWithinBound}
use Rattle.cell_answers.proofs.FirstEnds.{AreSound}
use Rattle.cell_answers.proofs.Greatest.{greatest_same}
use Rattle.cell_answers.proofs.IdleTokens.{idle_have, nothing, same_size, same_value}
use Rattle.cell_answers.proofs.LineTotals.{values_joined, values_parted}
use Rattle.cell_answers.proofs.ScaledTotals.{AreNumbersOf, column, have_numbers, number_told, row, same_position, value_told}
use Rattle.cell_answers.proofs.Totalling.{values_cover, values_kept}

-- what holds of one that is there
pub some_mapped : {A : Type 0} (P Q : A → Type 0) → ((it : A) → P it → Q it) → (found : Option A) → IfSome found P → IfSome found Q
some_mapped P Q maps None there = tt
some_mapped P Q maps (Some it) there = maps it there

-- ---- nothing for each argument

nothing_joined : (front back : List Arg) → nothing (front ++ back) ≡ nothing front ++ nothing back
nothing_joined [] back = refl
nothing_joined (argument ∷ front) back = ap (λ values. pos 0 ∷ values) (nothing_joined front back)

-- no factor weighs anything
pub nothing_weighs : (count all : ℕ) (numbers : List ℕ) → weighted_total (take count (replicate all (pos 0))) numbers ≡ 0
nothing_weighs zero all numbers = refl
nothing_weighs (suc count) zero numbers = refl
nothing_weighs (suc count) (suc all) [] = refl
nothing_weighs (suc count) (suc all) (number ∷ numbers) = omega (arith, nothing_weighs count all numbers)

abbrev AreNothing : List ℤ → Type 0
AreNothing [] = Unit {0}
AreNothing (factor ∷ factors) = (factor ≡ pos 0) × AreNothing factors

-- factors that are nothing weigh nothing
nothing_worthless : (count all : ℕ) (tokens : List Arg) (factors before behind : List ℤ)
    → take count (replicate all (pos 0)) ≡ before ++ factors ++ behind → AreWorthless tokens factors
nothing_worthless count all tokens factors before behind are = worthless tokens factors (those before (subst AreNothing are (nothings count all)))
  where
    nothings : (count all : ℕ) → AreNothing (take count (replicate all (pos 0)))
    nothings zero all = tt
    nothings (suc count) zero = tt
    nothings (suc count) (suc all) = (refl, nothings count all)

    those : (before : List ℤ) → AreNothing (before ++ factors ++ behind) → AreNothing factors
    those [] all = firsts factors all
      where
        firsts : (factors : List ℤ) → AreNothing (factors ++ behind) → AreNothing factors
        firsts [] all = tt
        firsts (factor ∷ factors) all = (all.0, firsts factors all.1)
    those (factor ∷ before) all = those before all.1

    is_worthless : (token : Arg) (factor : ℤ) → factor ≡ pos 0 → IsWorthless token factor
    is_worthless (Literal text) factor is = tt
    is_worthless (Letter class) factor is = is
    is_worthless (Rule rule) factor is = is
    is_worthless (Run class low high) factor is = is

    worthless : (tokens : List Arg) (factors : List ℤ) → AreNothing factors → AreWorthless tokens factors
    worthless [] factors all = tt
    worthless (token ∷ tokens) [] all = tt
    worthless (token ∷ tokens) (factor ∷ factors) all = (is_worthless token factor all.0, worthless tokens factors all.1)

module _ (p : PosedProblem) (HasScore : Cell → ℤ → Type 0) where
  -- the values of a first argument and of others
  record HaveFirst (argument : Arg) (others : List Arg) (from to : ℕ) (values : List ℤ) : Type 0 where
    value : ℤ
    more : List ℤ
    are : values ≡ value ∷ more
    end : ℕ
    fits : FitsSpan p (on_span argument from end)
    is_value : IsValue p HasScore (on_span argument from end) value
    have_more : HaveValues p HasScore others end to more

  have_first : (argument : Arg) (others : List Arg) (from to : ℕ) (values : List ℤ)
      → HaveValues p HasScore (argument ∷ others) from to values → HaveFirst argument others from to values
  have_first argument others from to [] have = absurd have
  have_first argument others from to (value ∷ more) have =
      record { value = value; more = more; are = refl; end = have.0; fits = have.1; is_value = have.2; have_more = have.3 }

-- ---- numbers in place of two values

set_behind : (before behind : List ℤ) (value new : ℤ) → slice_set (before ++ value ∷ behind) (length before) new ≡ before ++ new ∷ behind
set_behind [] behind value new = refl
set_behind (first ∷ before) behind value new = ap (λ values. first ∷ values) (set_behind before behind value new)

set_at : (before behind : List ℤ) (value new : ℤ) (place : ℕ) → place ≡ length before → slice_set (before ++ value ∷ behind) place new ≡ before ++ new ∷ behind
set_at before behind value new place is = ap (λ n. slice_set (before ++ value ∷ behind) n new) is ∙ set_behind before behind value new

set_two : (before between behind : List ℤ) (a b new other : ℤ) (place next : ℕ) → place ≡ length before → next ≡ length before + 1 + length between
    → slice_set (slice_set (before ++ a ∷ (between ++ b ∷ behind)) place new) next other ≡ before ++ new ∷ (between ++ other ∷ behind)
set_two before between behind a b new other place next is is' =
    ap (λ values. slice_set values next other) (set_at before (between ++ b ∷ behind) a new place is ∙ sym (append_assoc before (new ∷ between) (b ∷ behind)))
    ∙ set_at (before ++ new ∷ between) behind b other next (omega (arith, is', length-append before (new ∷ between)))
    ∙ append_assoc before (new ∷ between) (other ∷ behind)

-- ---- the arguments of a line

-- a term with the values before a line, and the line that was opened for its arguments
pub record IsTermLine (p : PosedProblem) (form : WideForm) (before : List ℤ) (arguments : List Arg) (from to : ℕ)
    (line : OpenedLine) (term : TermLine) : Type 0 where
  pub factors : List ℤ
  pub opened : IsOpenedOn p arguments factors from to line
  pub factors_are : factors ≡ take (length arguments) (replicate 4 (pos 0))
  pub plain : IsPlain line term
  pub form_is : form_of term.term.now ≡ form
  pub goal_is : term.goal ≡ (algebra_of p).goal
  pub values_are : term.values.now ≡ before ++ nothing arguments
  pub before_is : term.before ≡ length before
  pub behind_is : term.behind ≡ length before + 1 + length line.arguments.middle.now
  pub are : AreTermArguments p (terms.Wide form) before arguments from to

module _ (p : PosedProblem) (form : WideForm) (before : List ℤ) (arguments : List Arg) (from to : ℕ) (line : OpenedLine)
    (term : TermLine) (it : IsTermLine p form before arguments from to line term) where
  open line use {
    arguments.{
      first.{now as first},
      first_factor,
      middle.{now as middle},
      middle_factors.{now as middle_factors},
      second.{now as second},
      second_factor,
      tail.{now as tail},
      tail_factors.{now as tail_factors},
    },
    boundary.{letters, last, positions.{now as positions}},
  }

  abbrev line_values : ℤ → ℤ → List ℤ
  line_values value other = value ∷ (nothing middle ++ other ∷ nothing tail)

  all_nothing : nothing arguments ≡ line_values (pos 0) (pos 0)
  all_nothing = ap nothing it.opened.arguments_are ∙ ap (λ values. pos 0 ∷ values) (nothing_joined middle (second ∷ tail))

  values_at_are : (number other : ℤ) → values_at term number other ≡ before ++ line_values (turned term.goal number) (turned term.goal other)
  values_at_are number other =
      ap (λ values. slice_set (slice_set values term.before (turned term.goal number)) term.behind
      (turned term.goal other)) (it.values_are ∙ ap (λ values. before ++ values) all_nothing)
      ∙ set_two before (nothing middle) (nothing tail) (pos 0) (pos 0) (turned term.goal number) (turned term.goal other) term.before term.behind it.before_is
      (omega (arith, it.behind_is, length-replicate (length middle) (pos 0)))

  pub two : AreTwo term
  two = record {
    in_order = omega (arith, it.before_is, it.behind_is);
    within = omega (
      arith,
      it.behind_is,
      ap length it.values_are,
      length-append before (nothing arguments),
      length-replicate (length arguments) (pos 0),
      ap length it.opened.arguments_are,
      length-append middle
          (second ∷ tail),
    );
  }

  -- the tokens between and behind make no difference
  middle_idle : AreIdle form (term.before + 1) middle
  middle_idle = subst (λ form. AreIdle form (term.before + 1) middle) it.form_is it.plain.middle

  tail_idle : AreIdle form (term.behind + 1) tail
  tail_idle = subst (λ form. AreIdle form (term.behind + 1) tail) it.form_is it.plain.tail

  module _ (HasScore : Cell → ℤ → Type 0) where
    -- the values at a position, which may be those of two cells and nothing else
    record AreLaid (value other : ℤ) : Type 0 where
      values : List ℤ
      have : HaveValues p HasScore arguments from to values
      same_value : wide_value form (before ++ values) ≡ wide_value form (before ++ line_values value other)
      same_size : wide_magnitude form (map nat_abs (before ++ values)) ≡ wide_magnitude form (map nat_abs (before ++ line_values value other))

    have_values : (position : ℕ) → Contains positions position → (value other : ℤ)
        → IsValue p HasScore (on_span first line.from position) value
        → IsValue p HasScore (on_span second (position + letters) last) other
        → AreLaid value other
    have_values position stands value other is is' =
        let fit = (it.opened.boundary.exact position).0 stands in
        let between = idle_have p HasScore form (term.before + 1) middle position (position + letters) middle_idle fit.1 in
        let after = idle_have p HasScore form (term.behind + 1) tail last to tail_idle fit.3 in
        let behind : HaveValues p HasScore (second ∷ tail) (position + letters) to (other ∷ after.0) = (last, fit.2, is', after.1) in
        let have : HaveValues p HasScore (first ∷ (middle ++ second ∷ tail)) line.from to (value ∷ (between.0 ++ other ∷ after.0)) = (
          position,
          fit.0,
          is,
          values_joined p HasScore middle (second ∷ tail) position (position + letters) to between.0 (other ∷ after.0) between.1 behind,
        ) in
        let at : term.before + 1 ≡ length before + 1 = omega (arith, it.before_is) in
        let at' : term.behind + 1 ≡ length before + 2 + length middle = omega (arith, it.behind_is) in
        record {
          values = value ∷ (between.0 ++ other ∷ after.0);
          have =
              subst (λ them. HaveValues p HasScore them from to (value ∷ (between.0 ++ other ∷ after.0))) (sym it.opened.arguments_are)
              (subst (λ begin. HaveValues p HasScore (first ∷ (middle ++ second ∷ tail)) begin to (value ∷ (between.0 ++ other ∷ after.0))) it.opened.begins have);
          same_value =
              same_value p HasScore form before between.0 after.0 middle tail position (position + letters) last to (term.before + 1) (term.behind + 1)
              value other at at' middle_idle tail_idle between.1 after.1;
          same_size =
              same_size p HasScore form before between.0 after.0 middle tail position (position + letters) last to (term.before + 1) (term.behind + 1)
              value other at at' middle_idle tail_idle between.1 after.1;
        }

    -- the values at a position
    record AreThrough (values : List ℤ) : Type 0 where
      position : ℕ
      stands : Contains positions position
      value : ℤ
      other : ℤ
      is_value : IsValue p HasScore (on_span first line.from position) value
      is_other : IsValue p HasScore (on_span second (position + letters) last) other
      same : wide_value form (before ++ values) ≡ wide_value form (before ++ line_values value other)

    are_through : (values : List ℤ) → HaveValues p HasScore arguments from to values → AreThrough values
    are_through values have =
        let moved : HaveValues p HasScore (first ∷ (middle ++ second ∷ tail)) line.from to values =
        subst (λ begin. HaveValues p HasScore (first ∷ (middle ++ second ∷ tail)) begin to values) (sym it.opened.begins)
        (subst (λ them. HaveValues p HasScore them from to values) it.opened.arguments_are have) in
        let one = have_first p HasScore first (middle ++ second ∷ tail) line.from to values moved in
        let parted = values_parted p HasScore middle (second ∷ tail) one.end to one.more one.have_more in
        let two = have_first p HasScore second tail parted.middle to parted.others parted.back_have in
        let covers = values_cover p HasScore middle one.end parted.middle parted.values parted.front_have in
        let tail_covers = values_cover p HasScore tail two.end to two.more two.have_more in
        let at : parted.middle ≡ one.end + letters = it.opened.boundary.one_middle one.end parted.middle covers in
        let ends : two.end ≡ last = it.opened.boundary.one_tail two.end tail_covers in
        let fits : FitsSpan p (on_span second (one.end + letters) last) =
        subst (λ n. FitsSpan p (on_span second n last))
        at (subst (λ n. FitsSpan p (on_span second parted.middle n)) ends two.fits) in
        let is_other : IsValue p HasScore (on_span second (one.end + letters) last) two.value =
        subst (λ n. IsValue p HasScore (on_span second n last) two.value)
        at (subst (λ n. IsValue p HasScore (on_span second parted.middle n) two.value) ends two.is_value) in
        let more : values ≡ one.value ∷ (parted.values ++ two.value ∷ two.more) =
        one.are ∙ ap (λ them. one.value ∷ them) (parted.are ∙ ap (λ them. parted.values ++ them) two.are) in
        let same =
        same_value p HasScore form before parted.values two.more middle tail one.end parted.middle two.end to (term.before + 1) (term.behind + 1)
        one.value two.value (omega (arith, it.before_is)) (omega (arith, it.behind_is)) middle_idle tail_idle parted.front_have two.have_more in
        record {
          position = one.end;
          stands = (it.opened.boundary.exact one.end).1 (
            one.fits,
            subst (λ n. Cover p middle one.end n) at covers,
            fits,
            subst (λ n. Cover p tail n to) ends tail_covers,
          );
          value = one.value;
          other = two.value;
          is_value = one.is_value;
          is_other = is_other;
          same = ap (λ them. wide_value form (before ++ them)) more ∙ same;
        }

  -- ---- numbers for the two

  module _ (sound : AreSound p) (width : Width) (firsts seconds : List ℤ) (on : AreNumbersOn width line firsts seconds) where
    abbrev scales : Scales
    scales = record { before = turned line.row.goal first_factor; behind = turned line.column.goal second_factor }

    scaled : IsScaledLine line scales
    scaled = record {
      worthless =
          nothing_worthless (length arguments) 4 middle middle_factors (first_factor ∷ []) (second_factor ∷ tail_factors)
          (sym it.factors_are ∙ it.opened.factors_are);
      before = record { rule = it.plain.first.0; is_rule = it.plain.first.1; scale_is = refl };
      behind = record { rule = it.plain.second.0; is_rule = it.plain.second.1; scale_is = refl };
    }

    numbers : AreNumbersOf width line scales firsts seconds
    numbers =
        record {
          scaled = scaled;
          firsts_proper = on.firsts_proper;
          seconds_proper = on.seconds_proper;
          firsts_told = on.firsts_told;
          seconds_told = on.seconds_told;
        }

    pub have : HaveNumbers (positions_of line) firsts seconds
    have = have_numbers p sound.one width on.spaced on.small line it.opened.opened scales firsts seconds numbers

    module _ (position : ℕ) (stands : Contains positions position) where
      same : position + letters - line.column.first ≡ number_at (positions_of line) position
      same = same_position p sound.one width on.spaced on.small line it.opened.opened scales firsts seconds numbers position

      value_before : (number : ℤ) → slice_get firsts (number_at (positions_of line) position) ≡ Some number
          → (number ≡ width.mark → ⊥) → IsValue p (HasBestScore p) (on_span first line.from position)
          (turned term.goal number)
      value_before number there apart =
          subst (λ goal. IsValue p (HasBestScore p) (on_span first line.from position) (turned goal number)) it.plain.row
          (value_told p sound.one width on.spaced on.small first first_factor line.row.goal scales.before scaled.before
          firsts on.firsts_proper line.row.first position line.from position
          (row p sound.one width on.spaced on.small line it.opened.opened scales firsts seconds numbers position stands) number there apart)

      value_behind : (number : ℤ) → slice_get seconds (number_at (positions_of line) position) ≡ Some number
          → (number ≡ width.mark → ⊥) → IsValue p (HasBestScore p) (on_span second (position + letters) last)
          (turned term.goal number)
      value_behind number there apart =
          subst (λ goal. IsValue p (HasBestScore p) (on_span second (position + letters) last) (turned goal number)) it.plain.column
          (value_told p sound.one width on.spaced on.small second second_factor line.column.goal scales.behind
          scaled.behind seconds on.seconds_proper line.column.first (position + letters) (position + letters) last
          (column p sound.one width on.spaced on.small line it.opened.opened scales firsts seconds numbers position
          stands) number (ap (slice_get seconds) same ∙ there) apart)

      -- a number for a value
      record HasNumber (numbers : List ℤ) (value : ℤ) : Type 0 where
        number : ℤ
        there : slice_get numbers (number_at (positions_of line) position) ≡ Some number
        apart : number ≡ width.mark → ⊥
        is : value ≡ turned term.goal number

      number_before : (value : ℤ) → IsValue p (HasBestScore p) (on_span first line.from position) value → HasNumber firsts value
      number_before value is =
          let told =
          number_told p sound.one width on.spaced on.small first first_factor line.row.goal scales.before scaled.before
          firsts on.firsts_proper line.row.first position line.from position
          (row p sound.one width on.spaced on.small line it.opened.opened scales firsts seconds numbers position stands) value is in
          record { number = told.0; there = told.1; apart = told.2; is = told.3 ∙ ap (λ goal. turned goal told.0) it.plain.row }

      number_behind : (value : ℤ) → IsValue p (HasBestScore p) (on_span second (position + letters) last) value → HasNumber seconds value
      number_behind value is =
          let told =
          number_told p sound.one width on.spaced on.small second second_factor line.column.goal scales.behind
          scaled.behind seconds on.seconds_proper line.column.first (position + letters) (position + letters) last
          (column p sound.one width on.spaced on.small line it.opened.opened scales firsts seconds numbers position stands) value is in
          record {
            number = told.0;
            there = ap (slice_get seconds) (sym same) ∙ told.1;
            apart = told.2;
            is = told.3
                ∙ ap (λ goal. turned goal told.0) it.plain.column;
          }

    -- the values at two numbers
    laid_at : (position : ℕ) → Contains positions position
        → (number : ℤ) (has : HasTermValue width term firsts seconds (number_at (positions_of line) position) number)
        → AreLaid (HasBestScore p) (turned term.goal has.before) (turned term.goal has.behind)
    laid_at position stands number has =
        have_values (HasBestScore p) position stands (turned term.goal has.before) (turned term.goal has.behind)
        (value_before position stands has.before has.before_there has.before_scores)
        (value_behind position stands has.behind has.behind_there has.behind_scores)

    value_is : (number other : ℤ) → turned term.goal (wide_value (form_of term.term.now) (values_at term number other))
        ≡ turned (algebra_of p).goal (wide_value form (before ++ line_values (turned term.goal number) (turned term.goal other)))
    value_is number other = λ i. turned (it.goal_is i) (wide_value (it.form_is i) (values_at_are number other i))

    to_score : (number : ℤ) → HasTermValueAt width term (positions_of line) firsts seconds number
        → HasTermScore p (terms.Wide form) before arguments from to number
    to_score number (position, stands, has) =
        let laid = laid_at position stands number has in
        (laid.values, laid.have, has.is ∙ value_is has.before has.behind ∙ ap (turned (algebra_of p).goal) (sym laid.same_value))

    to_value : (number : ℤ) → HasTermScore p (terms.Wide form) before arguments from to number
        → HasTermValueAt width term (positions_of line) firsts seconds number
    to_value number (values, have, is) =
        let through = are_through (HasBestScore p) values have in
        let a = number_before through.position through.stands through.value through.is_value in
        let b = number_behind through.position through.stands through.other through.is_other in
        let same : wide_value form (before ++ values)
        ≡ wide_value form (before ++ line_values (turned term.goal a.number) (turned term.goal b.number)) =
        through.same ∙ (λ i. wide_value form (before ++ line_values (a.is i) (b.is i))) in (
          through.position,
          through.stands,
          record {
            before = a.number;
            behind = b.number;
            before_there = a.there;
            behind_there = b.there;
            before_scores = a.apart;
            behind_scores = b.apart;
            is = is ∙ ap (turned (algebra_of p).goal) same ∙ sym (value_is a.number b.number);
          },
        )

    low : (bound : ℕ) → IsScoreBound p.grammar p.algebra (length p.word) bound → bound ≤ width.limit
        → AreLowValues width term (positions_of line) firsts seconds
    low bound scores within position number stands has =
        let laid = laid_at position stands number has in
        let kept = values_kept p (HasBestScore p) (IsWithinBound p) sound.within arguments from to laid.values laid.have in
        let small : wide_magnitude form (map nat_abs (before ++ laid.values)) ≤ bound = it.are.bounded bound laid.values scores kept in
        let same : wide_magnitude (form_of term.term.now) (map nat_abs (values_at term has.before has.behind))
        ≡ wide_magnitude form (map nat_abs (before ++ line_values (turned term.goal has.before) (turned term.goal has.behind))) =
        λ i. wide_magnitude (it.form_is i) (map nat_abs (values_at_are has.before has.behind i)) in
        omega (arith, small, within, same, laid.same_size)

    greatest_score : (greatest : Option ℤ) → IsGreatestOf (HasTermValueAt width term (positions_of line) firsts seconds)
        greatest → IsGreatestOf (HasTermScore p (terms.Wide form) before arguments from to) greatest
    greatest_score greatest =
        greatest_same (HasTermValueAt width term (positions_of line) firsts seconds)
        (HasTermScore p (terms.Wide form) before arguments from to) greatest to_score to_value

  pub numbers_fit : AreSound p → (bound : ℕ) → IsScoreBound p.grammar p.algebra (length p.word) bound → AreFitNumbers line term bound
  numbers_fit sound bound scores width firsts seconds on = (have sound width firsts seconds on, low sound width firsts seconds on bound scores)

  pub found_score : AreSound p → (bound : ℕ) (greatest : Option ℤ) → IsFoundOn line term bound greatest
      → IsGreatestOf (HasTermScore p (terms.Wide form) before arguments from to) greatest
  found_score sound bound greatest found = greatest_score sound found.width found.firsts found.seconds found.are greatest found.is_greatest

-- ---- arguments that weigh nothing

module _ (p : PosedProblem) (form : Term) (before : List ℤ) (arguments : List Arg) (from to : ℕ) (are : AreTermArguments p form before arguments from to) where
  pub nothing_weighted : AreWeighted p arguments (take (length arguments) (replicate 4 (pos 0)))
  nothing_weighted = record {
    known = are.known;
    few = omega (arith, are.few);
    factors_each = omega (arith, are.few, length-take (length arguments) (replicate 4 (pos 0)), length-replicate 4 (pos 0));
    tokens_low = are.tokens_low;
  }

  pub nothing_low : AreLow p arguments (take (length arguments) (replicate 4 (pos 0))) from to
  nothing_low values have = omega (arith, nothing_weighs (length arguments) 4 (map nat_abs values))

  -- without a total there is no score
  pub none_scored : (factors : List ℤ) → ((total : ℤ) → HasTotal p (HasBestScore p) arguments factors from to total → ⊥)
      → (number : ℤ) → HasTermScore p form before arguments from to number → ⊥
  none_scored factors none number (values, have, is) = none (weighted_sum factors values) (values, have, refl)
