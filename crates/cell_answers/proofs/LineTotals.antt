-- The totals of a line: through each position of its boundary there is one at most.
use Rattle.std.proofs.Common.{◌≡◌, ℕ, ◌+◌, ◌≤◌, ℤ, pos, ◌+ℤ◌, ◌*ℤ◌, nat_abs, Some, List, [], ◌∷◌, ◌++◌, length, map, refl, sym, ap, subst, ◌∙◌, arith}
use Rattle.std.specs.List.{AllByRecursion, Contains}
use Rattle.std.proofs.lemmas.Int.{ints, unsigned_abs-mul}
use Rattle.adp_model.specs.declared.grammar.Arg.{Arg}
use Rattle.adp_model.specs.declared.grammar.Arg.TheVariants.{Rule, Literal, Letter, Run}
use Rattle.adp_model.specs.declared.cell.Cell.{Cell}
use Rattle.adp_model.specs.PosedProblem.{PosedProblem}
use Rattle.adp_model.specs.Tokens.{letters_between, token_value}
use Rattle.adp_model.specs.Terms.{weighted_sum, weighted_total}
use Rattle.adp_model.specs.ProblemFields.{greatest_score}
use Rattle.adp_model.specs.Splits.{FitsSpan}
use Rattle.adp_model.specs.FirstSplit.{IsValue}
use Rattle.viable_splits.specs.Placing.{on_span, Cover}
use Rattle.split_lines.specs.Laid.{IsFixed, LineParts, AreBoundaries}
use Rattle.cell_answers.specs.Through.{HasTotalThrough}
use Rattle.cell_answers.specs.Totals.{HaveValues, HasTotal, IsWithinBound, AreLow}
use Rattle.score_numbers.specs.Greatest.{IsGreatestOf}
use Rattle.cell_answers.proofs.Totalling.{OneScore, values_kept, value_unique, values_cover, values_length, some_value, sum_low}
use Rattle.cell_answers.proofs.Tokens.{fixed_span}

-- ---- arguments before others

module _ (p : PosedProblem) (HasScore : Cell → ℤ → Type 0) where
  pub values_joined : (front back : List Arg) (from middle to : ℕ) (values others : List ℤ)
      → HaveValues p HasScore front from middle values → HaveValues p HasScore back middle to others
      → HaveValues p HasScore (front ++ back) from to (values ++ others)
  values_joined [] back from middle to [] others have have' = subst (λ n. HaveValues p HasScore back n to others) (sym have) have'
  values_joined [] back from middle to (value ∷ values) others have have' = absurd have
  values_joined (argument ∷ front) back from middle to [] others have have' = absurd have
  values_joined (argument ∷ front) back from middle to (value ∷ values) others have have' =
      (have.0, have.1, have.2, values_joined front back have.0 middle to values others have.3 have')

  -- values of both, parted
  pub record AreParted (front back : List Arg) (from to : ℕ) (all : List ℤ) : Type 0 where
    pub middle : ℕ
    pub values : List ℤ
    pub others : List ℤ
    pub front_have : HaveValues p HasScore front from middle values
    pub back_have : HaveValues p HasScore back middle to others
    pub are : all ≡ values ++ others

  pub values_parted : (front back : List Arg) (from to : ℕ) (all : List ℤ)
      → HaveValues p HasScore (front ++ back) from to all → AreParted front back from to all
  values_parted [] back from to all have = record { middle = from; values = []; others = all; front_have = refl; back_have = have; are = refl }
  values_parted (argument ∷ front) back from to [] have = absurd have
  values_parted (argument ∷ front) back from to (value ∷ all) have =
      let rest = values_parted front back have.0 to all have.3 in
      record {
        middle = rest.middle;
        values = value ∷ rest.values;
        others = rest.others;
        front_have = (have.0, have.1, have.2, rest.front_have);
        back_have = rest.back_have;
        are = ap (λ xs. value ∷ xs) rest.are;
      }

pub sum_joined : (factors others : List ℤ) (values more : List ℤ) → length factors ≡ length values
    → weighted_sum (factors ++ others) (values ++ more) ≡ (weighted_sum factors values +ℤ weighted_sum others more)
sum_joined [] others [] more e = omega (arith, ints)
sum_joined [] others (value ∷ values) more e = absurd (omega arith)
sum_joined (factor ∷ factors) others [] more e = absurd (omega arith)
sum_joined (factor ∷ factors) others (value ∷ values) more e = let rest = sum_joined factors others values more (omega arith) in omega (arith, ints)

pub total_joined : (factors others : List ℤ) (values more : List ℤ) → length factors ≡ length values
    → weighted_total (factors ++ others) (map nat_abs (values ++ more)) ≡ weighted_total factors (map nat_abs values)
    + weighted_total others (map nat_abs more)
total_joined [] others [] more e = omega arith
total_joined [] others (value ∷ values) more e = absurd (omega arith)
total_joined (factor ∷ factors) others [] more e = absurd (omega arith)
total_joined (factor ∷ factors) others (value ∷ values) more e = let rest = total_joined factors others values more (omega arith) in omega arith

-- totals of both
pub record AreTotals (p : PosedProblem) (HasScore : Cell → ℤ → Type 0) (front back : List Arg) (factors others : List ℤ)
    (from to : ℕ) (total : ℤ) : Type 0 where
  pub middle : ℕ
  pub front_total : ℤ
  pub back_total : ℤ
  pub front_has : HasTotal p HasScore front factors from middle front_total
  pub back_has : HasTotal p HasScore back others middle to back_total
  pub is : total ≡ (front_total +ℤ back_total)

module _ (p : PosedProblem) (HasScore : Cell → ℤ → Type 0) (front back : List Arg) (factors others : List ℤ)
    (from to : ℕ) (each : length factors ≡ length front) where
  pub totals_parted : (total : ℤ) → HasTotal p HasScore (front ++ back) (factors ++ others) from to total
      → AreTotals p HasScore front back factors others from to total
  totals_parted total (all, have, is) =
      let it = values_parted p HasScore front back from to all have in
      let long : length factors ≡ length it.values = each ∙ sym (values_length p HasScore front from it.middle it.values it.front_have) in
      record {
        middle = it.middle;
        front_total = weighted_sum factors it.values;
        back_total = weighted_sum others it.others;
        front_has = (it.values, it.front_have, refl);
        back_has = (it.others, it.back_have, refl);
        is = is ∙ ap (weighted_sum (factors ++ others)) it.are ∙ sum_joined factors others it.values it.others long;
      }

  pub totals_joined : (middle : ℕ) (a b : ℤ) → HasTotal p HasScore front factors from middle a
      → HasTotal p HasScore back others middle to b → HasTotal p HasScore (front ++ back) (factors ++ others)
      from to (a +ℤ b)
  totals_joined middle a b (values, have, is) (more, have', is') =
      let long : length factors ≡ length values = each ∙ sym (values_length p HasScore front from middle values have) in (
        values ++ more,
        values_joined p HasScore front back from middle to values more have have',
        (λ i. is i +ℤ is' i)
            ∙ sym (sum_joined factors others values more long),
      )

-- what covers has some values within bounds
pub some_values : (p : PosedProblem) (arguments : List Arg) (from to : ℕ) → Cover p arguments from to
    → (values : List ℤ) × HaveValues p (IsWithinBound p) arguments from to values
some_values p [] from to cover = ([], cover)
some_values p (argument ∷ arguments) from to cover =
    let first = some_value p argument from cover.0 in
    let rest = some_values p arguments cover.0 to cover.2 in
    (first.0 ∷ rest.0, (cover.0, cover.1, first.1, rest.1))

module _ (p : PosedProblem) (front back : List Arg) (factors others : List ℤ) (from middle to : ℕ)
    (each : length factors ≡ length front) (low : AreLow p (front ++ back) (factors ++ others) from to) where
  pub low_front : Cover p back middle to → AreLow p front factors from middle
  low_front cover values have =
      let more = some_values p back middle to cover in
      let long : length factors ≡ length values = each ∙ sym (values_length p (IsWithinBound p) front from middle values have) in
      let all = low (values ++ more.0) (values_joined p (IsWithinBound p) front back from middle to values more.0 have more.1) in
      omega (arith, total_joined factors others values more.0 long)

  pub low_back : Cover p front from middle → AreLow p back others middle to
  low_back cover values have =
      let before = some_values p front from middle cover in
      let long : length factors ≡ length before.0 = each ∙ sym (values_length p (IsWithinBound p) front from middle before.0 before.1) in
      let all = low (before.0 ++ values) (values_joined p (IsWithinBound p) front back from middle to before.0 values before.1 have) in
      omega (arith, total_joined factors others before.0 values long)

-- ---- tokens of fixed length

-- they have some values wherever they match
pub fixed_values : (p : PosedProblem) (HasScore : Cell → ℤ → Type 0) (tokens : List Arg) (from to : ℕ)
    → AllByRecursion IsFixed tokens → Cover p tokens from to
    → (values : List ℤ) × HaveValues p HasScore tokens from to values
fixed_values p HasScore [] from to fixed cover = ([], cover)
fixed_values p HasScore (Rule rule ∷ tokens) from to fixed cover = absurd fixed.0
fixed_values p HasScore (Literal text ∷ tokens) from to fixed cover =
    let rest = fixed_values p HasScore tokens cover.0 to fixed.1 cover.2 in (pos 0 ∷ rest.0, (cover.0, cover.1, refl, rest.1))
fixed_values p HasScore (Letter class ∷ tokens) from to fixed cover =
    let rest = fixed_values p HasScore tokens cover.0 to fixed.1 cover.2 in (
      token_value p.grammar (Letter class) (letters_between p.word from cover.0) ∷ rest.0,
      (cover.0, cover.1, refl, rest.1),
    )
fixed_values p HasScore (Run class low high ∷ tokens) from to fixed cover = absurd fixed.0

fixed_value_unique : (p : PosedProblem) (HasScore : Cell → ℤ → Type 0) (token : Arg) (from to : ℕ) (a b : ℤ)
    → IsFixed token → IsValue p HasScore (on_span token from to) a
    → IsValue p HasScore (on_span token from to) b → a ≡ b
fixed_value_unique p HasScore (Rule rule) from to a b fixed is is' = absurd fixed
fixed_value_unique p HasScore (Literal text) from to a b fixed is is' = is ∙ sym is'
fixed_value_unique p HasScore (Letter class) from to a b fixed is is' = is ∙ sym is'
fixed_value_unique p HasScore (Run class low high) from to a b fixed is is' = absurd fixed

-- and no others
fixed_values_unique : (p : PosedProblem) (HasScore : Cell → ℤ → Type 0) (tokens : List Arg) (from to to' : ℕ)
    (values others : List ℤ) → AllByRecursion IsFixed tokens → HaveValues p HasScore tokens from to values
    → HaveValues p HasScore tokens from to' others → values ≡ others
fixed_values_unique p HasScore [] from to to' [] [] fixed have have' = refl
fixed_values_unique p HasScore [] from to to' [] (other ∷ others) fixed have have' = absurd have'
fixed_values_unique p HasScore [] from to to' (value ∷ values) others fixed have have' = absurd have
fixed_values_unique p HasScore (token ∷ tokens) from to to' [] others fixed have have' = absurd have
fixed_values_unique p HasScore (token ∷ tokens) from to to' (value ∷ values) [] fixed have have' = absurd have'
fixed_values_unique p HasScore (token ∷ tokens) from to to' (value ∷ values) (other ∷ others) fixed have have' =
    let one = fixed_span p token from have.0 fixed.0 have.1 in
    let two = fixed_span p token from have'.0 fixed.0 have'.1 in
    let same : have'.0 ≡ have.0 = omega (arith, one, two) in
    let a : value ≡ other = fixed_value_unique p HasScore token from have.0 value other fixed.0 have.2
    (subst (λ n. IsValue p HasScore (on_span token from n) other) same have'.2) in
    let b : values ≡ others = fixed_values_unique p HasScore tokens have.0 to to' values others fixed.1 have.3
    (subst (λ n. HaveValues p HasScore tokens n to' others) same have'.3) in
    cc

pub fixed_total_unique : (p : PosedProblem) (HasScore : Cell → ℤ → Type 0) (tokens : List Arg) (factors : List ℤ)
    (from to to' : ℕ) (a b : ℤ) → AllByRecursion IsFixed tokens → HasTotal p HasScore tokens factors from to a
    → HasTotal p HasScore tokens factors from to' b → a ≡ b
fixed_total_unique p HasScore tokens factors from to to' a b fixed (values, have, is) (others, have', is') =
    is ∙ ap (weighted_sum factors) (fixed_values_unique p HasScore tokens from to to' values others fixed have have') ∙ sym is'

-- ---- through a position of the boundary

abbrev pub open_parts : Arg → List Arg → Arg → LineParts
open_parts first middle second = record { first = first; middle = middle; second = second; tail = [] }

module _ (p : PosedProblem) (HasScore : Cell → ℤ → Type 0) (first : Arg) (middle : List Arg) (second : Arg)
    (first_factor : ℤ) (middle_factors : List ℤ) (second_factor : ℤ) (from letters last : ℕ) (positions : List ℕ)
    (are : AreBoundaries p (open_parts first middle second) from last letters last positions) (each : length middle_factors ≡ length middle) where
  pub through_total : (position : ℕ) (total : ℤ) → Contains positions position
      → HasTotalThrough p HasScore first middle second first_factor middle_factors second_factor from letters last
      position total
      → HasTotal p HasScore (first ∷ (middle ++ second ∷ [])) (first_factor ∷ (middle_factors ++ second_factor ∷ [])) from last total
  through_total position total stands it =
      let fits = (are.exact position).0 stands in
      let back : HasTotal p HasScore (second ∷ []) (second_factor ∷ []) (position + letters) last
      (second_factor *ℤ it.other) = (it.other ∷ [], (last, fits.2, it.is_other, refl), omega (arith, ints)) in
      let rest = totals_joined p HasScore middle (second ∷ []) middle_factors (second_factor ∷ []) position last each
      (position + letters) it.between (second_factor *ℤ it.other) it.has_between back in
      let regroup : (((first_factor *ℤ it.value) +ℤ it.between) +ℤ (second_factor *ℤ it.other))
      ≡ ((first_factor *ℤ it.value) +ℤ (it.between +ℤ (second_factor *ℤ it.other))) = omega (arith, ints) in
      (it.value ∷ rest.0, (position, fits.0, it.is_value, rest.1), it.is ∙ regroup ∙ ap (λ others. (first_factor *ℤ it.value) +ℤ others) rest.2)

  pub total_through : (total : ℤ)
      → HasTotal p HasScore (first ∷ (middle ++ second ∷ [])) (first_factor ∷ (middle_factors ++ second_factor ∷ []))
      from last total
      → (position : ℕ) × Contains positions position × HasTotalThrough p HasScore first middle second first_factor
      middle_factors second_factor from letters last position total
  total_through total ([], have, is) = absurd have
  total_through total (value ∷ values, have, is) =
      by (totals_parted p HasScore middle (second ∷ []) middle_factors (second_factor ∷ []) have.0 last each
      (weighted_sum (middle_factors ++ second_factor ∷ []) values) (values, have.3, refl))
    where
      by : AreTotals p HasScore middle (second ∷ []) middle_factors (second_factor ∷ []) have.0 last
          (weighted_sum (middle_factors ++ second_factor ∷ []) values)
          → (position : ℕ) × Contains positions position × HasTotalThrough p HasScore first middle second first_factor
          middle_factors second_factor from letters last position total
      by it = through it it.back_has
        where
          through : (it : AreTotals p HasScore middle (second ∷ []) middle_factors (second_factor ∷ []) have.0 last
              (weighted_sum (middle_factors ++ second_factor ∷ []) values))
              → HasTotal p HasScore (second ∷ []) (second_factor ∷ []) it.middle last it.back_total
              → (position : ℕ) × Contains positions position × HasTotalThrough p HasScore first middle second
              first_factor middle_factors second_factor from letters last position total
          through it ([], have', is') = absurd have'
          through it (other ∷ more ∷ values', have', is') = absurd have'.3
          through it (other ∷ [], have', is') =
              let cover = values_cover p HasScore middle have.0 it.middle it.front_has.0 it.front_has.1 in
              let at : it.middle ≡ have.0 + letters = are.one_middle have.0 it.middle cover in
              let fits_there = subst (λ n. FitsSpan p (on_span second it.middle n)) have'.3 have'.1 in
              let fits = subst (λ n. FitsSpan p (on_span second n last)) at fits_there in
              let is_there = subst (λ n. IsValue p HasScore (on_span second it.middle n) other) have'.3 have'.2 in
              let there = (are.exact have.0).1 (have.1, subst (λ n. Cover p middle have.0 n) at cover, fits, refl) in
              let e = is in
              let e' = it.is in
              let e'' = is' in (
                have.0,
                there,
                record {
                  value = value;
                  is_value = have.2;
                  between = it.front_total;
                  has_between = subst (λ n. HasTotal p HasScore middle middle_factors have.0 n it.front_total) at it.front_has;
                  other = other;
                  is_other = subst (λ n. IsValue p HasScore (on_span second n last) other) at is_there;
                  is = omega (arith, ints);
                },
              )

  -- there is one total at most through a position
  pub one_through : OneScore HasScore → AllByRecursion IsFixed middle → (position : ℕ) (value between other : ℤ)
      → IsValue p HasScore (on_span first from position) value
      → HasTotal p HasScore middle middle_factors position (position + letters) between
      → IsValue p HasScore (on_span second (position + letters) last) other → (number : ℤ)
      → HasTotalThrough p HasScore first middle second first_factor middle_factors second_factor from letters last
      position number
      → number ≡ (((first_factor *ℤ value) +ℤ between) +ℤ (second_factor *ℤ other))
  one_through one fixed position value between other is_value has_between is_other number it =
      let a : it.value ≡ value = value_unique p HasScore one first from position it.value value it.is_value is_value in
      let b : it.between ≡ between = fixed_total_unique p HasScore middle middle_factors position (position + letters)
      (position + letters) it.between between fixed it.has_between has_between in
      let c : it.other ≡ other = value_unique p HasScore one second (position + letters) last it.other other it.is_other is_other in
      it.is ∙ (λ i. ((first_factor *ℤ a i) +ℤ b i) +ℤ (second_factor *ℤ c i))

  -- so that is the greatest
  pub greatest_through : OneScore HasScore → AllByRecursion IsFixed middle → (position : ℕ) (value between other : ℤ)
      → IsValue p HasScore (on_span first from position) value
      → HasTotal p HasScore middle middle_factors position (position + letters) between
      → IsValue p HasScore (on_span second (position + letters) last) other
      → IsGreatestOf (HasTotalThrough p HasScore first middle second first_factor middle_factors second_factor from
      letters last position) (Some (((first_factor *ℤ value) +ℤ between) +ℤ (second_factor *ℤ other)))
  greatest_through one fixed position value between other is_value has_between is_other = (
    record { value = value; is_value = is_value; between = between; has_between = has_between; other = other; is_other = is_other; is = refl },
    λ number it.
        let same = one_through one fixed position value between other is_value has_between is_other number it in
        omega (arith, ints),
  )

  -- its parts are no greater than the greatest score, all together
  pub through_low : ((cell : Cell) (score : ℤ) → HasScore cell score → IsWithinBound p cell score)
      → AreLow p (first ∷ (middle ++ second ∷ [])) (first_factor ∷ (middle_factors ++ second_factor ∷ [])) from last
      → (position : ℕ) (total : ℤ) → Contains positions position
      → (it : HasTotalThrough p HasScore first middle second first_factor middle_factors second_factor from letters last position total)
      → nat_abs (first_factor *ℤ it.value) + nat_abs it.between + nat_abs (second_factor *ℤ it.other) ≤ greatest_score
  through_low within low position total stands it =
      let fits = (are.exact position).0 stands in
      let between = it.has_between in
      let have : HaveValues p HasScore (second ∷ []) (position + letters) last (it.other ∷ []) = (last, fits.2, it.is_other, refl) in
      let rest = values_joined p HasScore middle (second ∷ []) position (position + letters) last between.0 (it.other ∷ []) between.1 have in
      let all = low (it.value ∷ (between.0 ++ it.other ∷ []))
      (values_kept p HasScore (IsWithinBound p) within (first ∷ (middle ++ second ∷ [])) from last
      (it.value ∷ (between.0 ++ it.other ∷ [])) (position, fits.0, it.is_value, rest)) in
      let long : length middle_factors ≡ length between.0 = each ∙ sym (values_length p HasScore middle position (position + letters) between.0 between.1) in
      let joined = total_joined middle_factors (second_factor ∷ []) between.0 (it.other ∷ []) long in
      let sum = sum_low middle_factors between.0 in
      let e : nat_abs it.between ≡ nat_abs (weighted_sum middle_factors between.0) = ap nat_abs between.2 in
      let a = unsigned_abs-mul first_factor it.value in
      let b = unsigned_abs-mul second_factor it.other in
      omega arith
