-- Values of arguments that are laid one behind the other, and their totals.
use Rattle.std.proofs.Common.{◌≡◌, ℕ, suc, ◌+◌, ◌<◌, ◌≤◌, ℤ, pos, ◌+ℤ◌, ◌*ℤ◌, nat_abs, Option, Some, List, [], ◌∷◌, length, map, refl, sym, ap, ◌∙◌, arith}
use Rattle.std.proofs.lemmas.Int.{ints, unsigned_abs-mul}
use Rattle.adp_model.specs.declared.grammar.Arg.{Arg}
use Rattle.adp_model.specs.declared.grammar.Arg.TheVariants.{Rule, Literal, Letter, Run}
use Rattle.adp_model.specs.declared.cell.Cell.{Cell}
use Rattle.adp_model.specs.PosedProblem.{PosedProblem}
use Rattle.adp_model.specs.Tokens.{letters_between, token_value}
use Rattle.adp_model.specs.Terms.{weighted_sum, weighted_total}
use Rattle.adp_model.specs.Splits.{FitsSpan}
use Rattle.adp_model.specs.FirstSplit.{IsValue}
use Rattle.adp_model.specs.ProblemFields.{greatest_score}
use Rattle.viable_splits.specs.Placing.{on_span, Cover}
use Rattle.cell_answers.specs.Through.{HasTotalAt}
use Rattle.cell_answers.specs.Totals.{HaveValues, HasTotal, IsWithinBound, AreLow}
use Rattle.score_numbers.specs.Greatest.{IsGreatestOf}
use Rattle.cell_answers.proofs.Greatest.{greatest_same, HasBefore}

-- a cell has one score at most
abbrev pub OneScore : (Cell → ℤ → Type 0) → Type 0
OneScore HasScore = (cell : Cell) (a b : ℤ) → HasScore cell a → HasScore cell b → a ≡ b

module _ (p : PosedProblem) where
  pub value_kept : (A B : Cell → ℤ → Type 0) → ((cell : Cell) (score : ℤ) → A cell score → B cell score)
      → (argument : Arg) (from to : ℕ) (value : ℤ) → IsValue p A (on_span argument from to) value
      → IsValue p B (on_span argument from to) value
  value_kept A B kept (Rule rule) from to value is = kept _ value is
  value_kept A B kept (Literal text) from to value is = is
  value_kept A B kept (Letter class) from to value is = is
  value_kept A B kept (Run class low high) from to value is = is

  -- values at scores are values at what holds of scores
  pub values_kept : (A B : Cell → ℤ → Type 0) → ((cell : Cell) (score : ℤ) → A cell score → B cell score)
      → (arguments : List Arg) (from to : ℕ) (values : List ℤ) → HaveValues p A arguments from to values
      → HaveValues p B arguments from to values
  values_kept A B kept [] from to [] have = have
  values_kept A B kept [] from to (value ∷ values) have = absurd have
  values_kept A B kept (argument ∷ arguments) from to [] have = absurd have
  values_kept A B kept (argument ∷ arguments) from to (value ∷ values) have =
      (have.0, have.1, value_kept A B kept argument from have.0 value have.2, values_kept A B kept arguments have.0 to values have.3)

  pub value_unique : (HasScore : Cell → ℤ → Type 0) → OneScore HasScore → (argument : Arg) (from to : ℕ) (a b : ℤ)
      → IsValue p HasScore (on_span argument from to) a → IsValue p HasScore (on_span argument from to) b → a ≡ b
  value_unique HasScore one (Rule rule) from to a b is is' = one _ a b is is'
  value_unique HasScore one (Literal text) from to a b is is' = is ∙ sym is'
  value_unique HasScore one (Letter class) from to a b is is' = is ∙ sym is'
  value_unique HasScore one (Run class low high) from to a b is is' = is ∙ sym is'

  pub values_cover : (HasScore : Cell → ℤ → Type 0) (arguments : List Arg) (from to : ℕ) (values : List ℤ)
      → HaveValues p HasScore arguments from to values → Cover p arguments from to
  values_cover HasScore [] from to [] have = have
  values_cover HasScore [] from to (value ∷ values) have = absurd have
  values_cover HasScore (argument ∷ arguments) from to [] have = absurd have
  values_cover HasScore (argument ∷ arguments) from to (value ∷ values) have = (have.0, have.1, values_cover HasScore arguments have.0 to values have.3)

  pub values_length : (HasScore : Cell → ℤ → Type 0) (arguments : List Arg) (from to : ℕ) (values : List ℤ)
      → HaveValues p HasScore arguments from to values → length values ≡ length arguments
  values_length HasScore [] from to [] have = refl
  values_length HasScore [] from to (value ∷ values) have = absurd have
  values_length HasScore (argument ∷ arguments) from to [] have = absurd have
  values_length HasScore (argument ∷ arguments) from to (value ∷ values) have = ap suc (values_length HasScore arguments have.0 to values have.3)

  -- an argument on a span that it may have has some value within bounds
  pub some_value : (argument : Arg) (from to : ℕ) → (value : ℤ) × IsValue p (IsWithinBound p) (on_span argument from to) value
  some_value (Rule rule) from to = (pos 0, λ bound are. omega arith)
  some_value (Literal text) from to = (token_value p.grammar (Literal text) (letters_between p.word from to), refl)
  some_value (Letter class) from to = (token_value p.grammar (Letter class) (letters_between p.word from to), refl)
  some_value (Run class low high) from to = (token_value p.grammar (Run class low high) (letters_between p.word from to), refl)

-- a sum is no greater than both numbers
pub nat_abs-sum : (a b : ℤ) → nat_abs (a +ℤ b) ≤ nat_abs a + nat_abs b
nat_abs-sum a b = omega (arith, ints)

-- a sum is no greater than the products that it adds up
pub sum_low : (factors values : List ℤ) → nat_abs (weighted_sum factors values) ≤ weighted_total factors (map nat_abs values)
sum_low [] values = omega arith
sum_low (factor ∷ factors) [] = omega arith
sum_low (factor ∷ factors) (value ∷ values) =
    let others = sum_low factors values in
    let product = unsigned_abs-mul factor value in
    let sum = nat_abs-sum (factor *ℤ value) (weighted_sum factors values) in
    omega arith

module _ (p : PosedProblem) (HasScore : Cell → ℤ → Type 0) (argument : Arg) (arguments : List Arg) (factor : ℤ) (factors : List ℤ) (from to : ℕ) where
  -- ends before this one
  abbrev pub HasTotalBefore : ℕ → ℤ → Type 0
  HasTotalBefore = HasBefore (λ end. HasTotalAt p HasScore argument arguments factor factors from end to)

  pub total_at : (total : ℤ) → HasTotal p HasScore (argument ∷ arguments) (factor ∷ factors) from to total
      → (end : ℕ) × HasTotalAt p HasScore argument arguments factor factors from end to total
  total_at total ([], have, is) = absurd have
  total_at total (value ∷ values, have, is) =
      (have.0, record { fits = have.1; value = value; is_value = have.2; others = weighted_sum factors values; have_others = (values, have.3, refl); is = is })

  pub at_total : (end : ℕ) (total : ℤ) → HasTotalAt p HasScore argument arguments factor factors from end to total
      → HasTotal p HasScore (argument ∷ arguments) (factor ∷ factors) from to total
  at_total end total it =
      (it.value ∷ it.have_others.0, (end, it.fits, it.is_value, it.have_others.1), it.is ∙ ap (λ others. (factor *ℤ it.value) +ℤ others) it.have_others.2)

  -- of the totals with one end the greatest is that with the greatest of the others
  pub greatest_at : OneScore HasScore → (end : ℕ) (value others : ℤ) → FitsSpan p (on_span argument from end)
      → IsValue p HasScore (on_span argument from end) value
      → IsGreatestOf (HasTotal p HasScore arguments factors end to) (Some others)
      → IsGreatestOf (HasTotalAt p HasScore argument arguments factor factors from end to) (Some ((factor *ℤ value) +ℤ others))
  greatest_at one end value others fits is_value greatest = (
    record { fits = fits; value = value; is_value = is_value; others = others; have_others = greatest.0; is = refl },
    λ number it.
        let same : (factor *ℤ it.value) ≡ (factor *ℤ value) = ap (λ v. factor *ℤ v)
        (value_unique p HasScore one argument from end it.value value it.is_value is_value) in
        let l = greatest.1 it.others it.have_others in
        let e = it.is in
        omega (arith, ints),
  )

  -- where all ends come before the bound
  pub before_all : (bound : ℕ) (a : Option ℤ)
      → ((end : ℕ) → FitsSpan p (on_span argument from end) → Cover p arguments end to → end < bound)
      → IsGreatestOf (HasTotalBefore bound) a
      → IsGreatestOf (HasTotal p HasScore (argument ∷ arguments) (factor ∷ factors) from to) a
  before_all bound a ends before =
      greatest_same (HasTotalBefore bound) (HasTotal p HasScore (argument ∷ arguments) (factor ∷ factors) from to) a
      (λ number h. at_total h.0 number h.2)
      (λ number h.
      let it = total_at number h in
      (it.0, ends it.0 it.1.fits (values_cover p HasScore arguments it.0 to it.1.have_others.0 it.1.have_others.1), it.1))
      before

-- the rest behind a first argument is low where the whole is
pub low_rest : (p : PosedProblem) (argument : Arg) (arguments : List Arg) (factor : ℤ) (factors : List ℤ)
    (from end to : ℕ) → AreLow p (argument ∷ arguments) (factor ∷ factors) from to
    → FitsSpan p (on_span argument from end) → AreLow p arguments factors end to
low_rest p argument arguments factor factors from end to low fits values have =
    let first = some_value p argument from end in
    let all = low (first.0 ∷ values) (end, fits, first.1, have) in
    omega arith

-- the parts of a total are no greater than the greatest score
pub low_parts : (p : PosedProblem) (HasScore : Cell → ℤ → Type 0)
    → ((cell : Cell) (score : ℤ) → HasScore cell score → IsWithinBound p cell score)
    → (argument : Arg) (arguments : List Arg) (factor : ℤ) (factors : List ℤ) (from end to : ℕ) (total : ℤ)
    → AreLow p (argument ∷ arguments) (factor ∷ factors) from to
    → (it : HasTotalAt p HasScore argument arguments factor factors from end to total)
    → (nat_abs (factor *ℤ it.value) ≤ greatest_score) × (nat_abs it.others ≤ greatest_score)
    × (nat_abs total ≤ greatest_score)
low_parts p HasScore within argument arguments factor factors from end to total low it =
    let values = it.have_others.0 in
    let have = values_kept p HasScore (IsWithinBound p) within (argument ∷ arguments) from to (it.value ∷ values)
    (end, it.fits, it.is_value, it.have_others.1) in
    let all = low (it.value ∷ values) have in
    let rest = sum_low factors values in
    let product = unsigned_abs-mul factor it.value in
    let others : nat_abs it.others ≡ nat_abs (weighted_sum factors values) = ap nat_abs it.have_others.2 in
    let sum = sum_low (factor ∷ factors) (it.value ∷ values) in
    let same : nat_abs total ≡ nat_abs ((factor *ℤ it.value) +ℤ weighted_sum factors values) =
    ap nat_abs (it.is ∙ ap (λ o. (factor *ℤ it.value) +ℤ o) it.have_others.2) in
    (omega arith, omega arith, omega arith)
