-- How great the values of laid arguments and their totals become.
use Rattle.std.proofs.Common.{◌≡◌, ℕ, zero, suc, ◌+◌, ◌-◌, ◌*◌, ◌<◌, ◌≤◌, ◌⊎◌, ℤ, ◌+ℤ◌, nat_abs, Option, Some, None}
use Rattle.std.proofs.Common.{List, [], ◌∷◌, length, map, sum, slice_index, refl, sym, ap, subst, ◌∙◌, inl, inr, arith}
use Rattle.std.specs.Prelude.{◌==◌}
use Rattle.std.proofs.lemmas.Bool.{cases_Bool}
use Rattle.std.proofs.lemmas.Int.{ints}
use Rattle.std.proofs.lemmas.List.{length-map, length-take, length-drop}
use Rattle.std.proofs.lemmas.List.Sums.{sum_by-cons}
use Rattle.adp_model.specs.declared.grammar.Arg.{Arg}
use Rattle.adp_model.specs.declared.grammar.Arg.TheVariants.{Rule, Literal, Letter, Run}
use Rattle.adp_model.specs.declared.grammar.Term.{Term}
use Rattle.adp_model.specs.declared.cell.Cell.{Cell}
use Rattle.adp_model.specs.PosedProblem.{PosedProblem, IsSpan}
use Rattle.adp_model.specs.Parts.{letters_of, alternatives_of, arguments_of, term_of}
use Rattle.adp_model.specs.Tokens.{letters_between, weight_of, total_weight}
use Rattle.adp_model.specs.Terms.{weighted_total, magnitude, term_value}
use Rattle.adp_model.specs.Lengths.{AdmitsLength}
use Rattle.adp_model.specs.Splits.{FitsSpan}
use Rattle.adp_model.specs.FirstSplit.{IsValue}
use Rattle.adp_model.specs.Tree.{Tree}
use Rattle.adp_model.specs.Derivation.{Derives}
use Rattle.adp_model.specs.Scores.{score_of}
use Rattle.adp_model.specs.Bellman.{HasBestScore}
use Rattle.adp_model.specs.Checks.{IsChecked}
use Rattle.adp_model.specs.ProblemFields.{most_letters, greatest_score, IsAdmissible}
use Rattle.adp_model.specs.Bounds.{IsInRange, AreInRange, greatest_weight, argument_bounds, IsGreatest, IsMagnitude}
use Rattle.adp_model.specs.Bounds.{AreScoreBounds, IsRuleBound, IsTokenBound, IsScoreBound}
use Rattle.viable_splits.specs.Placing.{on_span}
use Rattle.split_lines.specs.Kept.{IsScoredBy}
use Rattle.cell_answers.specs.Totals.{HaveValues, IsWithinBound, AreLow}
use Rattle.cell_answers.proofs.Totalling.{nat_abs-sum, values_length}

-- ---- the weights of letters

weight_low : (entries : List (ℕ × ℤ)) (letter : ℕ) (weight : ℤ) → weight_of entries letter ≡ Some weight → nat_abs weight ≤ greatest_weight entries
weight_low [] letter weight e = absurd cc
weight_low (entry ∷ entries) letter weight e =
    elim (cases_Bool (entry.0 == letter)) [
      | inl here ↦
          let found : Some entry.1 ≡ Some weight = rw here at e in
          let same : entry.1 ≡ weight = cc in
          omega (arith, ap nat_abs same)
      | inr there ↦
          let found : weight_of entries letter ≡ Some weight = rw there at e in
          omega (arith, weight_low entries letter weight found)
    ]

total_more_low : (entries : List (ℕ × ℤ)) (letter : ℕ) (letters : List ℕ) (found : Option ℤ)
    → weight_of entries letter ≡ found → nat_abs (total_weight entries letters) ≤ greatest_weight entries
    * length letters
    → nat_abs (total_weight entries (letter ∷ letters)) ≤ greatest_weight entries * length (letter ∷ letters)
total_more_low entries letter letters None e low =
    let is : total_weight entries (letter ∷ letters) ≡ total_weight entries letters = rw e (omega (arith, ints)) in
    let same = ap nat_abs is in
    omega arith
total_more_low entries letter letters (Some weight) e low =
    let is : total_weight entries (letter ∷ letters) ≡ weight +ℤ total_weight entries letters = rw e refl in
    let same = ap nat_abs is in
    let first = weight_low entries letter weight e in
    let both = nat_abs-sum weight (total_weight entries letters) in
    omega arith

total_low : (entries : List (ℕ × ℤ)) (letters : List ℕ) → nat_abs (total_weight entries letters) ≤ greatest_weight entries * length letters
total_low entries [] = omega arith
total_low entries (letter ∷ letters) = total_more_low entries letter letters (weight_of entries letter) refl (total_low entries letters)

-- ---- values on spans

pub length_between : (word : List ℕ) (from to : ℕ) → from ≤ to → to ≤ length word → length (letters_between word from to) ≡ to - from
length_between word from to l m = simp (length-take, length-drop) (omega arith)

module _ (p : PosedProblem) (bound : ℕ → ℕ → ℕ) (are : AreScoreBounds p.grammar p.algebra bound) where
  -- what an argument that has a span adds to the bounds
  record IsBounded (argument : Arg) (from to : ℕ) (value : ℤ) : Type 0 where
    in_range : IsInRange p.grammar argument (to - from)
    number : ℕ
    low : nat_abs value ≤ number
    first : (arguments : List Arg) (lengths : List ℕ)
        → argument_bounds p.grammar bound (argument ∷ arguments) ((to - from) ∷ lengths) ≡ number
        ∷ argument_bounds p.grammar bound arguments lengths

  bounded : (argument : Arg) (from to : ℕ) (value : ℤ) → FitsSpan p (on_span argument from to)
      → IsValue p (IsWithinBound p) (on_span argument from to) value → IsBounded argument from to value
  bounded (Rule rule) from to value fits is = record {
    in_range = fits.1;
    number = bound rule (to - from);
    low = is bound are;
    first = λ arguments lengths. refl;
  }
  bounded (Literal text) from to value fits is = record {
    in_range = sym (length_between p.word from to fits.0.in_order fits.0.in_word) ∙ ap length fits.1;
    number = 0;
    low = omega (arith, ap nat_abs is);
    first = λ arguments lengths. refl;
  }
  bounded (Letter class) from to value fits is =
      let e = length_between p.word from to fits.0.in_order fits.0.in_word in
      record {
        in_range = sym e ∙ fits.1.0;
        number = greatest_weight (letters_of p.grammar class) * (to - from);
        low = subst (λ n. nat_abs value ≤ greatest_weight (letters_of p.grammar class) * n) e
            (subst (λ v. nat_abs v ≤ greatest_weight (letters_of p.grammar class)
            * length (letters_between p.word from to)) (sym is)
            (total_low (letters_of p.grammar class) (letters_between p.word from to)));
        first = λ arguments lengths. refl;
      }
  bounded (Run class low high) from to value fits is =
      let e = length_between p.word from to fits.0.in_order fits.0.in_word in
      let R : ℕ → Type 0 = AdmitsLength (Run class low high) in
      record {
        in_range = subst R e (fits.1.0, fits.1.1);
        number = greatest_weight (letters_of p.grammar class) * (to - from);
        low = subst (λ n. nat_abs value ≤ greatest_weight (letters_of p.grammar class) * n) e
            (subst (λ v. nat_abs v ≤ greatest_weight (letters_of p.grammar class)
            * length (letters_between p.word from to)) (sym is)
            (total_low (letters_of p.grammar class) (letters_between p.word from to)));
        first = λ arguments lengths. refl;
      }

  -- lengths of the arguments, at which the bounds bound these values
  record HasLengths (arguments : List Arg) (from to : ℕ) (values : List ℤ) : Type 0 where
    lengths : List ℕ
    in_order : from ≤ to
    fit : AreInRange p.grammar arguments lengths
    sum_is : sum lengths ≡ to - from
    each : length (map nat_abs values) ≡ length (argument_bounds p.grammar bound arguments lengths)
    low : (place : ℕ) → slice_index (map nat_abs values) place ≤ slice_index (argument_bounds p.grammar bound arguments lengths) place

  more_low : (number more : ℕ) (values bounds : List ℕ) → number ≤ more
      → ((place : ℕ) → slice_index values place ≤ slice_index bounds place) → (place : ℕ)
      → slice_index (number ∷ values) place ≤ slice_index (more ∷ bounds) place
  more_low number more values bounds first others zero = first
  more_low number more values bounds first others (suc place) = others place

  lengths_of : (arguments : List Arg) (from to : ℕ) (values : List ℤ)
      → HaveValues p (IsWithinBound p) arguments from to values → HasLengths arguments from to values
  lengths_of [] from to [] have = record { lengths = []; in_order = omega arith; fit = tt; sum_is = omega arith; each = refl; low = λ place. omega arith }
  lengths_of [] from to (value ∷ values) have = absurd have
  lengths_of (argument ∷ arguments) from to [] have = absurd have
  lengths_of (argument ∷ arguments) from to (value ∷ values) have =
      let end : ℕ = have.0 in
      let first = bounded argument from end value have.1 have.2 in
      let others = lengths_of arguments end to values have.3 in
      record {
        lengths = (end - from) ∷ others.lengths;
        in_order = omega (arith, have.1.0.in_order, others.in_order);
        fit = (first.in_range, others.fit);
        sum_is = omega (arith, have.1.0.in_order, others.in_order, others.sum_is, sum_by-cons (λ (n : ℕ). n) (end - from) others.lengths);
        each = omega (arith, others.each, ap length (first.first arguments others.lengths));
        low =
            subst (λ bounds. (place : ℕ) → slice_index (map nat_abs (value ∷ values)) place ≤ slice_index bounds place)
            (sym (first.first arguments others.lengths))
            (more_low (nat_abs value) first.number (map nat_abs values) (argument_bounds p.grammar bound arguments others.lengths) first.low others.low);
      }

within_greatest : (Holds : ℕ → Type 0) (number other : ℕ) → IsGreatest Holds number → Holds other → other ≤ number
within_greatest Holds number other (inl (holds, greatest)) it = greatest other it
within_greatest Holds number other (inr (nothing, none)) it = absurd (none other it)

-- what is so of all terms
pub record AreTermLaws : Type 0 where
  pub rises : (term : Term) (numbers others : List ℕ) → length numbers ≡ length others
      → ((place : ℕ) → slice_index numbers place ≤ slice_index others place)
      → magnitude term numbers ≤ magnitude term others
  pub within : (term : Term) (values : List ℤ) → nat_abs (term_value term values) ≤ magnitude term (map nat_abs values)

-- at all values of its arguments on a cell the term of an alternative is within the word's score bound
pub magnitude_within : AreTermLaws → (p : PosedProblem) → (cell : Cell) (alternative : ℕ) (values : List ℤ) (number : ℕ)
    → IsScoreBound p.grammar p.algebra (length p.word) number → IsSpan p.word cell.from cell.to
    → cell.rule < length p.grammar.rules
    → alternative < length (alternatives_of p.grammar cell.rule)
    → HaveValues p (IsWithinBound p) (arguments_of p.grammar cell.rule alternative) cell.from cell.to values
    → magnitude (term_of p cell.rule alternative) (map nat_abs values) ≤ number
magnitude_within laws p cell alternative values number scores span known in_range have =
    let bound = scores.0 in
    let are = scores.1 in
    let arguments : List Arg = arguments_of p.grammar cell.rule alternative in
    let term : Term = term_of p cell.rule alternative in
    let it = lengths_of p bound are arguments cell.from cell.to values have in
    let bounds = argument_bounds p.grammar bound arguments it.lengths in
    let len = cell.to - cell.from in
    let low = laws.rises term (map nat_abs values) bounds it.each it.low in
    let of_rule = within_greatest (IsMagnitude p.grammar p.algebra bound cell.rule len) (bound cell.rule len) (magnitude term bounds) (are cell.rule len)
    (alternative, it.lengths, record { in_range = in_range; fit = it.fit; sum_is = it.sum_is }, refl) in
    let of_word = within_greatest (λ other. IsRuleBound p.grammar bound (length p.word) other
    ⊎ IsTokenBound p.grammar (length p.word) other) number (bound cell.rule len) scores.2
    (inl (cell.rule, len, known, omega (arith, span.in_word), refl)) in
    omega (arith, low, of_rule, of_word)

-- and so it is low
pub magnitude_low : AreTermLaws → (p : PosedProblem) → IsAdmissible p
    → (cell : Cell) (alternative : ℕ) (values : List ℤ) → IsSpan p.word cell.from cell.to
    → cell.rule < length p.grammar.rules
    → alternative < length (alternatives_of p.grammar cell.rule)
    → HaveValues p (IsWithinBound p) (arguments_of p.grammar cell.rule alternative) cell.from cell.to values
    → magnitude (term_of p cell.rule alternative) (map nat_abs values) ≤ greatest_score
magnitude_low laws p admissible cell alternative values span known in_range have =
    let scores = admissible.limits.scores in
    let low = magnitude_within laws p cell alternative values scores.0 scores.1 span known in_range have in
    omega (arith, low, scores.2)

pub value_low : AreTermLaws → (p : PosedProblem) → IsAdmissible p → (cell : Cell) (alternative : ℕ) (values : List ℤ)
    → IsSpan p.word cell.from cell.to → cell.rule < length p.grammar.rules
    → alternative < length (alternatives_of p.grammar cell.rule)
    → HaveValues p (IsWithinBound p) (arguments_of p.grammar cell.rule alternative) cell.from cell.to values
    → nat_abs (term_value (term_of p cell.rule alternative) values) ≤ greatest_score
value_low laws p admissible cell alternative values span known in_range have =
    let low = magnitude_low laws p admissible cell alternative values span known in_range have in
    let within = laws.within (term_of p cell.rule alternative) values in
    omega (arith, low, within)

-- so is what scores it
module _ (laws : AreTermLaws) (p : PosedProblem) (admissible : IsAdmissible p) (cell : Cell) (alternative : ℕ)
    (constant : ℤ) (factors : List ℤ) (scored : IsScoredBy p cell.rule alternative constant factors)
    (span : IsSpan p.word cell.from cell.to) (known : cell.rule < length p.grammar.rules)
    (in_range : alternative < length (alternatives_of p.grammar cell.rule)) where
  pub scored_low : (values : List ℤ) → HaveValues p (IsWithinBound p) (arguments_of p.grammar cell.rule alternative) cell.from cell.to values
      → nat_abs constant + weighted_total factors (map nat_abs values) ≤ greatest_score
  scored_low values have =
      let low = magnitude_low laws p admissible cell alternative values span known in_range have in
      let long = values_length p (IsWithinBound p) (arguments_of p.grammar cell.rule alternative) cell.from cell.to values have in
      let parts = scored.low (map nat_abs values) (length-map values nat_abs ∙ long) in
      omega (arith, low, parts)

  pub alternative_low : AreLow p (arguments_of p.grammar cell.rule alternative) factors cell.from cell.to
  alternative_low values have =
      let low = scored_low values have in
      omega (arith, low)

-- the scores of all trees are within their bounds
abbrev pub AreBounded : PosedProblem → Type 0
AreBounded p =
    (least : List ℕ) (greatest : List (Option ℕ)) (ranks : List ℕ) → IsChecked p.grammar p.algebra least greatest ranks
    → length p.word ≤ most_letters → (bound : ℕ → ℕ → ℕ) → AreScoreBounds p.grammar p.algebra bound
    → (cell : Cell) (tree : Tree) → Derives p cell tree
    → nat_abs (score_of p tree) ≤ bound cell.rule (cell.to - cell.from)

-- best scores are within their bounds
pub best_within : (p : PosedProblem) → IsAdmissible p → AreBounded p → (cell : Cell) (score : ℤ) → HasBestScore p cell score → IsWithinBound p cell score
best_within p admissible sound cell score (choice, (tree, preferred, score_is, choice_is)) bound are =
    subst (λ it. nat_abs it ≤ bound cell.rule (cell.to - cell.from)) (sym score_is)
    (sound admissible.least admissible.greatest admissible.ranks admissible.checked admissible.limits.letters bound are cell tree preferred.derived)
