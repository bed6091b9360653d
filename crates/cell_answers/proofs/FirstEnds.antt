-- The totals of laid arguments, one end of the first argument after another.
use Rattle.std.proofs.Common.{◌≡◌, ℕ, ◌+◌, ◌≤◌, ◌⊎◌, ℤ, ◌+ℤ◌, ◌*ℤ◌, nat_abs, Option, Some, None, List, ◌∷◌, get_or, refl, ap, inl, inr, arith}
use Rattle.std.specs.List.{Contains}
use Rattle.std.specs.declared.ops.Range.{Range}
use Rattle.adp_model.specs.declared.grammar.Arg.{Arg}
use Rattle.adp_model.specs.declared.grammar.Arg.TheVariants.{Rule, Literal, Letter, Run}
use Rattle.adp_model.specs.declared.cell.Cell.{Cell}
use Rattle.adp_model.specs.PosedProblem.{PosedProblem, IsSpan}
use Rattle.adp_model.specs.Tokens.{letters_between, token_value}
use Rattle.adp_model.specs.ProblemFields.{greatest_score}
use Rattle.adp_model.specs.Splits.{AtRule, FitsSpan}
use Rattle.adp_model.specs.FirstSplit.{IsValue}
use Rattle.adp_model.specs.Bellman.{HasBestScore}
use Rattle.viable_splits.specs.Placing.{on_span, Cover, ArePositions}
use Rattle.split_lines.specs.Laid.{Demands}
use Rattle.cell_tables.specs.Tables.{Table}
use Rattle.cell_answers.specs.Entries.{HasEntry}
use Rattle.cell_answers.specs.Through.{HasTotalAt}
use Rattle.cell_answers.specs.Totals.{HasTotal, IsWithinBound, AreLow, AreWeighted}
use Rattle.score_numbers.specs.Greatest.{IsGreatestOf}
use Rattle.cell_answers.proofs.Totalling.{OneScore, HasTotalBefore, values_kept, values_cover, sum_low, greatest_at, before_all, low_rest, low_parts}
use Rattle.cell_answers.proofs.Greatest.{before_more, before_none}

-- it holds of the argument's cell, if it has one
pub at_rule : (Holds : Cell → Type 0) (argument : Arg) (from to : ℕ)
    → ((rule : ℕ) → argument ≡ Rule rule → Holds (record { rule = rule; from = from; to = to }))
    → AtRule Holds (on_span argument from to)
at_rule Holds (Rule rule) from to each = each rule refl
at_rule Holds (Literal text) from to each = tt
at_rule Holds (Letter class) from to each = tt
at_rule Holds (Run class low high) from to each = tt

-- arguments that are laid, with what is known of their cells and totals
pub record AreLaid (p : PosedProblem) (table : Table ℤ) (arguments : List Arg) (factors : List ℤ) (from to : ℕ) : Type 0 where
  pub weighted : AreWeighted p arguments factors
  pub span : IsSpan p.word from to
  pub scored : (cell : Cell) → Demands p arguments from to cell → HasEntry table cell
  pub low : AreLow p arguments factors from to

-- what holds of all best scores
pub record AreSound (p : PosedProblem) : Type 0 where
  pub within : (cell : Cell) (score : ℤ) → HasBestScore p cell score → IsWithinBound p cell score
  pub one : OneScore (HasBestScore p)

-- a total of best scores is no greater than the greatest score
pub total_low : (p : PosedProblem) → AreSound p → (arguments : List Arg) (factors : List ℤ) (from to : ℕ)
    → AreLow p arguments factors from to → (total : ℤ) → HasTotal p (HasBestScore p) arguments factors from to total
    → nat_abs total ≤ greatest_score
total_low p sound arguments factors from to low total (values, have, is) =
    let all = low values (values_kept p (HasBestScore p) (IsWithinBound p) sound.within arguments from to values have) in
    let sum = sum_low factors values in
    let same = ap nat_abs is in
    omega arith

-- the arguments behind the first one
pub weighted_rest : (p : PosedProblem) (argument : Arg) (others : List Arg) (factor : ℤ) (factors : List ℤ)
    → AreWeighted p (argument ∷ others) (factor ∷ factors) → AreWeighted p others factors
weighted_rest p argument others factor factors it =
    record { known = it.known.1; few = omega (arith, it.few); factors_each = omega (arith, it.factors_each); tokens_low = later_low }
  where
    next : (at : ℕ) (token : Arg) → get_or others at token ≡ token → get_or (argument ∷ others) (at + 1) token ≡ token
    next at token is = grind (arith, is)

    later_low : (token : Arg) (from' to' : ℕ) → Contains others token → FitsSpan p (on_span token from' to')
        → nat_abs (token_value p.grammar token (letters_between p.word from' to')) ≤ greatest_score
    later_low token from' to' (at, within, is) fits' = it.tokens_low token from' to' (at + 1, omega arith, next at token is) fits'

module _ (p : PosedProblem) (table : Table ℤ) (argument : Arg) (others : List Arg) (factor : ℤ) (factors : List ℤ)
    (from to : ℕ) (laid : AreLaid p table (argument ∷ others) (factor ∷ factors) from to) (end : ℕ)
    (fits : FitsSpan p (on_span argument from end)) where
  pub first_low : nat_abs (token_value p.grammar argument (letters_between p.word from end)) ≤ greatest_score
  first_low = laid.weighted.tokens_low argument from end (0, omega arith, refl) fits

  pub first_known_entry : Cover p others end to → AtRule (HasEntry table) (on_span argument from end)
  first_known_entry cover = at_rule (HasEntry table) argument from end (λ rule e.
      laid.scored (record { rule = rule; from = from; to = end }) (end, fits, inl (record { rule = e; begins = refl; ends = refl }, cover)))

  pub rest_laid : end ≤ to → AreLaid p table others factors end to
  rest_laid l = record {
    weighted = weighted_rest p argument others factor factors laid.weighted;
    span = record { in_order = l; in_word = laid.span.in_word };
    scored = λ cell demands. laid.scored cell (end, fits, inr demands);
    low = low_rest p argument others factor factors from end to laid.low fits;
  }

  -- the value of the first argument and a total of the others
  pub total_here : (value : ℤ) → (AtRule (HasEntry table) (on_span argument from end)
      → IsValue p (HasBestScore p) (on_span argument from end) value) → (rest : ℤ)
      → HasTotal p (HasBestScore p) others factors end to rest
      → HasTotalAt p (HasBestScore p) argument others factor factors from end to ((factor *ℤ value) +ℤ rest)
  total_here value told rest total = record {
    fits = fits;
    value = value;
    is_value = told (first_known_entry (values_cover p (HasBestScore p) others end to total.0 total.1));
    others = rest;
    have_others = total;
    is = refl;
  }

  pub parts_low : AreSound p → (value : ℤ)
      → (AtRule (HasEntry table) (on_span argument from end)
      → IsValue p (HasBestScore p) (on_span argument from end) value) → (rest : ℤ)
      → HasTotal p (HasBestScore p) others factors end to rest
      → (nat_abs (factor *ℤ value) ≤ greatest_score) × (nat_abs rest ≤ greatest_score) × (nat_abs ((factor *ℤ value) +ℤ rest) ≤ greatest_score)
  unfolding total_here
  parts_low sound value told rest total =
      low_parts p (HasBestScore p) sound.within argument others factor factors from end to ((factor *ℤ value) +ℤ rest)
      laid.low (total_here value told rest total)

  pub found_more : AreSound p → (value rest : ℤ)
      → (AtRule (HasEntry table) (on_span argument from end)
      → IsValue p (HasBestScore p) (on_span argument from end) value)
      → IsGreatestOf (HasTotal p (HasBestScore p) others factors end to) (Some rest)
      → (before both : Option ℤ) → IsGreatestOf (HasTotalBefore p (HasBestScore p) argument others factor factors from
      to end) before → IsGreatestOf (λ number. (before ≡ Some number)
      ⊎ (Some ((factor *ℤ value) +ℤ rest) ≡ Some number)) both
      → IsGreatestOf (HasTotalBefore p (HasBestScore p) argument others factor factors from to (end + 1)) both
  unfolding total_here
  found_more sound value rest told greatest before both is either =
      before_more (λ it. HasTotalAt p (HasBestScore p) argument others factor factors from it to) end before is (Some ((factor *ℤ value) +ℤ rest)) both
      (greatest_at p (HasBestScore p) argument others factor factors from to sound.one end value rest fits
      (total_here value told rest greatest.0).is_value greatest) either

  pub unvalued_more : (AtRule (HasEntry table) (on_span argument from end) → (value : ℤ) → IsValue p (HasBestScore p) (on_span argument from end) value → ⊥)
      → (before : Option ℤ) → IsGreatestOf (HasTotalBefore p (HasBestScore p) argument others factor factors from to
      end) before → IsGreatestOf (HasTotalBefore p (HasBestScore p) argument others factor factors from to
      (end + 1)) before
  unvalued_more none before is =
      before_none (λ it. HasTotalAt p (HasBestScore p) argument others factor factors from it to) end before is
      (λ number it. none (first_known_entry (values_cover p (HasBestScore p) others end to it.have_others.0 it.have_others.1)) it.value it.is_value)

  pub untotalled_more : IsGreatestOf (HasTotal p (HasBestScore p) others factors end to) None
      → (before : Option ℤ) → IsGreatestOf (HasTotalBefore p (HasBestScore p) argument others factor factors from to
      end) before → IsGreatestOf (HasTotalBefore p (HasBestScore p) argument others factor factors from to
      (end + 1)) before
  untotalled_more none before is =
      before_none (λ it. HasTotalAt p (HasBestScore p) argument others factor factors from it to) end before is (λ number it. none it.others it.have_others)

module _ (p : PosedProblem) (argument : Arg) (others : List Arg) (factor : ℤ) (factors : List ℤ) (from to : ℕ)
    (positions : Range ℕ) (are : ArePositions p argument others from to positions) where
  -- before the first position there is no total
  pub none_first : (number : ℤ) → HasTotalBefore p (HasBestScore p) argument others factor factors from to positions.start number → ⊥
  none_first number it =
      let missed = are.none_missed it.0 it.2.fits (values_cover p (HasBestScore p) others it.0 to it.2.have_others.0 it.2.have_others.1) in
      omega (arith, missed.0, it.1)

  -- and behind the last one neither
  pub all_found : (bound : ℕ) (greatest : Option ℤ) → positions.end ≤ bound
      → IsGreatestOf (HasTotalBefore p (HasBestScore p) argument others factor factors from to bound) greatest
      → IsGreatestOf (HasTotal p (HasBestScore p) (argument ∷ others) (factor ∷ factors) from to) greatest
  all_found bound greatest l before =
      before_all p (HasBestScore p) argument others factor factors from to bound greatest
      (λ end fits cover. omega (arith, (are.none_missed end fits cover).1)) before
