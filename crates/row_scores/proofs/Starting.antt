-- What an alternative begins with: its constant, where the cells begin.
use Rattle.std.proofs.Common.{◌≡◌, ℕ, suc, ◌+◌, ◌<◌, ◌≤◌, ℤ, pos, ◌<ℤ◌, nat_abs, IsSome, Some, List, [], ◌∷◌, length, map, get_or, slice_get, refl, sym, ap, subst, ◌∙◌, arith}
use Rattle.std.specs.List.{AllByRecursion, Contains}
use Rattle.std.proofs.lemmas.Int.{ints}
use Rattle.std.proofs.lemmas.List.{length-map}
use Rattle.std.proofs.lemmas.Option.{slice_get-get_or}
use Rattle.adp_model.specs.declared.grammar.Arg.{Arg}
use Rattle.adp_model.specs.declared.cell.Answer.TheVariants.{Best, NoCandidate}
use Rattle.adp_model.specs.declared.cell.Cell.{Cell}
use Rattle.adp_model.specs.PosedProblem.{PosedProblem, IsSpan}
use Rattle.adp_model.specs.ProblemFields.{IsAdmissible}
use Rattle.adp_model.specs.Parts.{alternatives_of, arguments_of}
use Rattle.adp_model.specs.Cells.{IsCounted}
use Rattle.adp_model.specs.Demand.{IsDemanded}
use Rattle.adp_model.specs.Terms.{weighted_total}
use Rattle.viable_splits.specs.Placing.{Cover}
use Rattle.cell_tables.specs.Spans.{value_at}
use Rattle.cell_tables.specs.Tables.{AreCells, Table}
use Rattle.split_lines.specs.Kept.{IsScoredBy}
use Rattle.split_lines.specs.Laid.{Demands}
use Rattle.cell_answers.specs.Totals.{HaveValues, IsWithinBound}
use Rattle.cell_answers.proofs.Bounding.{AreBounded, AreTermLaws, best_within, magnitude_within}
use Rattle.cell_answers.proofs.Scoring.{one_score}
use Rattle.cell_answers.proofs.Soundness.{IsAnsweredOnce}
use Rattle.cell_answers.proofs.Splitting.{child_of_demands}
use Rattle.cell_answers.proofs.Totalling.{values_length}
use Rattle.score_numbers.specs.Packing.{Width}
use Rattle.score_rows.specs.Numbers.{AreDead, StandsFor, least}
use Rattle.score_rows.specs.Raised.{AreHighest, IsAnywhere, IsAt}
use Rattle.score_rows.proofs.Highest.{stands_now}
use Rattle.score_rows.proofs.Positions.{some_position}
use Rattle.row_scores.specs.Ready.{AreReady, AreRows, Front, HasFront, IsLowProblem, IsWanted}
use Rattle.row_scores.specs.RowNumbers.{HaveChildren, IsInRow, IsNumberOf}
use Rattle.row_scores.specs.Steps.{IsLowToken}
use Rattle.row_scores.proofs.Stepping.{some_values}

-- what is known of a table's rows and of best scores
pub are_rows : {N : Type 0} (value : N → ℤ) (table : Table N) (p : PosedProblem) (width : Width) → AreCells table → table.problem ≡ p
    → IsAdmissible p → AreBounded p → IsAnsweredOnce p → width.mark <ℤ least width → AreRows p width (IsInRow value table)
are_rows value table p width cells same admissible bounded once dead = record {
  within = best_within p admissible bounded;
  one = one_score p (λ cell a b. once cell a b admissible.checked.well_formed);
  apart = λ cell score (choice, best) none.
      let e : Best score choice ≡ NoCandidate = once cell (Best score choice) NoCandidate admissible.checked.well_formed best none in absurd cc;
  alone = λ rule from to a b (item, there, is) (item', there', is'). let e : item ≡ item' = cc in is ∙ ap value e ∙ sym is';
  fit = λ rule from to number (item, there, is).
      let cell : Cell = record { rule = rule; from = from; to = to } in
      let some : IsSome (value_at table.rows rule from to) = subst IsSome (sym there) refl in
      let counted : IsCounted p.grammar (length p.word) cell =
      subst (λ (q : PosedProblem). IsCounted q.grammar (length q.word) cell) same ((cells.rows_are cell).0 some) in
      (record { in_order = counted.in_order; in_word = counted.in_word }, counted.size);
  dead = dead;
}

pub all_low : (p : PosedProblem) (arguments : List Arg) → ((token : Arg) → Contains arguments token → IsLowToken p token)
    → AllByRecursion (IsLowToken p) arguments
all_low p [] low = tt
all_low p (argument ∷ arguments) low =
    (low argument (0, omega arith, refl), all_low p arguments (λ token (at, within, is). low token (suc at, omega (arith, within), is)))

module _ (p : PosedProblem) (width : Width) (laws : AreTermLaws) (bounds : IsLowProblem p width)
    (counted : (cell : Cell) → IsDemanded p cell → IsCounted p.grammar (length p.word) cell) (rule number from : ℕ) (constant : ℤ) (factors : List ℤ)
    (scored : IsScoredBy p rule number constant factors) (in_range : number < length (alternatives_of p.grammar rule))
    (known : rule < length p.grammar.rules) where
  -- nothing is gone through
  abbrev pub at_start : Front
  at_start = record { rule = rule; alternative = number; from = from; constant = constant; passed = [] }

  -- the cell of the start that ends here
  abbrev pub cell_to : ℕ → Cell
  cell_to end = record { rule = rule; from = from; to = end }

  pub span_to : (end : ℕ) → IsDemanded p (cell_to end) → IsSpan p.word from end
  span_to end demanded = let it = counted (cell_to end) demanded in record { in_order = it.in_order; in_word = it.in_word }

  -- no part of a score is greater than the limit
  pub low_total : (end : ℕ) (values : List ℤ) → IsDemanded p (cell_to end) → HaveValues p (IsWithinBound p) (arguments_of p.grammar rule number) from end values
      → nat_abs constant + weighted_total factors (map nat_abs values) ≤ width.limit
  low_total end values demanded have =
      let magnitude = magnitude_within laws p (cell_to end) number values bounds.bound bounds.is_bound (span_to end demanded) known in_range have in
      let long = values_length p (IsWithinBound p) (arguments_of p.grammar rule number) from end values have in
      let parts = scored.low (map nat_abs values) (length-map values nat_abs ∙ long) in
      omega (arith, magnitude, parts, bounds.low)

  low_from : (position end : ℕ) (values : List ℤ) → position ≡ from → IsDemanded p (cell_to end)
      → HaveValues p (IsWithinBound p) (arguments_of p.grammar rule number) position end values
      → nat_abs constant + weighted_total factors (map nat_abs values) ≤ width.limit
  low_from position end values here demanded have =
      low_total end values demanded (subst (λ k. HaveValues p (IsWithinBound p) (arguments_of p.grammar rule number) k end values) here have)

  constant_low : (position end : ℕ) → position ≡ from → IsDemanded p (cell_to end) → Cover p (arguments_of p.grammar rule number) position end
      → nat_abs constant ≤ width.limit
  constant_low position end here demanded covers =
      let some = some_values p (arguments_of p.grammar rule number) position end covers in
      let low = low_from position end some.0 here demanded some.1 in
      omega (arith, low)

  module _ (old reached : List ℤ) (put : ℤ) (dead : AreDead width old) (exact : nat_abs constant ≤ width.limit → put ≡ constant)
      (raised : AreHighest width (IsAt from put) IsAnywhere old reached) where
    stands_first : (position end : ℕ) (at : ℤ) → IsWanted p at_start end → Cover p (arguments_of p.grammar rule number) position end
        → slice_get reached position ≡ Some at → StandsFor width (HasFront p at_start position) at
    stands_first position end at wanted covers there =
        let before = get_or old position (pos 0) in
        let was : slice_get old position ≡ Some before =
        slice_get-get_or old position (pos 0) (omega (arith, raised.as_many, some_position reached position at there)) in
        let one = raised.each position before was tt in
        let same : one.0 ≡ at = (let e = one.1 in cc) in
        subst (StandsFor width (HasFront p at_start position)) same
        (stands_now width (IsAt from put position) (HasFront p at_start position) before one.0 (dead position before was) one.2
        (λ sum (here, is).
        let low = constant_low position end here wanted.demanded covers in
        let sum_is : sum ≡ constant = is ∙ exact low in
        ((here, sum_is), omega (arith, ints, low, sum_is)))
        (λ total (here, is).
        let low = constant_low position end here wanted.demanded covers in
        let put_is = exact low in
        (put, (here, refl), omega (arith, ints, is, put_is))))

    pub ready_first : {N : Type 0} (value : N → ℤ) (table : Table N) → table.problem ≡ p → length (arguments_of p.grammar rule number) ≤ 4
        → from ≤ length p.word → length old ≡ length p.word + 1 → HaveChildren width value p table rule from
        → AreReady p width (IsInRow value table) (HasFront p at_start) (IsWanted p at_start) (arguments_of p.grammar rule number) factors reached
    ready_first value table same few in_word long children = record {
      each = scored.each;
      long = raised.as_many ∙ long;
      within = λ position total (here, is). omega (arith, here, in_word);
      stand = stands_first;
      scored = λ position end total child (here, is) wanted demands.
          let demands' : Demands p (arguments_of p.grammar rule number) from end child =
          subst (λ k. Demands p (arguments_of p.grammar rule number) k end child) here demands in
          let it = children end child wanted.demanded (child_of_demands p (cell_to end) number child in_range wanted.allowed few demands') in
          (value it.item, (it.item, it.in_row, refl), subst (λ q. IsNumberOf width q child (value it.item)) same it.is);
      low = λ position end total values (here, is) wanted have.
          let low = low_from position end values here wanted.demanded have in
          let same = ap nat_abs is in
          omega (arith, low, same);
    }
