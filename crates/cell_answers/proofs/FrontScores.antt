-- What an alternative is worth on a cell whose first letters its tokens in front have.
use Rattle.std.proofs.Common.{◌≡◌, ℕ, ◌+◌, ◌<◌, ◌≤◌, ℤ, ◌+ℤ◌, nat_abs, Some, None, List, ◌++◌, length, take, drop, refl}
use Rattle.std.proofs.Common.{sym, ap, subst, ◌∙◌, arith, length-append}
use Rattle.std.proofs.Math.Seq.{take-add, drop-append-add}
use Rattle.adp_model.specs.declared.grammar.Arg.{Arg}
use Rattle.adp_model.specs.declared.cell.Cell.{Cell}
use Rattle.adp_model.specs.PosedProblem.{PosedProblem, IsSpan}
use Rattle.adp_model.specs.Parts.{alternatives_of, arguments_of}
use Rattle.adp_model.specs.ProblemFields.{greatest_score, IsAdmissible}
use Rattle.adp_model.specs.Bellman.{HasBestScore}
use Rattle.split_lines.specs.declared.kept.KeptAlternative.{KeptAlternative}
use Rattle.split_lines.specs.declared.kept.WeightedSum.{WeightedSum}
use Rattle.split_lines.specs.declared.lines.Line.{Line}
use Rattle.split_lines.specs.Kept.{IsAlternative, IsSummed}
use Rattle.split_lines.specs.Lines.{IsLine}
use Rattle.split_lines.specs.Ways.{IsClosed}
use Rattle.cell_answers.specs.Totals.{HasLaidScore, HasTotal, HasTurnedScore}
use Rattle.score_numbers.specs.Greatest.{IsGreatestOf}
use Rattle.cell_answers.proofs.Alternatives.{with_constant_low}
use Rattle.cell_answers.proofs.Bounding.{AreTermLaws}
use Rattle.cell_answers.proofs.FirstEnds.{AreSound}
use Rattle.cell_answers.proofs.Scoring.{turned_greatest}
use Rattle.cell_answers.proofs.Splitting.{split_of_values}

module _ (p : PosedProblem) (cell : Cell) (alternative : ℕ) (kept : KeptAlternative) (is : IsAlternative p cell.rule alternative kept) where
  abbrev pub both : List Arg
  both = kept.front.now ++ kept.others.now

  -- what holds of the arguments of the alternative holds of those that are kept
  pub to_kept : (P : List Arg → Type 0) → P (arguments_of p.grammar cell.rule alternative) → P both
  to_kept P it = subst P is.arguments it

  from_kept : (P : List Arg → Type 0) → P both → P (arguments_of p.grammar cell.rule alternative)
  from_kept P it = subst P (sym is.arguments) it

  -- nothing has a score where the cell has no viable split
  pub no_score_closed : alternative < length (alternatives_of p.grammar cell.rule)
      → 1 ≤ length (arguments_of p.grammar cell.rule alternative) → IsClosed p kept cell
      → IsGreatestOf (HasTurnedScore p cell alternative) None
  no_score_closed in_range some closed number (allowed, (values, have, scored)) =
      let few : length (arguments_of p.grammar cell.rule alternative)
      ≤ 4 = omega (arith, is.few, ap length is.arguments, length-append kept.front.now kept.others.now) in
      let split = split_of_values p (HasBestScore p) cell alternative values in_range allowed some few have in
      closed alternative split.0 is split.1

  -- a line of the arguments behind the tokens in front is one of all
  pub line_of_all : (line : Line) → IsLine p (drop line.first kept.others.now) line
      → IsLine p (drop (length kept.front.now + line.first) (arguments_of p.grammar cell.rule alternative)) line
  line_of_all line it =
      from_kept (λ arguments. IsLine p (drop (length kept.front.now + line.first) arguments) line)
      (subst (λ arguments. IsLine p arguments line) (sym (drop-append-add kept.front.now kept.others.now line.first)) it)

  -- the sum that scores it
  module _ (sum : WeightedSum) (summed : IsSummed p cell.rule alternative kept sum) where
    abbrev pub front_factors : List ℤ
    front_factors = take (length kept.front.now) sum.factors

    abbrev pub other_factors : List ℤ
    other_factors = take (length kept.others.now) (drop (length kept.front.now) sum.factors)

    abbrev pub all_factors : List ℤ
    all_factors = front_factors ++ other_factors

    pub others_each : length other_factors ≡ length kept.others.now
    others_each =
        omega (
          arith,
          summed.scored.each,
          summed.front_each,
          ap length is.arguments,
          length-append kept.front.now
              kept.others.now,
          length-append front_factors other_factors,
        )

    pub no_score : IsGreatestOf (HasTotal p (HasBestScore p) both all_factors cell.from cell.to) None → IsGreatestOf (HasLaidScore p cell alternative) None
    no_score none =
        turned_greatest p cell alternative sum.constant all_factors summed.scored None
        (from_kept (λ arguments. IsGreatestOf (HasTotal p (HasBestScore p) arguments all_factors cell.from cell.to) None) none) None refl

    pub score_is : (total : ℤ) → IsGreatestOf (HasTotal p (HasBestScore p) both all_factors cell.from cell.to) (Some total)
        → IsGreatestOf (HasLaidScore p cell alternative) (Some (sum.constant +ℤ total))
    score_is total greatest =
        turned_greatest p cell alternative sum.constant all_factors summed.scored (Some total)
        (from_kept (λ arguments. IsGreatestOf (HasTotal p (HasBestScore p) arguments all_factors cell.from cell.to)
        (Some total)) greatest) (Some (sum.constant +ℤ total)) refl

    pub all_low : AreTermLaws → IsAdmissible p → AreSound p → (total : ℤ) → IsSpan p.word cell.from cell.to
        → cell.rule < length p.grammar.rules → alternative < length (alternatives_of p.grammar cell.rule)
        → HasTotal p (HasBestScore p) both all_factors cell.from cell.to total
        → nat_abs (sum.constant +ℤ total) ≤ greatest_score
    all_low laws admissible sound total span in_rules in_range has =
        with_constant_low laws p admissible cell alternative sum.constant all_factors summed.scored span in_rules in_range sound total
        (from_kept (λ arguments. HasTotal p (HasBestScore p) arguments all_factors cell.from cell.to total) has)

    -- the factors, as they stand one behind the other
    pub factors_taken : take (length (arguments_of p.grammar cell.rule alternative)) sum.factors ≡ all_factors
    factors_taken =
        let count : length (arguments_of p.grammar cell.rule alternative) ≡ length kept.front.now
        + length kept.others.now = ap length is.arguments ∙ length-append kept.front.now kept.others.now in
        ap (λ n. take n sum.factors) count ∙ take-add (length kept.front.now) (length kept.others.now) sum.factors
