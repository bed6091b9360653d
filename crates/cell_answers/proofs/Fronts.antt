-- Totals of arguments behind tokens of fixed length in front of them.
use Rattle.std.proofs.Common.{◌≡◌, ℕ, ◌≤◌, ℤ, ◌+ℤ◌, nat_abs, Some, None, List, ◌++◌, length, subst, arith}
use Rattle.std.specs.List.{AllByRecursion}
use Rattle.std.proofs.lemmas.Int.{ints}
use Rattle.adp_model.specs.declared.grammar.Arg.{Arg}
use Rattle.adp_model.specs.PosedProblem.{PosedProblem}
use Rattle.adp_model.specs.ProblemFields.{greatest_score}
use Rattle.adp_model.specs.Bellman.{HasBestScore}
use Rattle.viable_splits.specs.Placing.{Cover}
use Rattle.split_lines.specs.Laid.{IsFixed}
use Rattle.cell_tables.specs.Tables.{Table}
use Rattle.cell_answers.specs.Totals.{HasTotal, AreLow, AreWeighted}
use Rattle.score_numbers.specs.Greatest.{IsGreatestOf}
use Rattle.cell_answers.proofs.WholeLines.{demands_back}
use Rattle.cell_answers.proofs.FirstEnds.{AreLaid, AreSound, total_low}
use Rattle.cell_answers.proofs.FrontPositions.{weighted_front, weighted_back}
use Rattle.cell_answers.proofs.LineTotals.{AreTotals, totals_parted, totals_joined, low_front, low_back, fixed_total_unique}
use Rattle.cell_answers.proofs.Totalling.{values_cover}

module _ (p : PosedProblem) (table : Table ℤ) (front others : List Arg) (factors more : List ℤ) (from end to : ℕ)
    (fixed : AllByRecursion IsFixed front) (each : length factors ≡ length front)
    (laid : AreLaid p table (front ++ others) (factors ++ more) from to) (within : end ≤ to)
    (covers : Cover p front from end) (only : (other : ℕ) → Cover p front from other → other ≡ end) where
  pub others_laid : AreLaid p table others more end to
  others_laid = record {
    weighted = weighted_back p front others factors more each laid.weighted;
    span = record { in_order = within; in_word = laid.span.in_word };
    scored = λ cell demands. laid.scored cell (demands_back p front others from end to cell covers demands);
    low = low_back p front others factors more from end to each laid.low covers;
  }

  pub front_weighted : AreWeighted p front factors
  front_weighted = weighted_front p front others factors more each laid.weighted

  pub front_low : (rest : ℤ) → HasTotal p (HasBestScore p) others more end to rest → AreLow p front factors from end
  front_low rest has = low_front p front others factors more from end to each laid.low (values_cover p (HasBestScore p) others end to has.0 has.1)

  parted : (total : ℤ) → HasTotal p (HasBestScore p) (front ++ others) (factors ++ more) from to total
      → AreTotals p (HasBestScore p) front others factors more from to total
  parted = totals_parted p (HasBestScore p) front others factors more from to each

  at_end : (total : ℤ) (it : AreTotals p (HasBestScore p) front others factors more from to total) → it.middle ≡ end
  at_end total it = only it.middle (values_cover p (HasBestScore p) front from it.middle it.front_has.0 it.front_has.1)

  -- without a total of the others there is none
  pub total_without_others : IsGreatestOf (HasTotal p (HasBestScore p) others more end to) None
      → IsGreatestOf (HasTotal p (HasBestScore p) (front ++ others) (factors ++ more) from to) None
  total_without_others none total has =
      let it = parted total has in
      none it.back_total (subst (λ n. HasTotal p (HasBestScore p) others more n to it.back_total) (at_end total it) it.back_has)

  -- the total of the tokens with the greatest of the others
  pub greatest_with_front : (a b : ℤ) → HasTotal p (HasBestScore p) front factors from end a
      → IsGreatestOf (HasTotal p (HasBestScore p) others more end to) (Some b)
      → IsGreatestOf (HasTotal p (HasBestScore p) (front ++ others) (factors ++ more) from to) (Some (a +ℤ b))
  greatest_with_front a b has greatest = (
    totals_joined p (HasBestScore p) front others factors more from to each end a b has greatest.0,
    λ number has'.
        let it = parted number has' in
        let l = greatest.1 it.back_total (subst (λ n. HasTotal p (HasBestScore p) others more n to it.back_total) (at_end number it) it.back_has) in
        let same : it.front_total ≡ a = fixed_total_unique p (HasBestScore p) front factors from it.middle end it.front_total a fixed it.front_has has in
        let e = it.is in
        omega (arith, ints),
  )

  pub both_low : AreSound p → (a b : ℤ) → HasTotal p (HasBestScore p) front factors from end a
      → HasTotal p (HasBestScore p) others more end to b → nat_abs (a +ℤ b) ≤ greatest_score
  both_low sound a b has has' =
      total_low p sound (front ++ others) (factors ++ more) from to laid.low (a +ℤ b)
      (totals_joined p (HasBestScore p) front others factors more from to each end a b has has')
